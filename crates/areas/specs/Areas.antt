-- The areas in words: count 4, then the four sizes in words, each up to its
-- limit (3); or count 5, and after the sizes the level, 1 or 2 (3). Count 4 means Level 1. Assumes nothing.
use Rattle.std.specs.Prelude.{ℕ, ◌+◌, Bool, true, false, cond, ◌||◌, List, [], ◌∷◌, eqb, length, take, drop, Result, Ok, Err}
use Rattle.verdict.specs.Lists.{Words}
use Rattle.verdict.specs.declared.Fault.{Fault}
use Rattle.verdict.specs.declared.Fault.TheVariants.{Count, Limit}
use Rattle.verdict.specs.declared.Refusal.{Refusal}
use Rattle.verdict.specs.Verdict.{Verdict, and_then}
use Rattle.section.specs.Limit.{counted, up_to, counted_test, up_to_test}
use Rattle.section.specs.Walk.{word, first_of, reached}
use Rattle.section.specs.Section.{Section, front}
use Rattle.level.specs.Level.{most_level}
use Rattle.table.specs.declared.sizes.Sizes.{Sizes}
use Rattle.table.specs.Table.{most_coils, most_discretes, most_inputs, most_holding}

-- what the sizes earn, in their order, a size past its limit (3); and after them the level, another than 1 or 2 (3)
unfoldable pub sizes_faults : Sizes → List ℕ
sizes_faults z =
    up_to most_coils z.coils 3 ∷ up_to most_discretes z.discretes 3 ∷ up_to most_inputs z.inputs 3 ∷ up_to most_holding z.holding 3
    ∷ counted most_level z.level 3 ∷ []

-- whether a count has the level among its words, and whether it is an allowed one
abbrev pub has_level : ℕ → Bool
has_level count = eqb count 5

abbrev pub area_count : ℕ → Bool
area_count count = eqb count 4 || has_level count

-- how many words follow the count
abbrev pub area_words : ℕ → ℕ
area_words count = cond (has_level count) 5 4

-- the sizes and the level that they spell
abbrev pub sizes_in : ℕ → Words → Sizes
sizes_in count ws = record {
  coils = word ws 0;
  discretes = word ws 1;
  inputs = word ws 2;
  holding = word ws 3;
  level = cond (has_level count) (word ws 4) 1;
}

unfoldable pub areas_section : Section Sizes
areas_section = record {
  allows = λ z count. area_count count;
  earns = λ z count ws. take (area_words count) (sizes_faults (sizes_in count ws));
  spells = λ z count ws. sizes_in count ws;
}

-- the words of sizes, with the level or without it
unfoldable pub areas_spelled : Bool → Sizes → Words
areas_spelled true z = 5 ∷ z.coils ∷ z.discretes ∷ z.inputs ∷ z.holding ∷ z.level ∷ []
areas_spelled false z = 4 ∷ z.coils ∷ z.discretes ∷ z.inputs ∷ z.holding ∷ []

-- what stands at the front of the words: the sizes that they spell, whatever they earn, and the index after the areas
abbrev pub sizes_of : Words → Sizes
sizes_of ws = sizes_in (first_of ws) (drop 1 ws)

abbrev pub areas_end : Words → ℕ
areas_end ws = 1 + area_words (first_of ws)

-- ---- for the calls

abbrev pub no_sizes : Sizes
no_sizes = sizes_in 4 []

abbrev pub areas_judged : Words → Verdict
areas_judged ws = front (areas_section ∷ []) no_sizes ws

-- the words as the code tests them, one after the other
abbrev pub count_test : Bool → Result Unit Fault
count_test allows = cond allows (Ok tt) (Err Count)

abbrev pub level_tested : Words → Sizes → Result Unit Refusal
level_tested ws z = cond (has_level (first_of ws)) (reached (counted_test most_level z.level Limit) (length ws) (0 + 5)) (Ok tt)

unfoldable pub areas_tested : Words → Result Sizes Refusal
areas_tested ws =
    and_then (reached (count_test (area_count (first_of ws))) (length ws) (0 + 0)) (λ (_ : Unit).
    and_then (reached (up_to_test most_coils (sizes_of ws).coils Limit) (length ws) (0 + 1)) (λ (_ : Unit).
    and_then (reached (up_to_test most_discretes (sizes_of ws).discretes Limit) (length ws) (0 + 2)) (λ (_ : Unit).
    and_then (reached (up_to_test most_inputs (sizes_of ws).inputs Limit) (length ws) (0 + 3)) (λ (_ : Unit).
    and_then (reached (up_to_test most_holding (sizes_of ws).holding Limit) (length ws) (0 + 4)) (λ (_ : Unit).
    and_then (level_tested ws (sizes_of ws)) (λ (_ : Unit). Ok (sizes_of ws)))))))
