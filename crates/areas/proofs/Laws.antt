-- The laws of the areas: how many words they have, when these earn nothing, and which they are. Assumes nothing.
use mathlib.Core.Path.{◌≡◌, refl, sym, ap, ◌∙◌, subst⁻¹}
use mathlib.Core.Bool.{Bool, true, false, cond, ◌||◌}
use mathlib.Core.List.{List, [], ◌∷◌}
use mathlib.Core.Logic.{◌↔◌}
use Prim.Native.Nat.{ℕ, ◌+◌, ◌≤◌}
use native.Mathlib.Omega.{arith}
use borrow.Author.Tests.{eqb-true}
use lib.Dec.{eqb}
use lib.ListN.{length, take, drop}
use lib.Seq.{length-take-le}
use Rattle.section.specs.Walk.{word, first_of, seek}
use Rattle.section.specs.Section.{section_earns, earned, judged_from, front}
use Rattle.section.proofs.Limits.{most_of, count_of, up_to_in, counted_in}
use Rattle.section.proofs.Walk.{turn_last}
use Rattle.section.specs.Truths.{Clean}
use Rattle.level.specs.Level.{most_level}
use Rattle.table.specs.declared.sizes.Sizes.{Sizes}
use Rattle.table.specs.Table.{most_coils, most_discretes, most_inputs, most_holding}
use Rattle.table.specs.Sound.{GoodSizes}
use Rattle.areas.specs.Areas.{sizes_faults, has_level, area_count, area_words, sizes_in, areas_section, areas_spelled, sizes_of, areas_end, no_sizes}

-- ---- how many words: five or six
few_words : (b : Bool) → cond b 5 4 ≤ 5
few_words true = omega arith
few_words false = omega arith

pub areas_few : (ws : List ℕ) → areas_end ws ≤ 6
areas_few ws = omega (arith, few_words (has_level (first_of ws)))

pub areas_long : (ws : List ℕ) → length (section_earns areas_section no_sizes ws) ≡ areas_end ws
unfolding section_earns areas_section sizes_faults
areas_long ws = omega (arith, length-take-le (area_words (first_of ws)) (sizes_faults (sizes_of ws)) (few_words (has_level (first_of ws))))

-- ---- the count is judged, then the words after it
module _ (ws : List ℕ) where
  abbrev after_count : List ℕ
  after_count = take (area_words (first_of ws)) (sizes_faults (sizes_of ws))

  pub areas_alone : seek (section_earns areas_section no_sizes ws) (length ws) 0 ≡ front (areas_section ∷ []) no_sizes ws
  unfolding judged_from earned
  areas_alone = turn_last (length ws) (section_earns areas_section no_sizes ws) 0

-- ---- they earn nothing exactly where the sizes and the level are good: a level that is not among them is 1
good_sizes : (z : Sizes) → Clean (sizes_faults z) → GoodSizes z
unfolding Clean sizes_faults
good_sizes z c =
    let level = count_of most_level z.level 3 (λ q. omega arith) c.1.1.1.1.0 in
    record {
      coils = most_of most_coils z.coils 3 (λ q. omega arith) c.0;
      discretes = most_of most_discretes z.discretes 3 (λ q. omega arith) c.1.0;
      inputs = most_of most_inputs z.inputs 3 (λ q. omega arith) c.1.1.0;
      holding = most_of most_holding z.holding 3 (λ q. omega arith) c.1.1.1.0;
      level_low = level.0;
      level_high = level.1;
    }

sizes_clean : (z : Sizes) → GoodSizes z → Clean (sizes_faults z)
unfolding Clean sizes_faults
sizes_clean z g = (
  up_to_in most_coils z.coils 3 g.coils,
  (
    up_to_in most_discretes z.discretes 3 g.discretes,
    (
      up_to_in most_inputs z.inputs 3 g.inputs,
      (
        up_to_in most_holding z.holding 3 g.holding,
        (
          counted_in most_level z.level 3 g.level_low g.level_high,
          tt,
        ),
      ),
    ),
  ),
)

abbrev sizes_by : Bool → List ℕ → Sizes
sizes_by b l = record { coils = word l 0; discretes = word l 1; inputs = word l 2; holding = word l 3; level = cond b (word l 4) 1 }

clean_by : (b : Bool) (l : List ℕ) → Clean (take (cond b 5 4) (sizes_faults (sizes_by b l))) ↔ Clean (sizes_faults (sizes_by b l))
unfolding Clean sizes_faults
clean_by true l = (λ c. c, λ c. c)
clean_by false l = (
  λ c. (c.0, (c.1.0, (c.1.1.0, (c.1.1.1.0, (refl, tt))))),
  λ c. (c.0, (c.1.0, (c.1.1.0, (c.1.1.1.0, tt)))),
)

pub areas_good : (ws : List ℕ) → Clean (take (area_words (first_of ws)) (sizes_faults (sizes_of ws))) → GoodSizes (sizes_of ws)
areas_good ws c = good_sizes (sizes_of ws) ((clean_by (has_level (first_of ws)) (drop 1 ws)).0 c)

pub good_areas : (ws : List ℕ) → GoodSizes (sizes_of ws) → Clean (take (area_words (first_of ws)) (sizes_faults (sizes_of ws)))
good_areas ws g = (clean_by (has_level (first_of ws)) (drop 1 ws)).1 (sizes_clean (sizes_of ws) g)

-- ---- they are the words of the sizes that they spell
five_words : (l : List ℕ) → 5 ≤ length l → areas_spelled true (sizes_in 5 l) ≡ 5 ∷ take 5 l
unfolding areas_spelled
five_words (b ∷ c ∷ d ∷ e ∷ f ∷ l) u = refl
five_words (b ∷ c ∷ d ∷ e ∷ []) u = absurd (omega arith)
five_words (b ∷ c ∷ d ∷ []) u = absurd (omega arith)
five_words (b ∷ c ∷ []) u = absurd (omega arith)
five_words (b ∷ []) u = absurd (omega arith)
five_words [] u = absurd (omega arith)

four_words : (l : List ℕ) → 4 ≤ length l → areas_spelled false (sizes_in 4 l) ≡ 4 ∷ take 4 l
unfolding areas_spelled
four_words (b ∷ c ∷ d ∷ e ∷ l) u = refl
four_words (b ∷ c ∷ d ∷ []) u = absurd (omega arith)
four_words (b ∷ c ∷ []) u = absurd (omega arith)
four_words (b ∷ []) u = absurd (omega arith)
four_words [] u = absurd (omega arith)

-- a count is 4 or 5
at_count : {a : ℕ} (l : List ℕ) (k : ℕ) → a ≡ k → areas_spelled (has_level k) (sizes_in k l) ≡ take (1 + area_words k) (k ∷ l)
    → areas_spelled (has_level a) (sizes_in a l) ≡ take (1 + area_words a) (a ∷ l)
at_count l k e = subst⁻¹ (λ (x : ℕ). areas_spelled (has_level x) (sizes_in x l) ≡ take (1 + area_words x) (x ∷ l)) e

pub areas_front : (ws : List ℕ) → area_count (first_of ws) ≡ true → areas_end ws ≤ length ws
    → areas_spelled (has_level (first_of ws)) (sizes_of ws) ≡ take (areas_end ws) ws
areas_front [] e u = absurd (omega arith)
areas_front (a ∷ l) e u = go (has_level a) refl
  where
    or_none : (b : Bool) → (b || false) ≡ true → b ≡ true
    or_none true q = refl
    or_none false q = q

    go : (b : Bool) → has_level a ≡ b → areas_spelled (has_level a) (sizes_in a l) ≡ take (1 + area_words a) (a ∷ l)
    go true h = at_count l 5 (eqb-true a 5 h) (five_words l (omega (arith, ap {B = ℕ} (λ (b : Bool). cond b 5 4) h)))
    go false h =
        at_count l 4 (eqb-true a 4 (or_none (eqb a 4) (ap (λ (b : Bool). eqb a 4 || b) (sym h) ∙ e)))
        (four_words l (omega (arith, ap {B = ℕ} (λ (b : Bool). cond b 5 4) h)))
