-- The code's tests of the areas say what their words earn.
use Rattle.std.proofs.Common.{◌≡◌, ℕ, ◌+◌, List, [], ◌∷◌, refl, ap, ◌∙◌, Bool, true, false}
use Rattle.std.specs.Prelude.{cond, Ok, Err, length, take}
use Rattle.verdict.specs.declared.Fault.TheVariants.{Count, Limit}
use Rattle.verdict.specs.Verdict.{Verdict, numbered, said_by, fault_number, and_then}
use Rattle.section.specs.Limit.{counted, up_to, counted_test}
use Rattle.section.specs.Walk.{seek, first_of, reached}
use Rattle.section.specs.Section.{section_earns}
use Rattle.section.proofs.Reaching.{step, step_at, step_none, counted_number, up_to_number}
use Rattle.level.specs.Level.{most_level}
use Rattle.table.specs.declared.sizes.Sizes.{Sizes}
use Rattle.table.specs.Table.{most_coils, most_discretes, most_inputs, most_holding}
use Rattle.areas.specs.Areas.{sizes_faults, has_level, area_count, sizes_of, areas_section, areas_judged, areas_tested}
use Rattle.areas.proofs.Laws.{areas_alone}

count_earns : (b : Bool) → fault_number {A = Unit} (cond b (Ok tt) (Err Count)) ≡ cond b 0 2
count_earns true = refl
count_earns false = refl

-- the level, where it is among the words
module _ (size : ℕ) (z : Sizes) where
  level_by : (b : Bool) → List ℕ
  level_by b = take (cond b 1 0) (counted most_level z.level 3 ∷ [])

  level_said : (b : Bool) → numbered (and_then (cond b (reached (counted_test most_level z.level Limit) size (0 + 5)) (Ok tt)) (λ (_ : Unit). Ok z))
      ≡ said_by (seek (level_by b) size (0 + 5)) z
  unfolding level_by
  level_said true = step _ (λ (_ : Unit). Ok z) _ [] size (0 + 5) z (counted_number most_level z.level Limit) (λ x e. step_none size (0 + 5 + 1) z)
  level_said false = step_none size (0 + 5) z

  four : (b : Bool) → up_to most_coils z.coils 3 ∷ up_to most_discretes z.discretes 3 ∷ up_to most_inputs z.inputs 3 ∷ up_to most_holding z.holding 3 ∷ level_by b
      ≡ take (cond b 5 4) (sizes_faults z)
  unfolding level_by sizes_faults
  four true = refl
  four false = refl

pub areas_said : (ws : List ℕ) → numbered (areas_tested ws) ≡ said_by (areas_judged ws) (sizes_of ws)
unfolding section_earns areas_section areas_tested
areas_said ws =
    let size = length ws in
    let z = sizes_of ws in
    let count = first_of ws in
    step_at _ _ _ _ size 0 0 z (count_earns (area_count count)) (λ a p.
    step_at _ _ _ _ size 0 1 z (up_to_number most_coils z.coils Limit) (λ b q.
    step_at _ _ _ _ size 0 2 z (up_to_number most_discretes z.discretes Limit) (λ c r.
    step_at _ _ _ _ size 0 3 z (up_to_number most_inputs z.inputs Limit) (λ d s.
    step_at _ _ _ _ size 0 4 z (up_to_number most_holding z.holding Limit) (λ e t. level_said size z (has_level count))))))
    ∙ ap (λ (fs : List ℕ). said_by (seek (cond (area_count count) 0 2 ∷ fs) size 0) z) (four size z (has_level count))
    ∙ ap (λ (v : Verdict). said_by v z) (areas_alone ws)
