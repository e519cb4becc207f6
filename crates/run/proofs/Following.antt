-- A visit that follows a step is the visit of the definition: the step says what the record says, a look sees what its input passes, and a
-- spot is its coil. Assumes nothing.
use mathlib.Core.Path.{◌≡◌, refl, sym, ap, ◌∙◌, subst}
use mathlib.Core.List.{List, [], ◌∷◌, ◌++◌}
use Prim.Native.Nat.{ℕ, suc, ◌+◌, ◌≤◌}
use native.Mathlib.Omega.{arith}
use lib.ListN.{length, take, set, length-append, length-drop}
use lib.Seq.{take_at, length-take-le}
use Rattle.std.specs.Prelude.{Result, Ok, Err}
use Rattle.std.specs.Result.{result_unwrap_or}
use Rattle.verdict.specs.declared.Refusal.{Refusal}
use Rattle.record.specs.declared.Block.{Block}
use Rattle.record.specs.declared.Input as record_input
use Rattle.table.specs.declared.sizes.Sizes.{Sizes}
use Rattle.table.specs.Table.{total}
use Rattle.network.specs.Network.{Network, block_count, block_of}
use Rattle.rules.specs.Sound.{GoodInput, GoodBlock}
use Rattle.blocks.specs.declared.{Power.Power, Outputs.Outputs}
use Rattle.blocks.specs.Kind.{kind_of}
use Rattle.blocks.specs.View.{first_word}
use Rattle.blocks.specs.Work.{pointer_node, effect_on, effect_put, shows, block_outputs, block_table}
use Rattle.blocks.specs.Packed.{packed}
use Rattle.blocks.specs.Truths.{Runs}
use Rattle.blocks.proofs.Written.{same_long}
use Rattle.scan.specs.Scans.{pointer_of}
use Rattle.text.specs.Text.{pointer_field}
use Rattle.blocks.proofs.Counted.{only_compares_count}
use Rattle.kinds.specs.declared.task.{Work.Work}
use Rattle.pointed.specs.declared.place.Place.TheVariants.{Constant, Input, Holding}
use Rattle.kinds.specs.declared.task.Work.TheVariants.{Combine, Compare, Modify, Sense, Rotate, Unknown}
use Rattle.plan.specs.declared.{Step.Step}
use Rattle.plan.specs.Plan.{look_of, work_of, step_of}
use Rattle.plan.specs.Seen.{look_inside}
use Rattle.plan.proofs.Seeing.{look_passes, look_room}
use Rattle.plan.proofs.Spots.{Small, small_take, spots_coils, spot_room}
use Rattle.run.specs.Visits.{table_in, packs_in, visit_power, visit_outputs, visit_table, visited}
use Rattle.blocks.specs.Answer.{Worked, worked, no_outputs}
use Rattle.kinds.specs.Tasks.{task_answer, task_table}
use Rattle.run.specs.Inner.{power_read, power_seen, work_outputs, work_state, spots_put, Looking, Working, AllSpotted, Planned, Visits, pointer_inside, field_in, told}
use Rattle.run.proofs.Stepping.{step_outputs, step_table, work_pointer, field_front, field_is, told_is}

-- ---- the outputs that an answer says
pub outputs_said : (r : Result Outputs Refusal) {w : Worked} → worked r ≡ w → result_unwrap_or r no_outputs ≡ w.outputs
outputs_said (Ok out) e = ap (λ (w : Worked). w.outputs) e
outputs_said (Err r) e = ap (λ (w : Worked). w.outputs) e

-- ---- a word stored after the first list
set_append_add : (xs ys : List ℕ) (k a : ℕ) → set (xs ++ ys) (length xs + k) a ≡ xs ++ set ys k a
set_append_add [] ys k a = let e : 0 + k ≡ k = omega arith in ap (λ (n : ℕ). set ys n a) e
set_append_add (x ∷ xs) ys k a = let e : suc (length xs) + k ≡ suc (length xs + k) = omega arith in ap (λ (n : ℕ). set (x ∷ xs ++ ys) n a) e ∙ ap (λ (l : List ℕ). x ∷ l) (set_append_add xs ys k a)

-- ---- the step of a block
module _ {net : Network} {k : ℕ} {state : List ℕ} {step : Step} {size : ℕ} (S : Planned net k state step size) where
  abbrev b : Block
  b = block_of net k

  abbrev z : Sizes
  z = net.sizes

  abbrev own : Step
  own = step_of z b

  good_block : GoodBlock z k b
  good_block = S.good.blocks k S.there

  -- ---- its inputs
  power_is : power_seen state (total z) own ≡ visit_power net k state
  unfolding step_of
  power_is h = record {
    top = look_passes net k b.inputs.top good_block.top_input state h;
    middle = look_passes net k b.inputs.middle good_block.middle_input state h;
    bottom = look_passes net k b.inputs.bottom good_block.bottom_input state h;
  }

  -- ---- its work
  abbrev on : Power
  on = visit_power net k state

  abbrev t : List ℕ
  t = table_in net state

  runs : Runs net k b t
  runs = record { good = good_block; exact = length-take-le (total z) state (omega (arith, S.exact)) }

  outputs_are : work_outputs state size step ≡ visit_outputs net k state
  unfolding step_of
  outputs_are =
      (λ h. work_outputs state (S.sized h) (S.is h))
      ∙ (λ h. done_with (power_is h))
      ∙ step_outputs net k b t runs on
    where
      done_with : Power → Outputs
      done_with on = (task_answer (work_of z b) b.n t (power_read (work_of z b) on)).outputs

  table_long : length (visit_table net k state) ≡ total z
  table_long = same_long net k b t runs on ∙ runs.exact

  abbrev done_table : List ℕ
  done_table = effect_put (first_word net b.middle) b.n (first_word net (pointer_node (kind_of b.kind) b)) (effect_on net b t on) t

  state_is : work_state state size step ≡ done_table ++ packs_in net state
  unfolding step_of
  state_is =
      (λ h. work_state state (S.sized h) (S.is h))
      ∙ (λ h. done_with (power_is h) ++ packs_in net state)
      ∙ ap (λ (u : List ℕ). u ++ packs_in net state) (step_table net k b t runs on)
    where
      done_with : Power → List ℕ
      done_with on = task_table (work_of z b) b.n t (power_read (work_of z b) on)

  module _ {worked : List ℕ} (w : worked ≡ work_state state size step) (long : length worked ≡ length state) (small : Small worked) where
    worked_is : worked ≡ done_table ++ packs_in net state
    worked_is = w ∙ state_is

    packs_long : length (packs_in net state) ≡ block_count net
    packs_long = length-drop (total z) state ∙ omega (arith, S.exact)

    done_long : length done_table ≡ total z
    done_long = omega (arith, ap length worked_is, length-append done_table (packs_in net state), packs_long, long, S.exact)

    done_small : Small done_table
    done_small = subst Small (ap (take (total z)) worked_is ∙ take_at done_table (packs_in net state) (total z) done_long) (small_take (total z) worked small)

    coils_are : {out : Outputs} → out ≡ work_outputs state size step → spots_put worked step out ≡ visit_table net k state ++ packs_in net state
    unfolding step_of block_outputs block_table
    coils_are {out} o =
        (λ h. spots_put (worked_is h) (S.is h) (shown h))
        ∙ spots_coils net b.coils good_block.top_coil good_block.middle_coil good_block.bottom_coil done_table (packs_in net state) done_long done_small (visit_outputs net k state)
      where
        shown : out ≡ visit_outputs net k state
        shown = o ∙ outputs_are

    -- ---- its outputs in their place
    module _ {out : Outputs} (o : out ≡ work_outputs state size step) {coiled : List ℕ} (c : coiled ≡ spots_put worked step out) {pack : ℕ} (p : pack ≡ packed out) where
      shown : out ≡ visit_outputs net k state
      shown = o ∙ outputs_are

      pub after_is : set coiled (size + k) pack ≡ visited net k state
      unfolding visited
      after_is =
          (λ h. set ((c ∙ coils_are o) h) ((S.sized ∙ sym table_long) h + k) ((p ∙ ap packed shown) h))
          ∙ set_append_add (visit_table net k state) (packs_in net state) k (packed (visit_outputs net k state))

      pub visit_done : Visits net k state out (set coiled (size + k) pack)
      visit_done = record { outputs = shown; leaves = after_is }

  -- ---- what the functions ask for
  looks_inside : {input : record_input.Input} → GoodInput z k input → look_inside (length state) size (look_of z input)
  looks_inside {input} g =
      subst (λ (n : ℕ). look_inside n size (look_of z input)) (sym S.exact)
      (subst (λ (n : ℕ). look_inside (total z + block_count net) n (look_of z input)) (sym S.sized)
      (look_room z k (block_count net) (omega (arith, S.there)) (omega (arith, S.there)) input g))

  pub is_looking : Looking step (length state) size
  unfolding step_of
  is_looking = subst (λ (s : Step). Looking s (length state) size) (sym S.is) (record {
    top = looks_inside good_block.top_input;
    middle = looks_inside good_block.middle_input;
    bottom = looks_inside good_block.bottom_input;
  })

  pub is_working : Working step (length state) size
  is_working = record { looking = is_looking; inside = omega (arith, S.sized, S.exact) }

  pub all_spotted : (words : ℕ) → words ≡ length state → AllSpotted step words
  unfolding step_of
  all_spotted words e =
      let long : total z ≤ words = omega (arith, e, S.exact) in
      subst (λ (s : Step). AllSpotted s words) (sym S.is) (record {
        top = spot_room z b.coils.top good_block.top_coil words long;
        middle = spot_room z b.coils.middle good_block.middle_coil words long;
        bottom = spot_room z b.coils.bottom good_block.bottom_coil words long;
      })

  -- ---- what its line tells
  pub pointer_lies : (words : ℕ) → words ≡ length state → pointer_inside words step.work
  unfolding step_of
  pointer_lies words e = subst (λ (s : Step). pointer_inside words s.work) (sym S.is) (further (work_of z b) (work_pointer net k b t runs on t (visit_outputs net k state)))
    where
      more : total z ≤ words
      more = omega (arith, e, S.exact)

      further : (w : Work) → pointer_inside (total z) w → pointer_inside words w
      further (Combine operation s d) l = omega arith
      further (Compare s p) l = omega (arith, l, more)
      further (Modify (Constant v) d) l = omega arith
      further (Modify (Input p) d) l = omega (arith, l, more)
      further (Modify (Holding p) d) l = omega (arith, l, more)
      further (Sense (Constant v) d) l = omega arith
      further (Sense (Input p) d) l = omega (arith, l, more)
      further (Sense (Holding p) d) l = omega (arith, l, more)
      further (Rotate s d) l = omega arith
      further Unknown l = omega arith

  pub field_shown : {left : List ℕ} → left ≡ visited net k state → field_in left step.work ≡ pointer_field b.kind (pointer_of net b (visit_table net k state))
  unfolding step_of visited
  field_shown {left} e =
      (λ h. field_in (e h) (S.is h).work)
      ∙ field_front (visit_table net k state) _ (work_of z b) (subst (λ (n : ℕ). pointer_inside n (work_of z b)) (sym table_long) (work_pointer net k b t runs on t (visit_outputs net k state)))
      ∙ field_is net k b t runs on (visit_table net k state) (visit_outputs net k state)

  pub outputs_told : {out : Outputs} → out ≡ visit_outputs net k state → told step.work out ≡ visit_outputs net k state
  unfolding step_of
  outputs_told {out} e =
      (λ h. told (S.is h).work (e h))
      ∙ told_is net k b t runs on t (visit_outputs net k state)
      (λ other. sym (ap (shows (visit_outputs net k state).top (visit_outputs net k state).middle (visit_outputs net k state).bottom) (only_compares_count net b t other on)) ∙ refl)
