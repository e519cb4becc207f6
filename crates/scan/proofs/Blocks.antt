-- A block of a checked network, on a table of exactly its areas, is not refused: its work is that of the definitions.
use mathlib.Core.Path.{◌≡◌, ap, ap₂, ◌∙◌}
use mathlib.Core.List.{List}
use Prim.Native.Nat.{ℕ}
use Rattle.network.specs.Network.{Network}
use Rattle.blocks.specs.declared.Power.{Power}
use Rattle.blocks.specs.declared.Outputs.{Outputs}
use Rattle.blocks.specs.declared.Located.{Located}
use Rattle.blocks.specs.Answer.{Worked}
use Rattle.blocks.specs.Work.{coils_put, block_outputs, block_table}
use Rattle.kinds.specs.Call.{work_answer, work_table}
use Rattle.kinds.proofs.Checked.{answers_done, table_done}
use Rattle.scan.specs.Inner.{Ready}

module _ (net : Network) (one : Located) (t : List ℕ) (on : Power) (h : Ready net one t) where
  pub outputs_shown : (work_answer one t on).outputs ≡ block_outputs net one.block t on
  outputs_shown =
      ap (λ (w : Worked). w.outputs)
      (ap (λ (o : Located). work_answer o t on) h.lies ∙ answers_done net h.earlier one.block t h.runs on)

  pub table_left : coils_put net one.block.coils (work_answer one t on).outputs (work_table one t on) ≡ block_table net one.block t on
  unfolding block_outputs block_table
  table_left =
      ap₂ (λ (out : Outputs) (u : List ℕ). coils_put net one.block.coils out u) outputs_shown
      (ap (λ (o : Located). work_table o t on) h.lies ∙ table_done net h.earlier one.block t h.runs on)
