-- A refusal changes nothing: with a refusal for its answer, the writer leaves the buffer as it was. Assumes nothing.
use mathlib.Core.Path.{◌≡◌, ap, ◌∙◌}
use Rattle.verdict.specs.Promise.{Keeps}
use Rattle.verdict.specs.Verdict.{numbered}
use Rattle.writer.proofs.Writing.{buffer_kept}
use Rattle.writer.proofs.write_record.Reads as write_record_reads

pub write_record : Keeps write_record_reads.Post (λ κs r. (numbered r).verdict.number ≡ 0 → ⊥) (λ κs a. a.1.1.1.0.now) (λ κs s. s.1.1.1.0.now)
write_record κs a x s p h = p.1 ∙ buffer_kept _ _ _ _ (λ e. h (ap (λ v. v.verdict.number) p.0 ∙ e))
