-- A refusal changes nothing: with a refusal for its answer, a start leaves the table as it was. Assumes nothing.
use mathlib.Core.Path.{◌≡◌, ap, ◌∙◌}
use Rattle.verdict.specs.Verdict.{numbered}
use Rattle.verdict.specs.Promise.{Keeps}
use Rattle.file.proofs.Starts.{table_kept}
use Rattle.file.proofs.starting.start.Reads as start_reads

pub start : Keeps start_reads.Post (λ κs r. (numbered r).verdict.number ≡ 0 → ⊥) (λ κs a. a.1.1.0.now) (λ κs s. s.1.1.0.now)
start κs a x s p h = p.1 ∙ table_kept _ _ _ (λ e. h (ap (λ v. v.verdict.number) p.0 ∙ e))
