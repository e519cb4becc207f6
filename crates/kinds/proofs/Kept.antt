-- A refusal changes nothing: whatever the contract allows with a refusal for its answer, the lent table is as it was.
use mathlib.Core.Path.{◌≡◌, ap, ◌∙◌}
use mathlib.Core.List.{List}
use Prim.Native.Nat.{ℕ}
use lib.ListN.{length}
use Rattle.verdict.specs.Promise.{Keeps}
use Rattle.runs.specs.Run.{unless}
use Rattle.runs.proofs.Refusals.{unless_done, unless_refused}
use Rattle.blocks.specs.declared.Outputs.{Outputs}
use Rattle.blocks.specs.Answer.{Worked, finished, refused, worked}
use Rattle.blocks.proofs.Doing.{Refuses}
use Rattle.kinds.specs.Call.{work_fault, work_answer, work_table}
use Rattle.kinds.specs.Tasks.{task_fault}
use Rattle.kinds.proofs.block.work.Reads as work_reads
use Rattle.kinds.proofs.task.perform.Reads as perform_reads

by_number : (k : ℕ) (out : Outputs) (done t : List ℕ) (r : Worked) (table : List ℕ) → r ≡ unless k (finished out) (refused k)
    → table ≡ unless k done t → Refuses r → table ≡ t
by_number k out done t r table answer leaves h =
    leaves ∙ unless_refused k done t (λ e. h (ap (λ (x : Worked). x.verdict.number) (answer ∙ unless_done k (finished out) (refused k) e)))

pub work : Keeps work_reads.Post (λ κs x. Refuses (worked x)) (λ κs a. a.0.now) (λ κs s. s.0.now)
unfolding work_answer work_table
work κs a x s p h = by_number (work_fault a.1.0 (length a.0.now)) _ _ _ _ _ p.0 p.1 h

pub perform : Keeps perform_reads.Post (λ κs x. Refuses (worked x)) (λ κs a. a.0.now) (λ κs s. s.0.now)
perform κs a x s p h = by_number (task_fault a.1.0.now a.1.1.0 (length a.0.now)) _ _ _ _ _ p.0 p.1 h
