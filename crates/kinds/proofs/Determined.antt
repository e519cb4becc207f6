-- Two results that a public function's contract allows are equal, and so is what they leave of a lent table: each contract is
-- one equation for what the answer says and one for the table, and two answers that say the same are the same.
use mathlib.Core.Path.{sym, ◌∙◌}
use Rattle.verdict.specs.Promise.{DecidesBoth}
use Rattle.blocks.proofs.Doing.{worked_once}
use Rattle.kinds.proofs.block.work.Reads as work_reads
use Rattle.kinds.proofs.task.perform.Reads as perform_reads

pub work : DecidesBoth work_reads.Post (λ κs s. s.0.now)
work κs a x y s t p q = (worked_once x y (p.0 ∙ sym q.0), p.1 ∙ sym q.1)

pub perform : DecidesBoth perform_reads.Post (λ κs s. s.0.now)
perform κs a x y s t p q = (worked_once x y (p.0 ∙ sym q.0), p.1 ∙ sym q.1)
