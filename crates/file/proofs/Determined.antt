-- Two results that a public function's contract allows are equal, and so is what is left of the table that was lent: each contract is
-- one equation for what the answer says and one for the table, and two answers that say the same are the same. Assumes nothing.
use mathlib.Core.Path.{sym, ◌∙◌}
use Rattle.verdict.specs.Promise.{Decides, DecidesBoth}
use Rattle.verdict.proofs.Said.{numbered_once}
use Rattle.file.proofs.checker.check.Reads as check_reads
use Rattle.file.proofs.checker.rest_in.Reads as rest_in_reads
use Rattle.file.proofs.starting.start.Reads as start_reads

pub check : Decides check_reads.Post
check κs a x y s t p q = numbered_once x y (p ∙ sym q)

pub rest_in : Decides rest_in_reads.Post
rest_in κs a x y s t p q = p ∙ sym q

pub start : DecidesBoth start_reads.Post (λ κs s. s.1.1.0.now)
start κs a x y s t p q = (numbered_once x y (p.0 ∙ sym q.0), p.1 ∙ sym q.1)
