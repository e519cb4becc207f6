-- Two results that a public function's contract allows are equal, and so is what they leave of a lent table: each contract is one
-- equation for what the answer says, and one for the table, and two answers that say the same are the same.
use mathlib.Core.Path.{sym, ◌∙◌}
use Rattle.verdict.specs.Promise.{Decides, DecidesBoth}
use Rattle.verdict.proofs.Said.{numbered_once}
use Rattle.matrix.proofs.logic.combine.Reads as combine_reads
use Rattle.matrix.proofs.shift.move_one.Reads as move_one_reads
use Rattle.matrix.proofs.single.read_bit.Reads as read_bit_reads
use Rattle.matrix.proofs.single.put_bit.Reads as put_bit_reads

pub combine : DecidesBoth combine_reads.Post (λ κs s. s.0.now)
combine κs a x y s t p q = (numbered_once x y (p.0 ∙ sym q.0), p.1 ∙ sym q.1)

pub move_one : DecidesBoth move_one_reads.Post (λ κs s. s.0.now)
move_one κs a x y s t p q = (numbered_once x y (p.0 ∙ sym q.0), p.1 ∙ sym q.1)

pub read_bit : Decides read_bit_reads.Post
read_bit κs a x y s t p q = numbered_once x y (p ∙ sym q)

pub put_bit : DecidesBoth put_bit_reads.Post (λ κs s. s.0.now)
put_bit κs a x y s t p q = (numbered_once x y (p.0 ∙ sym q.0), p.1 ∙ sym q.1)
