-- Two results that a public function's contract allows are equal, and so is what they leave of a lent table: each contract is
-- one equation for the answer and one for the table. Assumes nothing.
use mathlib.Core.Path.{sym, ◌∙◌}
use Rattle.verdict.specs.Promise.{Decides, DecidesBoth}
use Rattle.blocks.proofs.Doing.{worked_once}
use Rattle.pointed.proofs.place.Place.of.Reads as of_reads
use Rattle.pointed.proofs.place.Place.value.Reads as value_reads
use Rattle.pointed.proofs.cmpr.compare.Reads as compare_reads
use Rattle.pointed.proofs.mbit.modify.Reads as modify_reads
use Rattle.pointed.proofs.sens.sense.Reads as sense_reads

pub of_node : Decides of_reads.Post
of_node κs a x y s t p q = p ∙ sym q

pub value : Decides value_reads.Post
value κs a x y s t p q = p ∙ sym q

pub compare : DecidesBoth compare_reads.Post (λ κs s. s.0.now)
compare κs a x y s t p q = (worked_once x y (p.answers ∙ sym q.answers), p.leaves ∙ sym q.leaves)

pub modify : DecidesBoth modify_reads.Post (λ κs s. s.0.now)
modify κs a x y s t p q = (worked_once x y (p.answers ∙ sym q.answers), p.leaves ∙ sym q.leaves)

pub sense : DecidesBoth sense_reads.Post (λ κs s. s.0.now)
sense κs a x y s t p q = (worked_once x y (p.answers ∙ sym q.answers), p.leaves ∙ sym q.leaves)
