-- Two results that a public function's contract allows are equal: each contract is one equation for the answer.
-- Assumes nothing.
use mathlib.Core.Path.{sym, ◌∙◌}
use Rattle.verdict.specs.Promise.{Decides}
use Rattle.pointer.proofs.Pointer.reset.Reads as reset_reads
use Rattle.pointer.proofs.Pointer.in_range.Reads as in_range_reads
use Rattle.pointer.proofs.Pointer.advance.Reads as advance_reads
use Rattle.pointer.proofs.set_to.Reads as set_to_reads
use Rattle.pointer.proofs.next.Reads as next_reads

pub reset : Decides reset_reads.Post
reset κs a x y s t p q = p ∙ sym q

pub in_range : Decides in_range_reads.Post
in_range κs a x y s t p q = p ∙ sym q

pub advance : Decides advance_reads.Post
advance κs a x y s t p q = p ∙ sym q

pub set_to : Decides set_to_reads.Post
set_to κs a x y s t p q = p ∙ sym q

pub next : Decides next_reads.Post
next κs a x y s t p q = p ∙ sym q
