-- Two results that a public function's contract allows are equal: each contract is one equation for the answer.
use mathlib.Core.Path.{sym, ◌∙◌}
use Rattle.verdict.specs.Promise.{Decides}
use Rattle.blocks.proofs.answer.packed.Reads as packed_reads
use Rattle.blocks.proofs.answer.unpacked.Reads as unpacked_reads
use Rattle.blocks.proofs.Outputs.plain.Reads as plain_reads

pub packed : Decides packed_reads.Post
packed κs a x y s t p q = p ∙ sym q

pub unpacked : Decides unpacked_reads.Post
unpacked κs a x y s t p q = p ∙ sym q

pub plain : Decides plain_reads.Post
plain κs a x y s t p q = p ∙ sym q
