-- Two results that a public function's contract allows are equal: each contract is one equation for the answer. Assumes nothing.
use mathlib.Core.Path.{sym, ◌∙◌}
use Rattle.verdict.specs.Promise.{Decides}
use Rattle.verdict.proofs.Fault.number.Reads as number_reads
use Rattle.verdict.proofs.Fault.at.Reads as at_reads
use Rattle.verdict.proofs.RefusalFromFault.from.Reads as from_reads

pub number : Decides number_reads.Post
number κs a x y s t p q = p ∙ sym q

pub refusal_at : Decides at_reads.Post
refusal_at κs a x y s t p q = p ∙ sym q

pub refusal_from : Decides from_reads.Post
refusal_from κs a x y s t p q = p ∙ sym q
