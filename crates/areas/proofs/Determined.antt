-- Two results that a public function's contract allows are equal: each contract is one equation for the answer. Assumes nothing.
use mathlib.Core.Path.{sym, ◌∙◌}
use Rattle.verdict.specs.Promise.{Decides}
use Rattle.areas.proofs.areas_end.Reads as areas_end_reads
use Rattle.areas.proofs.areas_of.Reads as areas_of_reads
use Rattle.areas.proofs.sizes_in.Reads as sizes_in_reads

pub areas_end : Decides areas_end_reads.Post
areas_end κs a x y s t p q = p ∙ sym q

pub areas_of : Decides areas_of_reads.Post
areas_of κs a x y s t p q = p.0 ∙ sym q.0

pub sizes_in : Decides sizes_in_reads.Post
sizes_in κs a x y s t p q = p ∙ sym q
