-- Two results that a public function's contract allows are equal: each contract is one equation for the answer. Assumes nothing.
use mathlib.Core.Path.{sym, ◌∙◌}
use Rattle.verdict.specs.Promise.{Decides}
use Rattle.level.proofs.at_level.Reads as at_level_reads
use Rattle.level.proofs.longest_at.Reads as longest_at_reads
use Rattle.level.proofs.constant_at.Reads as constant_at_reads

pub at_level : Decides at_level_reads.Post
at_level κs a x y s t p q = p ∙ sym q

pub longest_at : Decides longest_at_reads.Post
longest_at κs a x y s t p q = p ∙ sym q

pub constant_at : Decides constant_at_reads.Post
constant_at κs a x y s t p q = p ∙ sym q
