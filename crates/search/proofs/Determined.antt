-- Two results that the public function's contract allows are equal: the contract is one equation for what the
-- answer says, which tells the answer.
-- Assumes nothing.
use mathlib.Core.Path.{sym, ◌∙◌}
use Rattle.verdict.specs.Promise.{Decides}
use Rattle.search.proofs.Answers.{said_same}
use Rattle.search.proofs.first_difference.Reads as first_difference_reads

pub first_difference : Decides first_difference_reads.Post
first_difference κs a x y s t p q = said_same x y (p ∙ sym q)
