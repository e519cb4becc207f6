-- Two results that a public function's contract allows are equal: each contract is one equation for the answer. Assumes nothing.
use mathlib.Core.Path.{sym, ◌∙◌}
use Rattle.verdict.specs.Promise.{Decides}
use Rattle.record.proofs.block_at.Reads as block_at_reads
use Rattle.record.proofs.Block.words.Reads as words_reads

pub block_at : Decides block_at_reads.Post
block_at κs a x y s t p q = p ∙ sym q

pub words : Decides words_reads.Post
words κs a x y s t p q = p ∙ sym q
