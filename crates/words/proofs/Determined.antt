-- Two results that the public function's contract allows are equal, and so are the words that they leave: the contract is one
-- equation for what the answer says and one for the lent words, and two answers that say the same are the same. Assumes nothing.
use mathlib.Core.Path.{sym, ◌∙◌}
use Rattle.verdict.specs.Promise.{DecidesBoth}
use Rattle.verdict.proofs.Said.{numbered_once}
use Rattle.words.proofs.to_words.Reads as to_words_reads

pub to_words : DecidesBoth to_words_reads.Post (λ κs s. s.1.0.now)
to_words κs a x y s t p q = (numbered_once x y (p.0 ∙ sym q.0), p.1 ∙ sym q.1)
