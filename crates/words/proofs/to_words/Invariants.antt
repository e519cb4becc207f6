-- `words::to_words` meets its contract. The loop keeps `Filling`: the words passed stand at the front. Assumes nothing.
use Rattle.words.proofs.Filling.{Filling}
use Rattle.words.proofs.to_words.Given as goal

abbrev pub invariant-loop-k : goal.invariant-loop-k
invariant-loop-k l = Filling l.bytes l.initial.words l.words l.k
