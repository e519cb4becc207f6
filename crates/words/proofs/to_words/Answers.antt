-- `words::to_words` meets its contract. The loop keeps `Filling`: the words passed stand at the front. Assumes nothing.
use native.Mathlib.Omega.{arith}
use Rattle.words.proofs.Filling.{none_filled, none_yet, same_long, all_filled}
use Rattle.words.proofs.to_words.Goals as goal

pub returns-then-words-count-clause-words : goal.returns-then-words-count-clause-words
returns-then-words-count-clause-words c = none_filled _ _ c.if-words-count.true

pub loop-k-init : goal.loop-k-init
loop-k-init c = none_yet c.if-words-count.false

pub bounds-words-k : goal.bounds-words-k
bounds-words-k c = omega (arith, same_long c.loop-k.invariant)

pub shape_of-words : goal.shape_of-words
shape_of-words c = same_long c.loop-k.invariant

pub returns-clause-words : goal.returns-clause-words
returns-clause-words c = all_filled c.loop-k.invariant c.loop-k-test.false
