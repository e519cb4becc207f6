-- `matrix::merge::merge_eight` meets its contract. The first loop keeps the words passed merged, the second the words passed rewritten by them.
use mathlib.Core.Path.{◌≡◌}
use Prim.Native.Nat.{ℕ, ◌+◌, ◌-◌, ◌<◌}
use lib.ListN.{length, get_or}
use Rattle.matrix.specs.Inner.{Rewritten}
use Rattle.matrix.proofs.merge.merge_eight.Given as goal

abbrev pub invariant-loop-i : goal.invariant-loop-i
invariant-loop-i g l =
    (length l.words ≡ 8) × ((k : ℕ) → k < l.i → get_or l.words k 0 ≡ g.M.Merge.word (get_or l.table (l.a + k) 0) (get_or l.table (l.b + k) 0))

abbrev pub invariant-loop-j : goal.invariant-loop-j
invariant-loop-j g l = (length l.words ≡ 8) × Rewritten l.fn.table (λ k. get_or l.words (k - l.at) 0) l.at (l.at + l.j) l.table
