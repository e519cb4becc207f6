-- `matrix::merge::merge_up` meets its contract. Both loops keep the words passed rewritten, if those read start no earlier.
use mathlib.Core.Path.{◌≡◌}
use Prim.Native.Nat.{◌+◌, ◌*◌, ◌≤◌}
use lib.ListN.{length}
use Rattle.matrix.specs.Inner.{merged_at, Rewritten}
use Rattle.matrix.proofs.merge.merge_up.Given as goal

abbrev pub invariant-loop-i : goal.invariant-loop-i
invariant-loop-i g l =
    (length l.table ≡ length l.fn.table) × ((l.at ≤ l.a) × (l.at ≤ l.b) → Rewritten l.fn.table (merged_at g.M.Merge.word l.fn.table l.a l.b l.at) l.at (l.at + 8 * l.i) l.table)

abbrev pub invariant-loop-j : goal.invariant-loop-j
invariant-loop-j g l =
    (length l.table ≡ length l.fn.table) × ((l.at ≤ l.a) × (l.at ≤ l.b) → Rewritten l.fn.table (merged_at g.M.Merge.word l.fn.table l.a l.b l.at) l.at (l.at + l.j) l.table)
