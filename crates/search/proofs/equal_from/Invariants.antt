-- `search::equal_from` meets its contract: the words passed so far are equal, and eight more are. Assumes nothing.
use mathlib.Core.List.{List}
use Prim.Native.Nat.{ℕ, ◌-◌, ◌≤◌}
use Rattle.search.specs.Inner.{Paired, Equal}
use Rattle.search.proofs.equal_from.Given as goal

pub record Passing (x y : List ℕ) (n from k : ℕ) : Type 0 where
  pub runs : Paired x y n
  pub count : k ≤ n
  pub so_far : Equal x y from k

abbrev pub invariant-loop-k : goal.invariant-loop-k
invariant-loop-k l = Passing l.x l.y l.n l.from l.k

abbrev pub decreases-loop-k : goal.decreases-loop-k
decreases-loop-k l = l.n - l.k
