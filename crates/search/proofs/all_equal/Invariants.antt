-- `search::all_equal` meets its contract: as long as none differed, the words passed so far are equal. Assumes nothing.
use mathlib.Core.Path.{◌≡◌}
use mathlib.Core.Bool.{Bool, true}
use mathlib.Core.List.{List}
use Prim.Native.Nat.{ℕ, ◌≤◌}
use Rattle.search.specs.Inner.{Paired, Equal}
use Rattle.search.proofs.all_equal.Given as goal

pub record Comparing (x y : List ℕ) (from to : ℕ) (equal : Bool) (k : ℕ) : Type 0 where
  pub words : Paired x y to
  pub count : k ≤ to
  pub so_far : equal ≡ true → Equal x y from k

abbrev pub invariant-loop-k : goal.invariant-loop-k
invariant-loop-k l = Comparing l.x l.y l.from l.to l.equal l.k
