-- A limit at any level is at most the higher of its two numbers. Assumes nothing.
use mathlib.Core.Bool.{Bool, true, false, cond}
use Prim.Native.Nat.{ℕ, ◌≤◌}
use native.Mathlib.Omega.{arith}
use lib.Dec.{eqb}
use Rattle.level.specs.declared.ByLevel.{ByLevel}
use Rattle.level.specs.Level.{at_level}

pub at_most : (limit : ByLevel) (most level : ℕ) → limit.one ≤ most → limit.two ≤ most → at_level limit level ≤ most
unfolding at_level
at_most limit most level l u = go (eqb level 1) (eqb level 2)
  where
    go : (first second : Bool) → cond first limit.one (cond second limit.two 0) ≤ most
    go true second = l
    go false true = u
    go false false = omega arith
