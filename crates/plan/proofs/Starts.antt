-- A reference's first word has a small index. Assumes nothing.
use mathlib.Core.Bool.{Bool, true, false, cond}
use Prim.Native.Nat.{ℕ, ◌+◌, ◌-◌, ◌/◌, ◌≤◌}
use native.Mathlib.Omega.{arith}
use lib.Dec.{eqb}
use Rattle.table.specs.declared.sizes.Sizes.{Sizes}
use Rattle.table.specs.Table.{discrete, start_of}

-- ---- the index of a reference's first word is at most the sizes of three areas and its number
by_area : (a b c : Bool) (x y z most : ℕ) → x + y + z ≤ most → cond a 0 (cond b x (cond c (x + y) (x + y + z))) ≤ most
by_area true b c x y z most h = omega arith
by_area false true c x y z most h = omega (arith, h)
by_area false false true x y z most h = omega (arith, h)
by_area false false false x y z most h = h

by_number : (b : Bool) (number : ℕ) → cond b ((number - 1) / 16) (number - 1) ≤ number
by_number true number = omega arith
by_number false number = omega arith

pub start_small : (z : Sizes) (class number : ℕ) → start_of z class number ≤ z.coils + z.discretes + z.inputs + number
unfolding start_of
start_small z class number =
    omega (arith, by_area (eqb class 0) (eqb class 1) (eqb class 3) z.coils z.discretes z.inputs (z.coils + z.discretes + z.inputs) (omega arith), by_number (discrete class) number)
