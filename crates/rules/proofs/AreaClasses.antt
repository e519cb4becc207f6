-- What an area's number and any other stand for among the classes.
use mathlib.Core.Path.{◌≡◌, refl, sym, ap, ◌∙◌}
use mathlib.Core.Bool.{Bool, true, false, cond, ◌||◌, false≢true}
use Prim.Native.Nat.{ℕ}
use lib.Dec.{eqb}
use borrow.Author.Tests.{eq-eqb, ne_eqb}
use Rattle.std.specs.Prelude.{Result, Ok, Err}
use Rattle.table.specs.declared.area.Area.{Area}
use Rattle.table.specs.declared.area.Area.TheVariants.{Coils, Discretes, Inputs, Holding}
use Rattle.table.specs.Area.{area_number}
use Rattle.table.specs.Table.{area}
use Rattle.rules.specs.declared.codes.Class.{Class}
use Rattle.rules.specs.declared.codes.Class.TheVariants.{Area as AnArea, Constant}
use Rattle.rules.specs.declared.codes.Unknown.{Unknown}
use Rattle.rules.specs.Codes.{class_from}

by_area : (a : Area) → Ok (AnArea a) ≡ class_from (area_number a)
by_area Coils = refl
by_area Discretes = refl
by_area Inputs = refl
by_area Holding = refl

pub area_class : (n : ℕ) (a : Area) → area_number a ≡ n → Ok (AnArea a) ≡ class_from n
area_class n a e = by_area a ∙ ap class_from e

pub no_class : (n : ℕ) → (n ≡ 9 → ⊥) → area n ≡ false → Err (record {}) ≡ class_from n
no_class n h e = by (eqb n 0) (eqb n 1) (eqb n 3) (eqb n 4) (eqb n 9) (ne_eqb n 9 h) e
  where
    last : Bool → Result Class Unknown
    last b = cond b (Ok Constant) (Err (record {}))

    by : (p q r s t : Bool) → t ≡ false → ((p || q) || (r || s)) ≡ false
        → Err (record {}) ≡ cond p (Ok (AnArea Coils)) (cond q (Ok (AnArea Discretes)) (cond r (Ok (AnArea Inputs)) (cond s (Ok (AnArea Holding)) (last t))))
    by true q r s t i j = absurd (false≢true (sym j))
    by false true r s t i j = absurd (false≢true (sym j))
    by false false true s t i j = absurd (false≢true (sym j))
    by false false false true t i j = absurd (false≢true (sym j))
    by false false false false true i j = absurd (false≢true (sym i))
    by false false false false false i j = refl
