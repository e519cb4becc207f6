-- What an area's number says: at most one answer is that of a number.
use mathlib.Core.Path.{◌≡◌, refl, sym, ap, ◌∙◌}
use mathlib.Core.Bool.{true, false, false≢true}
use mathlib.Core.List.{[], ◌∷◌}
use Prim.Native.Nat.{ℕ}
use lib.ListN.{get_or}
use Rattle.std.specs.Prelude.{Result, Ok, Err}
use Rattle.table.specs.declared.area.Area.{Area}
use Rattle.table.specs.declared.area.Area.TheVariants.{Coils, Discretes, Inputs, Holding}
use Rattle.table.specs.declared.area.NoArea.{NoArea}
use Rattle.table.specs.Area.{area_number, IsAreaOf}
use Rattle.table.specs.Table.{area}

abbrev numbered_area : ℕ → Area
numbered_area n = get_or (Coils ∷ Discretes ∷ Coils ∷ Inputs ∷ Holding ∷ []) n Coils

area_back : (a : Area) → numbered_area (area_number a) ≡ a
area_back Coils = refl
area_back Discretes = refl
area_back Inputs = refl
area_back Holding = refl

area_is : (a : Area) → area (area_number a) ≡ true
area_is Coils = refl
area_is Discretes = refl
area_is Inputs = refl
area_is Holding = refl

pub area_once : (class : ℕ) (x y : Result Area NoArea) → IsAreaOf class x → IsAreaOf class y → x ≡ y
area_once class (Ok a) (Ok b) p q = ap Ok (sym (area_back a) ∙ ap numbered_area (p ∙ sym q) ∙ area_back b)
area_once class (Ok a) (Err e) p q = absurd (false≢true (sym q ∙ sym (ap area p) ∙ area_is a))
area_once class (Err d) (Ok b) p q = absurd (false≢true (sym p ∙ sym (ap area q) ∙ area_is b))
area_once class (Err d) (Err e) p q = refl
