-- The eight kinds: 1 to 8 in the order AND, OR, XOR, COMP, CMPR, MBIT, SENS, BROT.
-- Assumes nothing.
use Rattle.std.specs.Prelude.{ℕ, Bool, cond, ◌&&◌, eqb, leb}

pub data Kind : Type 0 where
  AND : Kind
  OR : Kind
  XOR : Kind
  COMP : Kind
  CMPR : Kind
  MBIT : Kind
  SENS : Kind
  BROT : Kind

-- the kind of a number; no record that the checker takes has another than 1 to 8
unfoldable pub kind_of : ℕ → Kind
kind_of k =
    cond (eqb k 1) AND
    (cond (eqb k 2) OR
    (cond (eqb k 3) XOR
    (cond (eqb k 4) COMP
    (cond (eqb k 5) CMPR
    (cond (eqb k 6) MBIT
    (cond (eqb k 7) SENS BROT))))))

-- CMPR, MBIT and SENS have a pointer
abbrev pub has_pointer : ℕ → Bool
has_pointer kind = leb 5 kind && leb kind 7
