-- The rules for the eight kinds, a row for each. Assumes nothing.
use Rattle.std.specs.Prelude.{ℕ, ◌-◌, Bool, true, false, cond, ◌&&◌, List, [], ◌∷◌, leb, eqb, get_or}
use Rattle.level.specs.declared.ByLevel.{ByLevel}
use Rattle.level.specs.Level.{at_both, whole_length, single_length}
use Rattle.rules.specs.declared.{rules.Classes.Classes, rules.Rule.Rule}

-- the classes that a node may have
abbrev pub any_matrix : Classes
any_matrix = record { coils = true; discretes = true; inputs = true; holding = true; constants = false }

abbrev pub writable : Classes
writable = record { coils = true; discretes = false; inputs = false; holding = true; constants = false }

abbrev pub held : Classes
held = record { coils = false; discretes = false; inputs = false; holding = true; constants = false }

abbrev pub pointers : Classes
pointers = record { coils = false; discretes = false; inputs = true; holding = true; constants = true }

abbrev pub no_class : Classes
no_class = record { coils = false; discretes = false; inputs = false; holding = false; constants = false }

abbrev pub row : Classes → Classes → ByLevel → ℕ → Bool → Rule
row top middle most extra pointer = record { top = top; middle = middle; most = most; extra = extra; pointer = pointer }

-- AND, OR, XOR, COMP, CMPR, MBIT, SENS, BROT: classes of the top and of the middle node, greatest length by level, registers of
-- the middle node beside its matrix, and whether the top node is a pointer
abbrev pub rows : List Rule
rows =
    row any_matrix writable whole_length 0 false
    ∷ row any_matrix writable whole_length 0 false
    ∷ row any_matrix writable whole_length 0 false
    ∷ row any_matrix writable whole_length 0 false
    ∷ row any_matrix held whole_length 1 false
    ∷ row pointers writable single_length 0 true
    ∷ row pointers any_matrix single_length 0 true
    ∷ row any_matrix writable whole_length 0 false
    ∷ []

abbrev pub no_kind : Rule
no_kind = row no_class no_class (at_both 0) 0 false

abbrev pub kind : ℕ → Bool
kind k = leb 1 k && leb k 8

-- the row of a kind
unfoldable pub rule : ℕ → Rule
rule k = cond (kind k) (get_or rows (k - 1) no_kind) no_kind

-- whether a node may have a class
unfoldable pub allows : Classes → ℕ → Bool
allows c class =
    cond (eqb class 0) c.coils
    (cond (eqb class 1) c.discretes
    (cond (eqb class 3) c.inputs
    (cond (eqb class 4) c.holding
    (eqb class 9 && c.constants))))
