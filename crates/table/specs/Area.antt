-- The numbers of the areas: coils 0, discrete inputs 1, input registers 3, holding registers 4.
use Rattle.std.specs.Prelude.{ℕ, ◌+◌, ◌≡◌, false, cond, eqb, leb, Result, Ok, Err, MatchResult}
use Rattle.table.specs.declared.area.Area.{Area}
use Rattle.table.specs.declared.area.Area.TheVariants.{Coils, Discretes, Inputs, Holding}
use Rattle.table.specs.declared.area.NoArea.{NoArea}
use Rattle.verdict.specs.declared.Fault.{Fault}
use Rattle.verdict.specs.declared.Fault.TheVariants.{Class, Start, Operand}
use Rattle.table.specs.declared.sizes.Sizes.{Sizes}
use Rattle.table.specs.Table.{area, bad_start, offset, size_of}

abbrev pub area_number : Area → ℕ
area_number Coils = 0
area_number Discretes = 1
area_number Inputs = 3
area_number Holding = 4

-- the area that a number stands for, or none where it stands for none
abbrev pub IsAreaOf : ℕ → Result Area NoArea → Type 0
IsAreaOf class r = MatchResult r (λ a. area_number a ≡ class) (λ _. area class ≡ false)

-- the test of a reference to so many words, in the code's terms
abbrev pub reference_test : Sizes → Area → ℕ → ℕ → Result Unit Fault
reference_test z a number words =
    cond (eqb number 0) (Err Class)
    (cond (bad_start (area_number a) number) (Err Start)
    (cond (leb (offset (area_number a) number + words) (size_of z (area_number a))) (Ok tt) (Err Operand)))
