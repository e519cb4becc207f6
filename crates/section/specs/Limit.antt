-- The two tests of a number by a limit, by which sizes, counts, lengths, coils and scans are judged. Assumes nothing.
use Rattle.std.specs.Prelude.{ℕ, cond, ◌&&◌, leb, Result, Ok, Err}

-- a number from 1 to most earns nothing, and any other the refusal
abbrev pub counted : ℕ → ℕ → ℕ → ℕ
counted most n refusal = cond (leb 1 n && leb n most) 0 refusal

-- a number up to most earns nothing, and any other the refusal
abbrev pub up_to : ℕ → ℕ → ℕ → ℕ
up_to most n refusal = cond (leb n most) 0 refusal

-- and as the code's tests, whatever stands for a refusal
abbrev pub counted_test : {E : Type 0} → ℕ → ℕ → E → Result Unit E
counted_test most n refusal = cond (leb 1 n && leb n most) (Ok tt) (Err refusal)

abbrev pub up_to_test : {E : Type 0} → ℕ → ℕ → E → Result Unit E
up_to_test most n refusal = cond (leb n most) (Ok tt) (Err refusal)
