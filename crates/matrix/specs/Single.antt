-- One bit of a matrix, read or put (SENS and MBIT). Assumes nothing.
use Rattle.std.specs.Prelude.{ℕ, Bool, cond, eqb, length}
use Rattle.verdict.specs.Lists.{Table}
use Rattle.bits.specs.Bit.{bit, matrix}
use Rattle.runs.specs.Run.{run, placed, fault_at, unless}
use Rattle.verdict.specs.Verdict.{Verdict, placeless}
use Rattle.verdict.specs.Verdict.{Said, said_by}

-- the matrix is the n words from s on
abbrev pub read_said : Table → ℕ → ℕ → ℕ → Said Bool
read_said t s n p = said_by (placeless (fault_at (length t) n s p)) (bit (run t s n) p)

-- in a table of so many words
abbrev pub put_verdict : ℕ → ℕ → ℕ → ℕ → Verdict
put_verdict words s n p = placeless (fault_at words n s p)

-- one bit of the n words from s on put on or off; every other bit stays as it was
abbrev pub bit_put : Table → ℕ → ℕ → ℕ → Bool → Table
bit_put t s n p on = placed t s (matrix n (λ q. cond (eqb q p) on (bit (run t s n) q)))

unfoldable pub put_table : Table → ℕ → ℕ → ℕ → Bool → Table
put_table t s n p on = unless (fault_at (length t) n s p) (bit_put t s n p on) t
