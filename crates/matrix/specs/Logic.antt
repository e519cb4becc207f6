-- AND, OR, XOR and COMP over two matrices of a table: the destination's bit becomes the operation
-- on both matrices' bits, both as they were before. Assumes nothing.
use Rattle.std.specs.Prelude.{ℕ, Bool, not, ◌&&◌, ◌||◌, length}
use Rattle.std.specs.Bool.{xor}
use Rattle.verdict.specs.Lists.{Table}
use Rattle.bits.specs.Bit.{bit, matrix, longest_whole}
use Rattle.matrix.specs.declared.{logic.Operation.Operation, logic.Operation.TheVariants.And, logic.Operation.TheVariants.Or, logic.Operation.TheVariants.Xor, logic.Operation.TheVariants.Comp}
use Rattle.runs.specs.Run.{run, placed, fault, unless}
use Rattle.verdict.specs.Verdict.{Verdict, placeless}

-- the operation on a bit of the source and the destination's bit at its position
unfoldable pub combined : Operation → Bool → Bool → Bool
combined And s d = s && d
combined Or s d = s || d
combined Xor s d = xor s d
combined Comp s d = not s

-- ---- for the calls

-- n words from s on are the source, n words from d on the destination, in a table of so many words
abbrev pub combine_fault : ℕ → ℕ → ℕ → ℕ → ℕ
combine_fault words s d n = fault longest_whole words n s d

abbrev pub combine_verdict : ℕ → ℕ → ℕ → ℕ → Verdict
combine_verdict words s d n = placeless (combine_fault words s d n)

unfoldable pub combine_table : Operation → Table → ℕ → ℕ → ℕ → Table
combine_table operation t s d n =
    unless (combine_fault (length t) s d n)
    (placed t d (matrix n (λ p. combined operation (bit (run t s n) p) (bit (run t d n) p))))
    t
