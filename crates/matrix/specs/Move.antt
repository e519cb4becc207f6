-- A matrix moved by one position (BROT): left takes bit 2 into 1, right takes bit 1 into 2. With
-- wrap the bit that leaves enters at the other end, else 0 enters. Assumes nothing.
use Rattle.std.specs.Prelude.{ℕ, ◌+◌, ◌-◌, ◌*◌, Bool, cond, ◌&&◌, eqb, length}
use Rattle.verdict.specs.Lists.{Table, Matrix}
use Rattle.bits.specs.Bit.{bit, matrix, longest_whole}
use Rattle.runs.specs.Run.{run, placed, fault, unless}
use Rattle.verdict.specs.Verdict.{placeless}
use Rattle.verdict.specs.Verdict.{Said, said_by}

-- the bit of an n-word matrix that leaves it
abbrev pub leaving : Bool → Matrix → ℕ → Bool
leaving left m n = cond left (bit m 1) (bit m (16 * n))

-- the bit that enters
abbrev pub entering : Bool → Bool → Matrix → ℕ → Bool
entering left wrap m n = wrap && leaving left m n

-- the bit at a position after the move
unfoldable pub moved : Bool → Bool → Matrix → ℕ → ℕ → Bool
moved left wrap m n p =
    cond left
    (cond (eqb p (16 * n)) (entering left wrap m n) (bit m (p + 1)))
    (cond (eqb p 1) (entering left wrap m n) (bit m (p - 1)))

-- ---- for the calls

-- n words from s on are the source, n words from d on the destination, in a table of so many words
abbrev pub move_fault : ℕ → ℕ → ℕ → ℕ → ℕ
move_fault words s d n = fault longest_whole words n s d

-- the answer is the bit that left
abbrev pub move_said : Bool → Table → ℕ → ℕ → ℕ → Said Bool
move_said left t s d n = said_by (placeless (move_fault (length t) s d n)) (leaving left (run t s n) n)

unfoldable pub move_table : Bool → Bool → Table → ℕ → ℕ → ℕ → Table
unfolding moved
move_table left wrap t s d n =
    unless (move_fault (length t) s d n) (placed t d (matrix n (moved left wrap (run t s n) n))) t
