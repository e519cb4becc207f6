-- The bits of a matrix.
--
-- A word is a number below 2 ^ 16, and a matrix is a list of words. Its bits are numbered from 1 at the high-order bit of
-- its first word, 16 to a word: bit 1 of a word is worth 32768, bit 16 is worth 1. A bit is a Bool, `true` where it is on.
-- Assumes nothing.
use Rattle.std.specs.Prelude.{ℕ, zero, suc, ◌+◌, ◌-◌, ◌*◌, ◌/◌, ◌%◌, ◌^◌, Bool, false, cond, [], ◌∷◌, eqb, get_or}
use Rattle.verdict.specs.Lists.{Matrix}

-- whether the last binary digit of a number is 1
abbrev pub odd : ℕ → Bool
odd x = eqb (x % 2) 1

-- The bit at a position of a matrix. The position after the first i lies in word i / 16, counted from 0, and is worth
-- 2 ^ (15 - i % 16) there. There is no position 0, and none past the last word: no bit is on there.
unfoldable pub bit : Matrix → ℕ → Bool
bit m zero = false
bit m (suc i) = odd (get_or m (i / 16) 0 / 2 ^ (15 - i % 16))

-- the bit at a position of one word, 1 to 16: a word is a matrix of its own
abbrev pub of : ℕ → ℕ → Bool
of w p = bit (w ∷ []) p

-- the number of k binary digits, the first of which is `f 1` and the last `f k`
unfoldable pub value : ℕ → (ℕ → Bool) → ℕ
value zero f = 0
value (suc k) f = value k f * 2 + cond (f (suc k)) 1 0

-- the word whose bits are f
abbrev pub word_with : (ℕ → Bool) → ℕ
word_with f = value 16 f

-- the matrix of n words whose bits are f
unfoldable pub matrix : ℕ → (ℕ → Bool) → Matrix
matrix zero f = []
matrix (suc n) f = word_with f ∷ matrix n (λ p. f (16 + p))

-- the longest matrix that is read as a whole (AND to BROT), in words, and the longest of all (MBIT, SENS at Level 2)
abbrev pub longest_whole : ℕ
longest_whole = 100

abbrev pub longest : ℕ
longest = 600
