-- Runs of words in a table, and the refusals of a call that is handed one.
--
-- A table is a list of words. A matrix of n words lies in it from word s on, words counted from 0; matrices may overlap.
-- A length that the call does not take is refused with 5, a run outside the table and a position outside the matrix with 8,
-- at place 0. Assumes nothing.
use Rattle.std.specs.Prelude.{ℕ, ◌+◌, ◌*◌, ◌≤◌, cond, ◌&&◌, ◌++◌, leb, eqb, length, take, drop}
use Rattle.verdict.specs.Lists.{Table, Matrix}
use Rattle.bits.specs.Bit.{longest}

-- the n words of a table from word s on
abbrev pub run : Table → ℕ → ℕ → Matrix
run t s n = take n (drop s t)

-- the table with a matrix in the place of as many words from word s on
abbrev pub placed : Table → ℕ → Matrix → Table
placed t s m = take s t ++ m ++ drop (s + length m) t

-- ---- for the calls

-- what two runs of n words from a and from b on earn in a table of so many words, by a call that takes 1 to most words:
-- the number of the refusal, or 0
unfoldable pub fault : ℕ → ℕ → ℕ → ℕ → ℕ → ℕ
fault most words n a b = cond (leb 1 n && leb n most) (cond (leb (a + n) words && leb (b + n) words) 0 8) 5

-- what one run of n words from s on earns, and a position in it
unfoldable pub fault_at : ℕ → ℕ → ℕ → ℕ → ℕ
unfolding fault
fault_at words n s p = cond (eqb (fault longest words n s s) 0) (cond (leb 1 p && leb p (16 * n)) 0 8) (fault longest words n s s)

-- what is done where a call is not refused, and what is there where it is
abbrev pub unless {ℓ} : {X : Type ℓ} → ℕ → X → X → X
unless number done refused = cond (eqb number 0) done refused

-- ---- what a run that earns no refusal is

-- two runs of n words lie in a table of so many words, and n is 1 to most
pub record Accepted (most words n a b : ℕ) : Type 0 where
  pub some_words : 1 ≤ n
  pub few : n ≤ most
  pub first : a + n ≤ words
  pub second : b + n ≤ words

-- a run of n words lies in a table of so many words, n is 1 to the longest, and the position is one of its bits
pub record Positioned (words n s p : ℕ) : Type 0 where
  pub run_accepted : Accepted longest words n s s
  pub counted : 1 ≤ p
  pub within : p ≤ 16 * n
