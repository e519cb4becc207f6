-- The first differing position above a start, of two matrices (CMPR). Assumes nothing.
use Rattle.std.specs.Prelude.{ℕ, zero, suc, ◌-◌, ◌*◌, ◌≤◌, ◌<◌, ◌≡◌, ◌↔◌, Bool, true, false, cond, length, Result, Ok, Err, Some, None}
use Rattle.std.specs.Prelude.{Option as Answered}
use Rattle.std.specs.Bool.{xor}
use Rattle.std.proofs.Math.Option.{Option, none, some}
use Rattle.verdict.specs.Lists.{Table, Matrix}
use Rattle.bits.specs.Bit.{bit, longest_whole}
use Rattle.verdict.specs.declared.Refusal.{Refusal}
use Rattle.runs.specs.Run.{run, fault}
use Rattle.verdict.specs.Verdict.{number_of, verdict, done, placeless}
use Rattle.verdict.specs.Verdict.{Said, said_by}

-- two matrices differ at a position
abbrev pub differing : Matrix → Matrix → ℕ → Bool
differing a b p = xor (bit a p) (bit b p)

-- the first of the k positions after i at which f is on
unfoldable pub first : (ℕ → Bool) → ℕ → ℕ → Option ℕ
first f i zero = none
first f i (suc k) = cond (f (suc i)) (some (suc i)) (first f (suc i) k)

-- the first position above a start at which two matrices of n words differ: none where the start is 16n or more
abbrev pub first_differing : Matrix → Matrix → ℕ → ℕ → Option ℕ
first_differing a b n above = first (differing a b) above (16 * n - above)

-- ---- for the calls

-- a position, or none, that the search answers
abbrev pub shown : Answered ℕ → Option ℕ
shown None = none
shown (Some p) = some p

-- what the search's answer says: done and a position or none, or a refusal
abbrev pub difference_said : Result (Answered ℕ) Refusal → Said (Option ℕ)
difference_said (Ok found) = record { verdict = done; value = Some (shown found) }
difference_said (Err r) = record { verdict = verdict (number_of r.fault) r.place; value = None }

-- the matrices are the n words from a on and the n words from b on, in a table of so many words
abbrev pub search_fault : ℕ → ℕ → ℕ → ℕ → ℕ
search_fault words a b n = fault longest_whole words n a b

abbrev pub first_said : Table → ℕ → ℕ → ℕ → ℕ → Said (Option ℕ)
first_said t a b n above = said_by (placeless (search_fault (length t) a b n)) (first_differing (run t a n) (run t b n) n above)

-- ---- what the answer means

-- no position above a start differs
abbrev pub NoneLater : Matrix → Matrix → ℕ → ℕ → Type 0
NoneLater a b n above = (p : ℕ) → above < p → p ≤ 16 * n → differing a b p ≡ false

-- a position is the first above a start that differs
pub record FirstLater (a b : Matrix) (n above p : ℕ) : Type 0 where
  pub later : above < p
  pub inside : p ≤ 16 * n
  pub differs : differing a b p ≡ true
  pub earlier_agree : (q : ℕ) → above < q → q < p → differing a b q ≡ false

-- the call answers nothing exactly when it is not refused and no later position differs
abbrev pub NothingMeansNone : Type 0
NothingMeansNone =
    (t : Table) (a b n above : ℕ) (r : Result (Answered ℕ) Refusal) → difference_said r ≡ first_said t a b n above →
    (r ≡ Ok None) ↔ ((search_fault (length t) a b n ≡ 0) × NoneLater (run t a n) (run t b n) n above)

-- and a position exactly when that is the first later one that differs
abbrev pub AtMeansFirst : Type 0
AtMeansFirst =
    (t : Table) (a b n above p : ℕ) (r : Result (Answered ℕ) Refusal) → difference_said r ≡ first_said t a b n above →
    (r ≡ Ok (Some p)) ↔ ((search_fault (length t) a b n ≡ 0) × FirstLater (run t a n) (run t b n) n above p)
