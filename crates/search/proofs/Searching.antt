-- The laws of the search: one position at a time, many at a time, where it ends, and the words that are equal. Assumes nothing.
use mathlib.Core.Path.{◌≡◌, sym, ap, ap₂, ◌∙◌, subst}
use mathlib.Core.Bool.{Bool, true, false, cond}
use mathlib.Core.List.{List}
use mathlib.Core.Option.{none, some}
use Prim.Native.Nat.{ℕ, zero, suc, ◌+◌, ◌-◌, ◌≤◌, ◌<◌}
use native.Mathlib.Nat.{add-zero, zero-add, suc-add}
use native.Mathlib.Decide.{dec_le}
use native.Mathlib.Omega.{arith}
use lib.ListN.{get_or}
use Rattle.search.specs.Search.{first}
use Rattle.search.specs.Inner.{Equal}

module _ (f : ℕ → Bool) where
  first_miss : (i k : ℕ) → f (suc i) ≡ false → first f i (suc k) ≡ first f (suc i) k
  unfolding first
  first_miss i k e = ap (λ (b : Bool). cond b (some (suc i)) (first f (suc i) k)) e

  first_past : (m i k : ℕ) → ((j : ℕ) → i ≤ j → j < i + m → f (suc j) ≡ false) → first f i (m + k) ≡ first f (i + m) k
  first_past zero i k off = ap₂ (first f) (sym (add-zero i)) (zero-add k)
  first_past (suc m) i k off =
      let next : suc i + m ≡ i + suc m = omega arith in
      ap (first f i) (suc-add m k)
      ∙ first_miss i (m + k) (off i (omega arith) (omega arith))
      ∙ first_past m (suc i) k (λ j l u. off j (omega arith) (omega arith))
      ∙ ap (λ (x : ℕ). first f x k) next

  first_on : (i k : ℕ) → 0 < k → f (suc i) ≡ true → first f i k ≡ some (suc i)
  unfolding first
  first_on i zero h e = absurd (omega arith)
  first_on i (suc k) h e = ap (λ (b : Bool). cond b (some (suc i)) (first f (suc i) k)) e

  -- ---- the search from i on up to an end: `first f i (end - i)`
  module _ (end : ℕ) where
    -- it stops where f is on
    pub stop : (i : ℕ) → i < end → f (suc i) ≡ true → first f i (end - i) ≡ some (suc i)
    stop i l e = first_on i (end - i) (omega arith) e

    -- it passes over positions where f is off
    pub past : (i j : ℕ) → i ≤ j → j ≤ end → ((q : ℕ) → i ≤ q → q < j → f (suc q) ≡ false) → first f i (end - i) ≡ first f j (end - j)
    past i j l u off =
        let left : end - i ≡ (j - i) + (end - j) = omega arith in
        let to : i + (j - i) ≡ j = omega arith in
        ap (first f i) left
        ∙ first_past (j - i) i (end - j) (λ q a b. off q a (omega arith))
        ∙ ap (λ (x : ℕ). first f x (end - j)) to

    -- it ends with nothing
    pub ended : (i : ℕ) → end ≤ i → first f i (end - i) ≡ none
    unfolding first
    ended i l = let left : end - i ≡ 0 = omega arith in ap (first f i) left

-- ---- words that are equal
module _ {x y : List ℕ} where
  pub no_words : (k : ℕ) → Equal x y k k
  no_words k = record { up = omega arith; words = λ j l u. absurd (omega arith) }

  -- some are, and those that follow
  pub joined : {i k m : ℕ} → Equal x y i k → Equal x y k m → Equal x y i m
  joined {i} {k} {m} e f =
      record { up = omega (arith, e.up, f.up); words = λ j l u. elim (dec_le k j) [ yes v ↦ f.words j v u | no v ↦ e.words j l (omega arith) ] }

  -- some are, and the next
  pub one_more : {i k : ℕ} → Equal x y i k → get_or x k 0 ≡ get_or y k 0 → Equal x y i (k + 1)
  one_more {i} {k} e f = joined e (record {
    up = omega arith;
    words = λ j l u. let here : k ≡ j = omega arith in subst (λ (w : ℕ). get_or x w 0 ≡ get_or y w 0) here f;
  })

pub ruleset passing = (no_words, joined, one_more)
