-- The laws of `then` and `seek`: one verdict after another; what a walk over words does at the first, and over two runs of them; a
-- loop that walks. Assumes nothing.
use mathlib.Core.Path.{◌≡◌, refl, sym, ap, ap₂, ◌∙◌}
use mathlib.Core.Bool.{Bool, cond}
use mathlib.Core.List.{List, [], ◌∷◌, ◌++◌, append-nil}
use Prim.Native.Nat.{ℕ, zero, suc, ◌+◌, ◌≤◌, ◌<◌}
use native.Mathlib.Decide.{dec_le, dec_lt, ℕ_discrete}
use native.Mathlib.Nat.{add-zero, lt_of_not-le}
use native.Mathlib.Numerals.{add-one}
use native.Mathlib.Omega.{arith}
use borrow.Author.Tests.{lt-ltb, le-ltb, eq-eqb, ne_eqb}
use lib.Dec.{eqb}
use lib.ListN.{length, get_or, drop, drop_of_length-le}
use lib.Seq.{drop-cons}
use Rattle.section.specs.Walk.{seek}
use Rattle.verdict.specs.Verdict.{Verdict, verdict, done, then}
use Rattle.section.specs.Truths.{Clean}

-- ---- one verdict after another
abbrev number_of : Verdict → ℕ
number_of v = v.number

pub then_first : (v w : Verdict) → (v.number ≡ 0 → ⊥) → then v w ≡ v
then_first v w h = ap (λ (b : Bool). cond b w v) (ne_eqb v.number 0 h)

pub then_next : (v w : Verdict) → v.number ≡ 0 → then v w ≡ w
then_next v w e = ap (λ (b : Bool). cond b w v) (eq-eqb v.number 0 e)

-- both refuse nothing where one after the other refuses nothing
pub then_zero : (v w : Verdict) → (then v w).number ≡ 0 → (v.number ≡ 0) × (w.number ≡ 0)
then_zero v w e = elim (ℕ_discrete v.number 0) [
  | yes z ↦ (z, ap number_of (sym (then_next v w z)) ∙ e)
  | no z ↦ absurd (z (ap number_of (sym (then_first v w z)) ∙ e))
]

-- the first of three refuses or the others follow
pub then_assoc : (u v w : Verdict) → then (then u v) w ≡ then u (then v w)
then_assoc u v w = elim (ℕ_discrete u.number 0) [
  | yes z ↦ ap (λ (x : Verdict). then x w) (then_next u v z) ∙ sym (then_next u (then v w) z)
  | no z ↦ ap (λ (x : Verdict). then x w) (then_first u v z) ∙ then_first u w z ∙ sym (then_first u (then v w) z)
]

pub le_of_not_lt : {i n : ℕ} → (i < n → ⊥) → n ≤ i
le_of_not_lt {i} {n} h = elim (dec_le n i) [ yes l ↦ l | no l ↦ absurd (h (lt_of_not-le l)) ]

-- ---- the first word
module _ (size : ℕ) where
  step : ℕ → List ℕ → ℕ → Bool → Bool → Verdict
  step f fs i here fine = cond here (cond fine (seek fs size (suc i)) (verdict f (suc i))) (verdict 1 (suc i))

  pub seek_missing : (f : ℕ) (fs : List ℕ) (i : ℕ) → size ≤ i → seek (f ∷ fs) size i ≡ verdict 1 (suc i)
  unfolding seek step
  seek_missing f fs i h = ap (λ (b : Bool). step f fs i b (eqb f 0)) (le-ltb i size h)

  pub seek_fault : (f : ℕ) (fs : List ℕ) (i : ℕ) → i < size → (f ≡ 0 → ⊥) → seek (f ∷ fs) size i ≡ verdict f (suc i)
  unfolding seek step
  seek_fault f fs i h e = ap₂ (step f fs i) (lt-ltb i size h) (ne_eqb f 0 e)

  pub seek_next : (f : ℕ) (fs : List ℕ) (i : ℕ) → i < size → f ≡ 0 → seek (f ∷ fs) size i ≡ seek fs size (suc i)
  unfolding seek step
  seek_next f fs i h e = ap₂ (step f fs i) (lt-ltb i size h) (eq-eqb f 0 e)

  pub seek_none : (i : ℕ) → seek [] size i ≡ done
  unfolding seek
  seek_none i = refl

  -- a word that is not refused is there
  pub seek_there : (f : ℕ) (fs : List ℕ) (i : ℕ) → (seek (f ∷ fs) size i).number ≡ 0 → i < size
  seek_there f fs i e = elim (dec_lt i size) [
    | yes h ↦ h
    | no h ↦ absurd (omega (arith, ap number_of (sym (seek_missing f fs i (le_of_not_lt h))) ∙ e))
  ]

  -- a verdict of number 0 is done
  pub seek_done : (fs : List ℕ) (i : ℕ) → (seek fs size i).number ≡ 0 → seek fs size i ≡ done
  seek_done [] i e = seek_none i
  seek_done (f ∷ fs) i e = elim (dec_lt i size) [
    | yes h ↦ elim (ℕ_discrete f 0) [
      | yes z ↦ seek_next f fs i h z ∙ seek_done fs (suc i) (ap number_of (sym (seek_next f fs i h z)) ∙ e)
      | no z ↦ absurd (z (ap number_of (sym (seek_fault f fs i h z)) ∙ e))
    ]
    | no h ↦ absurd (omega (arith, ap number_of (sym (seek_missing f fs i (le_of_not_lt h))) ∙ e))
  ]

  -- it is done exactly where no word earns a refusal and none is missing
  pub done_clean : (fs : List ℕ) (i : ℕ) → i ≤ size → (seek fs size i).number ≡ 0 → Clean fs × (i + length fs ≤ size)
  unfolding Clean
  done_clean [] i u e = (tt, omega arith)
  done_clean (f ∷ fs) i u e = elim (dec_lt i size) [
    | yes h ↦ elim (ℕ_discrete f 0) [
      | yes z ↦
          let rest = done_clean fs (suc i) h (ap number_of (sym (seek_next f fs i h z)) ∙ e) in
          ((z, rest.0), omega (arith, rest.1))
      | no z ↦ absurd (z (ap number_of (sym (seek_fault f fs i h z)) ∙ e))
    ]
    | no h ↦ absurd (omega (arith, ap number_of (sym (seek_missing f fs i (le_of_not_lt h))) ∙ e))
  ]

  pub clean_done : (fs : List ℕ) (i : ℕ) → Clean fs → i + length fs ≤ size → seek fs size i ≡ done
  unfolding Clean
  clean_done [] i c u = seek_none i
  clean_done (f ∷ fs) i c u = seek_next f fs i (omega arith) c.0 ∙ clean_done fs (suc i) c.1 (omega arith)

  -- ---- one run of words, then another
  pub seek_append : (fs gs : List ℕ) (i : ℕ) → seek (fs ++ gs) size i ≡ then (seek fs size i) (seek gs size (i + length fs))
  seek_append [] gs i =
      ap (seek gs size) (sym (add-zero i)) ∙ ap (λ (v : Verdict). then v (seek gs size (i + zero))) (sym (seek_none i))
  seek_append (f ∷ fs) gs i = elim (dec_lt i size) [
    | no h ↦
        seek_missing f (fs ++ gs) i (le_of_not_lt h)
        ∙ ap (λ (v : Verdict). then v (seek gs size (i + suc (length fs)))) (sym (seek_missing f fs i (le_of_not_lt h)))
    | yes h ↦ elim (ℕ_discrete f 0) [
      | yes z ↦
          let to : suc i + length fs ≡ i + suc (length fs) = omega arith in
          seek_next f (fs ++ gs) i h z
          ∙ seek_append fs gs (suc i)
          ∙ ap₂ (λ (v : Verdict) (x : ℕ). then v (seek gs size x)) (sym (seek_next f fs i h z)) to
      | no z ↦
          seek_fault f (fs ++ gs) i h z
          ∙ sym (then_first (verdict f (suc i)) (seek gs size (i + suc (length fs))) z)
          ∙ ap (λ (v : Verdict). then v (seek gs size (i + suc (length fs)))) (sym (seek_fault f fs i h z))
    ]
  ]

  module _ (fs gs : List ℕ) (i : ℕ) where
    pub turn_refused : {v : Verdict} → v ≡ seek fs size i → (v.number ≡ 0 → ⊥) → v ≡ seek (fs ++ gs) size i
    turn_refused {v} e h =
        sym (then_first v (seek gs size (i + length fs)) h)
        ∙ ap (λ (x : Verdict). then x (seek gs size (i + length fs))) e
        ∙ sym (seek_append fs gs i)

    pub turn_passed : {v w : Verdict} {next : ℕ} → v ≡ seek fs size i → v.number ≡ 0 → i + length fs ≡ next → w ≡ seek gs size next
        → w ≡ seek (fs ++ gs) size i
    turn_passed {v} {w} e h n f =
        f
        ∙ ap (seek gs size) (sym n)
        ∙ sym (then_next v (seek gs size (i + length fs)) h)
        ∙ ap (λ (x : Verdict). then x (seek gs size (i + length fs))) e
        ∙ sym (seek_append fs gs i)

  pub turn_last : (fs : List ℕ) (i : ℕ) → seek fs size i ≡ seek (fs ++ []) size i
  turn_last fs i = ap (λ (l : List ℕ). seek l size i) (sym (append-nil fs))

-- ---- a loop over n words from a start on, q of them passed: what is left to find is what there is to find
pub record Reached (fs : List ℕ) (n size start q : ℕ) : Type 0 where
  pub long : length fs ≡ n
  pub count : q ≤ n
  pub same : seek (drop q fs) size (start + q) ≡ seek fs size start

pub begun : (fs : List ℕ) (n size start : ℕ) → length fs ≡ n → Reached fs n size start 0
begun fs n size start e = record { long = e; count = omega arith; same = ap (seek fs size) (add-zero start) }

module _ {fs : List ℕ} {n size start q : ℕ} (r : Reached fs n size start q) where
  here : q < n → seek (get_or fs q 0 ∷ drop (suc q) fs) size (start + q) ≡ seek fs size start
  here l = ap (λ (x : List ℕ). seek x size (start + q)) (sym (drop-cons fs q 0 (omega (arith, r.long)))) ∙ r.same

  pub stop_missing : q < n → size ≤ start + q → verdict 1 (start + q + 1) ≡ seek fs size start
  stop_missing l h = ap (verdict 1) (add-one (start + q)) ∙ sym (seek_missing size (get_or fs q 0) (drop (suc q) fs) (start + q) h) ∙ here l

  pub stop_fault : {number : ℕ} → q < n → start + q < size → number ≡ get_or fs q 0 → (number ≡ 0 → ⊥)
      → verdict number (start + q + 1) ≡ seek fs size start
  stop_fault l h e z =
      ap₂ verdict e (add-one (start + q))
      ∙ sym (seek_fault size (get_or fs q 0) (drop (suc q) fs) (start + q) h (λ y. z (e ∙ y)))
      ∙ here l

  pub go_on : {number : ℕ} → q < n → start + q < size → number ≡ get_or fs q 0 → number ≡ 0 → Reached fs n size start (q + 1)
  go_on l h e z =
      let at : start + (q + 1) ≡ suc (start + q) = omega arith in
      record {
        long = r.long;
        count = omega arith;
        same =
            ap₂ (λ (x y : ℕ). seek (drop x fs) size y) (add-one q) at
            ∙ sym (seek_next size (get_or fs q 0) (drop (suc q) fs) (start + q) h (sym e ∙ z))
            ∙ here l;
      }

  pub passed : n ≤ q → done ≡ seek fs size start
  passed l =
      sym (seek_none size (start + q))
      ∙ ap (λ (x : List ℕ). seek x size (start + q)) (sym (drop_of_length-le fs {i = q} (omega (arith, r.long))))
      ∙ r.same
