-- The laws of the part of a table that is a matrix. Assumes nothing.
use mathlib.Core.Path.{◌≡◌, refl, sym, ap, ap₂, ◌∙◌}
use mathlib.Core.Bool.{Bool, true, false, cond, ◌&&◌, false≢true}
use mathlib.Core.List.{List, []}
use Prim.Native.Nat.{ℕ, ◌+◌, ◌≤◌}
use native.Mathlib.Omega.{arith}
use borrow.Author.Tests.{le-leb, eq-eqb, ne_eqb, leb-true, eqb-true, eqb-false}
use lib.Dec.{leb, eqb}
use lib.ListN.{length, take, drop, length-drop}
use lib.Seq.{length-take-le}
use Rattle.table.specs.declared.sizes.Sizes.{Sizes}
use Rattle.table.specs.Table.{allowed, total, area, size_of, before, reference_fault, start_of, longest_in, shown, part}
use Rattle.table.specs.Sound.{Empty, other_class, fails_refusal, length_out, bad_sizes, wrong_size, EmptyExactly}
use Rattle.table.proofs.Good.{sizes_allowed, allowed_sizes, placed}

-- six tests, of which all must hold
abbrev six : Bool → Bool → Bool → Bool → Bool → Bool → Bool
six a b c d e f = (a && b) && ((c && d) && (e && f))

module _ (words : ℕ) (z : Sizes) (class number n : ℕ) where
  shown_by : (a b c d e f : Bool) → allowed z ≡ a → eqb words (total z) ≡ b → leb 1 n ≡ c → leb n (longest_in z) ≡ d → area class ≡ e
      → eqb (reference_fault z class number n) 0 ≡ f → shown words z class number n ≡ six a b c d e f
  unfolding shown
  shown_by a b c d e f p q r s t u =
      ap₂ (λ (x y : Bool). six x y (leb 1 n) (leb n (longest_in z)) (area class) (eqb (reference_fault z class number n) 0)) p q
      ∙ ap₂ (λ (x y : Bool). six a b x y (area class) (eqb (reference_fault z class number n) 0)) r s
      ∙ ap₂ (λ (x y : Bool). six a b c d x y) t u

-- one that fails is enough
not_second : (a x : Bool) → ((a && false) && x) ≡ false
not_second true x = refl
not_second false x = refl

never : (a : Bool) → (a && false) ≡ false
never true = refl
never false = refl

fourth : (x c e : Bool) → (x && ((c && false) && e)) ≡ false
fourth x true e = never x
fourth x false e = never x

fifth : (x y : Bool) → (x && (y && false)) ≡ false
fifth x true = never x
fifth x false = never x

module _ (words : ℕ) (z : Sizes) (class number n : ℕ) where
  pub not_allowed : allowed z ≡ false → shown words z class number n ≡ false
  not_allowed p = shown_by words z class number n false _ _ _ _ _ p refl refl refl refl refl

  pub other_size : eqb words (total z) ≡ false → shown words z class number n ≡ false
  other_size p = shown_by words z class number n _ false _ _ _ _ refl p refl refl refl refl ∙ not_second (allowed z) _

  pub no_word : leb 1 n ≡ false → shown words z class number n ≡ false
  no_word p = shown_by words z class number n _ _ false _ _ _ refl refl p refl refl refl ∙ never (allowed z && eqb words (total z))

  pub too_long : leb n (longest_in z) ≡ false → shown words z class number n ≡ false
  too_long p = shown_by words z class number n _ _ _ false _ _ refl refl refl p refl refl ∙ fourth (allowed z && eqb words (total z)) (leb 1 n) _

  pub no_area : area class ≡ false → shown words z class number n ≡ false
  no_area p = shown_by words z class number n _ _ _ _ false _ refl refl refl refl p refl ∙ fifth (allowed z && eqb words (total z)) (leb 1 n && leb n (longest_in z))

  -- and where five hold, the sixth decides
  pub by_fault : allowed z ≡ true → words ≡ total z → 1 ≤ n → n ≤ longest_in z → area class ≡ true
      → shown words z class number n ≡ eqb (reference_fault z class number n) 0
  by_fault a w l u e = shown_by words z class number n true true true true true _ a (eq-eqb words (total z) w) (le-leb 1 n l) (le-leb n (longest_in z) u) e refl

-- what a part that is shown rests on
pub record Shown (words : ℕ) (z : Sizes) (class number n : ℕ) : Type 0 where
  pub sizes_allowed : allowed z ≡ true
  pub right_size : words ≡ total z
  pub some_words : 1 ≤ n
  pub few : n ≤ longest_in z
  pub an_area : area class ≡ true
  pub fits : reference_fault z class number n ≡ 0

all_six : (a b c d e f : Bool) → six a b c d e f ≡ true → (a ≡ true) × (b ≡ true) × (c ≡ true) × (d ≡ true) × (e ≡ true) × (f ≡ true)
all_six true true true true true true h = (refl, refl, refl, refl, refl, refl)
all_six true true true true true false h = absurd (false≢true h)
all_six true true true true false f h = absurd (false≢true h)
all_six true true true false e f h = absurd (false≢true h)
all_six true true false d e f h = absurd (false≢true h)
all_six true false c d e f h = absurd (false≢true h)
all_six false b c d e f h = absurd (false≢true h)

pub shown_means : (words : ℕ) (z : Sizes) (class number n : ℕ) → shown words z class number n ≡ true → Shown words z class number n
unfolding shown
shown_means words z class number n h =
    let t = all_six (allowed z) (eqb words (total z)) (leb 1 n) (leb n (longest_in z)) (area class) (eqb (reference_fault z class number n) 0) h in
    record {
      sizes_allowed = t.0;
      right_size = eqb-true words (total z) t.1;
      some_words = leb-true 1 n t.2;
      few = leb-true n (longest_in z) t.3;
      an_area = t.4;
      fits = eqb-true (reference_fault z class number n) 0 t.5;
    }

-- an area lies in the table
pub area_within : (z : Sizes) (class : ℕ) → area class ≡ true → before z class + size_of z class ≤ total z
area_within z class e = go (eqb class 0) (eqb class 1) (eqb class 3)
  where
    go : (a b c : Bool)
        → cond a 0 (cond b z.coils (cond c (z.coils + z.discretes) (z.coils + z.discretes + z.inputs)))
        + cond a z.coils (cond b z.discretes (cond c z.inputs z.holding))
        ≤ total z
    go true b c = omega arith
    go false true c = omega arith
    go false false true = omega arith
    go false false false = omega arith

pub part_within : (words : ℕ) (z : Sizes) (class number n : ℕ) → Shown words z class number n → start_of z class number + n ≤ words
unfolding start_of
part_within words z class number n h =
    omega (arith, h.right_size, (placed z class number n h.fits).inside, area_within z class h.an_area)

pub part_shown : (t : List ℕ) (z : Sizes) (class number n : ℕ) → shown (length t) z class number n ≡ true
    → part t z class number n ≡ take n (drop (start_of z class number) t)
unfolding part
part_shown t z class number n e = ap (λ (b : Bool). cond b (take n (drop (start_of z class number) t)) []) e

pub part_empty : (t : List ℕ) (z : Sizes) (class number n : ℕ) → shown (length t) z class number n ≡ false → part t z class number n ≡ []
unfolding part
part_empty t z class number n e = ap (λ (b : Bool). cond b (take n (drop (start_of z class number) t)) []) e

-- ---- a part is empty exactly for one of these reasons
module _ (t : List ℕ) (z : Sizes) (class number n : ℕ) where
  -- a part that is shown has a word
  not_empty : shown (length t) z class number n ≡ true → part t z class number n ≡ [] → ⊥
  not_empty h e =
      let s : Shown (length t) z class number n = shown_means (length t) z class number n h in
      let start : ℕ = start_of z class number in
      let fits : start + n ≤ length t = part_within (length t) z class number n s in
      let long : length (take n (drop start t)) ≡ n = length-take-le n (drop start t) (omega (arith, fits, length-drop start t)) in
      omega (arith, s.some_words, long, ap length (sym (part_shown t z class number n h) ∙ e))

  -- a test that fails is a reason
  reason : (a b c d e f : Bool) → allowed z ≡ a → eqb (length t) (total z) ≡ b → leb 1 n ≡ c → leb n (longest_in z) ≡ d → area class ≡ e
      → eqb (reference_fault z class number n) 0 ≡ f → six a b c d e f ≡ false → Empty t z class number n
  reason a b c d false f pa pb pc pd pe pf h =
      let is : (k : ℕ) → area k ≡ true → class ≡ k → ⊥ = λ k own q. false≢true (sym pe ∙ ap area q ∙ own) in
      other_class (is 0 refl) (is 1 refl) (is 3 refl) (is 4 refl)
  reason a b c d true false pa pb pc pd pe pf h = fails_refusal (eqb-false (reference_fault z class number n) 0 pf)
  reason a b false d true true pa pb pc pd pe pf h = length_out (λ q. false≢true (sym pc ∙ le-leb 1 n q.0))
  reason a b true false true true pa pb pc pd pe pf h = length_out (λ q. false≢true (sym pd ∙ le-leb n (longest_in z) q.1))
  reason false b true true true true pa pb pc pd pe pf h = bad_sizes (λ g. false≢true (sym pa ∙ sizes_allowed z g))
  reason true false true true true true pa pb pc pd pe pf h = wrong_size (eqb-false (length t) (total z) pb)
  reason true true true true true true pa pb pc pd pe pf h = absurd (false≢true (sym h))

  why : part t z class number n ≡ [] → Empty t z class number n
  why e = go (shown (length t) z class number n) refl
    where
      go : (b : Bool) → shown (length t) z class number n ≡ b → Empty t z class number n
      go true h = absurd (not_empty h e)
      go false h =
          reason (allowed z) (eqb (length t) (total z)) (leb 1 n) (leb n (longest_in z)) (area class) (eqb (reference_fault z class number n) 0)
          refl refl refl refl refl refl
          (sym (shown_by (length t) z class number n _ _ _ _ _ _ refl refl refl refl refl refl) ∙ h)

  -- and for a reason it is not shown
  hidden : Empty t z class number n → shown (length t) z class number n ≡ false
  hidden (other_class zero one three four) =
      no_area (length t) z class number n (simp (ne_eqb class 0 zero, ne_eqb class 1 one, ne_eqb class 3 three, ne_eqb class 4 four))
  hidden (fails_refusal h) =
      shown_by (length t) z class number n _ _ _ _ _ false refl refl refl refl refl (ne_eqb (reference_fault z class number n) 0 h)
      ∙ ap (λ (b : Bool). (allowed z && eqb (length t) (total z)) && ((leb 1 n && leb n (longest_in z)) && b)) (never (area class))
      ∙ fifth (allowed z && eqb (length t) (total z)) (leb 1 n && leb n (longest_in z))
  hidden (length_out h) = go (leb 1 n) (leb n (longest_in z)) refl refl
    where
      go : (a b : Bool) → leb 1 n ≡ a → leb n (longest_in z) ≡ b → shown (length t) z class number n ≡ false
      go false b p q = no_word (length t) z class number n p
      go true false p q = too_long (length t) z class number n q
      go true true p q = absurd (h (leb-true 1 n p, leb-true n (longest_in z) q))
  hidden (bad_sizes h) = go (allowed z) refl
    where
      go : (a : Bool) → allowed z ≡ a → shown (length t) z class number n ≡ false
      go true p = absurd (h (allowed_sizes z p))
      go false p = not_allowed (length t) z class number n p
  hidden (wrong_size h) = other_size (length t) z class number n (ne_eqb (length t) (total z) h)

pub empty_exactly : EmptyExactly
empty_exactly t z class number n = (why t z class number n, λ r. part_empty t z class number n (hidden t z class number n r))
