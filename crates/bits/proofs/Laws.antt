-- From words to bits: a word is the word of its bits, and what `&`, `|`, `^`, `!` and a single one do to a word is what
-- they do to each bit. One law over the positions for all of them. Assumes nothing.
use mathlib.Core.Path.{◌≡◌, refl, sym, ap, ap₂, ◌∙◌}
use mathlib.Core.Bool.{Bool, true, false, not, ◌&&◌, ◌||◌, xor}
use mathlib.Core.List.{List, [], ◌∷◌}
use mathlib.Core.Logic.{⊎_elim}
use Prim.Native.Nat.{ℕ, zero, suc, ◌+◌, ◌-◌, ◌*◌, ◌/◌, ◌%◌, ◌^◌, ◌≤◌, ◌<◌}
use native.Mathlib.Nat.{mod-eq_of_lt, eq-or-lt_of_le, le_of_suc-le-suc, not-suc-le-zero, pow-suc, add-zero, zero-div}
use native.Mathlib.Omega.{arith}
use borrow.Author.Tests.{eq-eqb, ne_eqb}
use lib.Bits.{bit_and, bit_or, bit_xor, and_shr, or_shr, xor_shr, and_mod, or_mod, xor_mod, and_mask, xor_add_and}
use lib.Dec.{eqb}
use lib.ListN.{length, get_or, get_or-eq_default}
use Rattle.bits.specs.Bit.{odd, bit, of, value, word_with}
use Rattle.bits.proofs.Digits.{digit, digit_odd, value_cong, value_digit, value_of}

-- the bit of a word by its worth
pub of_digit : (w i : ℕ) → i < 16 → of w (suc i) ≡ odd (w / 2 ^ (16 - suc i))
unfolding bit
of_digit w i h =
    let first : i / 16 ≡ 0 = omega arith in
    let worth : 15 - i % 16 ≡ 16 - suc i = omega arith in
    ap₂ (λ (k j : ℕ). odd (get_or (w ∷ []) k 0 / 2 ^ j)) first worth

-- a number below 2 ^ 16 whose bits are f is the word of f
pub word_of : (w : ℕ) (f : ℕ → Bool) → w < 2 ^ 16 → ((i : ℕ) → i < 16 → of w (suc i) ≡ f (suc i)) → w ≡ word_with f
word_of w f h e =
    sym (mod-eq_of_lt h) ∙ sym (value_of 16 w) ∙ value_cong 16 (λ p. odd (w / 2 ^ (16 - p))) f (λ i l. sym (of_digit w i l) ∙ e i l)

-- and the bits of the word of f are f
pub of_word : (f : ℕ → Bool) (i : ℕ) → i < 16 → of (word_with f) (suc i) ≡ f (suc i)
of_word f i h = of_digit (word_with f) i h ∙ value_digit 16 f i h

-- the word 0 has no bit that is on
pub zero_of : (i : ℕ) → i < 16 → of 0 (suc i) ≡ false
zero_of i h = of_digit 0 i h ∙ ap odd (zero-div (2 ^ (16 - suc i)))

-- past its last word a matrix has no bit
pub bit_past : (m : List ℕ) (p : ℕ) → length m * 16 < p → bit m p ≡ false
unfolding bit
bit_past m zero h = absurd (not-suc-le-zero h)
bit_past m (suc i) h =
    let past : length m ≤ i / 16 = omega arith in
    ap (λ (w : ℕ). odd (w / 2 ^ (15 - i % 16))) (get_or-eq_default m 0 past) ∙ ap odd (zero-div (2 ^ (15 - i % 16)))

-- ---- an operation that works on each digit apart works on each bit
module _ (op : ℕ → ℕ → ℕ) (on : Bool → Bool → Bool)
    (shr : (a b k : ℕ) → op a b / 2 ^ k ≡ op (a / 2 ^ k) (b / 2 ^ k))
    (low : (a b k : ℕ) → op a b % 2 ^ k ≡ op (a % 2 ^ k) (b % 2 ^ k))
    (table : (x y : Bool) → eqb (op (digit x) (digit y)) 1 ≡ on x y) where
  op_odd : (a b : ℕ) → odd (op a b) ≡ on (odd a) (odd b)
  op_odd a b =
      ap (λ (r : ℕ). eqb r 1) (low a b 1 ∙ ap₂ op (sym (digit_odd a)) (sym (digit_odd b))) ∙ table (odd a) (odd b)

  op_of : (a b i : ℕ) → i < 16 → of (op a b) (suc i) ≡ on (of a (suc i)) (of b (suc i))
  op_of a b i h =
      of_digit (op a b) i h
      ∙ ap odd (shr a b (16 - suc i))
      ∙ op_odd (a / 2 ^ (16 - suc i)) (b / 2 ^ (16 - suc i))
      ∙ ap₂ on (sym (of_digit a i h)) (sym (of_digit b i h))

and_table : (x y : Bool) → eqb (bit_and (digit x) (digit y)) 1 ≡ (x && y)
and_table true true = refl
and_table true false = refl
and_table false y = refl

or_table : (x y : Bool) → eqb (bit_or (digit x) (digit y)) 1 ≡ (x || y)
or_table true true = refl
or_table true false = refl
or_table false true = refl
or_table false false = refl

xor_table : (x y : Bool) → eqb (bit_xor (digit x) (digit y)) 1 ≡ xor x y
unfolding xor
xor_table true true = refl
xor_table true false = refl
xor_table false true = refl
xor_table false false = refl

pub and_of : (a b i : ℕ) → i < 16 → of (bit_and a b) (suc i) ≡ (of a (suc i) && of b (suc i))
and_of = op_of bit_and ◌&&◌ and_shr and_mod and_table

pub or_of : (a b i : ℕ) → i < 16 → of (bit_or a b) (suc i) ≡ (of a (suc i) || of b (suc i))
or_of = op_of bit_or ◌||◌ or_shr or_mod or_table

pub xor_of : (a b i : ℕ) → i < 16 → of (bit_xor a b) (suc i) ≡ xor (of a (suc i)) (of b (suc i))
xor_of = op_of bit_xor xor xor_shr xor_mod xor_table

-- ---- the complement is the exclusive or with sixteen ones
xor_true : (b : Bool) → xor b true ≡ not b
unfolding xor
xor_true true = refl
xor_true false = refl

complement_xor : (a : ℕ) → a < 2 ^ 16 → 65535 - a ≡ bit_xor a 65535
complement_xor a h =
    let low : bit_and a 65535 ≡ a = and_mask a 16 ∙ mod-eq_of_lt h in
    let sum : bit_xor a 65535 + a * 2 ≡ a + 65535 = ap (λ (x : ℕ). bit_xor a 65535 + x * 2) (sym low) ∙ xor_add_and a 65535 in
    omega arith

pub complement_of : (a i : ℕ) → a < 2 ^ 16 → i < 16 → of (65535 - a) (suc i) ≡ not (of a (suc i))
unfolding value
complement_of a i h l =
    ap (λ (x : ℕ). of x (suc i)) (complement_xor a h)
    ∙ xor_of a 65535 i l
    ∙ ap (xor (of a (suc i))) (of_word (λ p. true) i l)
    ∙ xor_true (of a (suc i))

-- ---- a single one: 2 ^ (16 - p) has the bit at p alone
none_alone : (k j : ℕ) → k ≤ j → value k (λ q. eqb q (suc j)) ≡ 0
unfolding value
none_alone zero j h = refl
none_alone (suc k) j h =
    ap₂ (λ (v : ℕ) (b : Bool). v * 2 + digit b) (none_alone k j (omega arith)) (ne_eqb (suc k) (suc j) (λ e. omega arith))

alone : (k j : ℕ) → j < k → value k (λ q. eqb q (suc j)) ≡ 2 ^ (k - suc j)
unfolding value
alone zero j h = absurd (not-suc-le-zero h)
alone (suc k) j h = ⊎_elim last (λ l. earlier l (alone k j l)) (eq-or-lt_of_le (le_of_suc-le-suc h))
  where
    last : j ≡ k → value (suc k) (λ q. eqb q (suc j)) ≡ 2 ^ (suc k - suc j)
    last e =
        let least : 0 ≡ suc k - suc j = omega arith in
        ap₂ (λ (v : ℕ) (b : Bool). v * 2 + digit b) (none_alone k j (omega arith)) (eq-eqb (suc k) (suc j) (ap suc (sym e)))
        ∙ ap (λ (n : ℕ). 2 ^ n) least

    earlier : j < k → value k (λ q. eqb q (suc j)) ≡ 2 ^ (k - suc j) → value (suc k) (λ q. eqb q (suc j)) ≡ 2 ^ (suc k - suc j)
    earlier l e =
        let next : suc (k - suc j) ≡ suc k - suc j = omega arith in
        ap₂ (λ (v : ℕ) (b : Bool). v * 2 + digit b) e (ne_eqb (suc k) (suc j) (λ q. omega arith))
        ∙ add-zero (2 ^ (k - suc j) * 2)
        ∙ sym (pow-suc 2 (k - suc j))
        ∙ ap (λ (n : ℕ). 2 ^ n) next

pub one_of : (p i : ℕ) → (p ≡ 0 → ⊥) → p ≤ 16 → i < 16 → of (2 ^ (16 - p)) (suc i) ≡ eqb (suc i) p
one_of zero i n h l = absurd (n refl)
one_of (suc j) i n h l = ap (λ (x : ℕ). of x (suc i)) (sym (alone 16 j h)) ∙ of_word (λ q. eqb q (suc j)) i l
