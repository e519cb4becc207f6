-- The laws of one bit of a word: a shift brings it to the end, where a mask takes it; a single one at its position is or-ed in, or its
-- complement and-ed.
use mathlib.Core.Path.{◌≡◌, refl, sym, ap, ◌∙◌}
use mathlib.Core.Bool.{Bool, true, false, cond, not, ◌||◌, ◌&&◌}
use Prim.Native.Nat.{ℕ, zero, suc, ◌-◌, ◌*◌, ◌/◌, ◌%◌, ◌^◌, ◌≤◌, ◌<◌}
use native.Mathlib.Nat.{mod-eq_of_lt, one-mul}
use native.Mathlib.Omega.{arith}
use borrow.Author.Tests.{ne_eqb}
use lib.Bits.{bit_and, bit_or, and_mask, and_lt, or_lt}
use lib.Dec.{eqb}
use lib.Pow.{pow-lt}
use Rattle.bits.specs.Bit.{of, bit, word_with}
use Rattle.bits.specs.Word.{put}
use Rattle.bits.proofs.Laws.{word_of, of_digit, bit_past, and_of, or_of, complement_of, one_of}

-- ---- read
pub last_of : (w p : ℕ) → 1 ≤ p → p ≤ 16 → eqb (bit_and (w / 2 ^ (16 - p)) 1) 1 ≡ of w p
last_of w zero h l = absurd (omega arith)
last_of w (suc i) h l = ap (λ (x : ℕ). eqb x 1) (and_mask (w / 2 ^ (16 - suc i)) 1) ∙ sym (of_digit w i l)

pub none_before : (w p : ℕ) → p ≡ 0 → false ≡ of w p
unfolding bit
none_before w p e = ap (of w) (sym e)

pub none_past : (w p : ℕ) → 16 < p → false ≡ of w p
none_past w p h = sym (bit_past _ p h)

pub ruleset reads = (last_of, none_before, none_past)

-- ---- put
-- a position outside the word is none of its bits
outside_as : (w p : ℕ) (on : Bool) → w < 2 ^ 16 → ((i : ℕ) → i < 16 → suc i ≡ p → ⊥) → w ≡ word_with (put w p on)
outside_as w p on h out =
    word_of w (put w p on) h (λ i l. ap (λ (e : Bool). cond e on (of w (suc i))) (sym (ne_eqb (suc i) p (out i l))))

-- the mask is a single one
mask : (p : ℕ) → (p ≡ 0 → ⊥) → 1 * 2 ^ (16 - p) % 65536 ≡ 2 ^ (16 - p)
mask p h = ap (λ (x : ℕ). x % 65536) (one-mul (2 ^ (16 - p))) ∙ mod-eq_of_lt (pow-lt {j = 16} (omega arith))

or_put : (b e : Bool) → (b || e) ≡ cond e true b
or_put true true = refl
or_put true false = refl
or_put false true = refl
or_put false false = refl

and_put : (b e : Bool) → (b && not e) ≡ cond e false b
and_put true true = refl
and_put true false = refl
and_put false true = refl
and_put false false = refl

module _ (w p : ℕ) (h : w < 2 ^ 16) (m : 1 ≤ p) (l : p ≤ 16) where
  n : p ≡ 0 → ⊥
  n e = omega arith

  one_lt : 2 ^ (16 - p) < 2 ^ 16
  one_lt = pow-lt {j = 16} (omega arith)

  one_on : bit_or w (2 ^ (16 - p)) ≡ word_with (put w p true)
  one_on =
      word_of _ (put w p true) (or_lt 16 w (2 ^ (16 - p)) h one_lt)
      (λ i k. or_of w (2 ^ (16 - p)) i k ∙ ap (λ (e : Bool). of w (suc i) || e) (one_of p i n l k) ∙ or_put (of w (suc i)) (eqb (suc i) p))

  one_off : bit_and w (65535 - 2 ^ (16 - p)) ≡ word_with (put w p false)
  one_off =
      word_of _ (put w p false) (and_lt 16 w (65535 - 2 ^ (16 - p)) h (omega arith))
      (λ i k.
      and_of w (65535 - 2 ^ (16 - p)) i k
      ∙ ap (λ (e : Bool). of w (suc i) && e) (complement_of (2 ^ (16 - p)) i one_lt k ∙ ap not (one_of p i n l k))
      ∙ and_put (of w (suc i)) (eqb (suc i) p))

  pub put_on : (on : Bool) → on ≡ true → bit_or w (1 * 2 ^ (16 - p) % 65536) ≡ word_with (put w p on)
  put_on on e = ap (bit_or w) (mask p n) ∙ one_on ∙ ap (λ (b : Bool). word_with (put w p b)) (sym e)

  pub put_off : (on : Bool) → on ≡ false → bit_and w (65535 - 1 * 2 ^ (16 - p) % 65536) ≡ word_with (put w p on)
  put_off on e = ap (λ (m : ℕ). bit_and w (65535 - m)) (mask p n) ∙ one_off ∙ ap (λ (b : Bool). word_with (put w p b)) (sym e)

pub put_before : (w p : ℕ) (on : Bool) → w < 2 ^ 16 → p ≡ 0 → w ≡ word_with (put w p on)
put_before w p on h z = outside_as w p on h (λ i l e. omega arith)

pub put_past : (w p : ℕ) (on : Bool) → w < 2 ^ 16 → 16 < p → w ≡ word_with (put w p on)
put_past w p on h z = outside_as w p on h (λ i l e. omega arith)

pub ruleset puts = (put_on, put_off, put_before, put_past)
