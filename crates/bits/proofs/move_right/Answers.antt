-- `bits::move_right` meets its contract: each digit of the word goes down by one, and the end bit of the word before it is
-- put at the head. Assumes nothing.
use mathlib.Core.Path.{◌≡◌, sym, ap, ap₂, ◌∙◌}
use mathlib.Core.Bool.{Bool, true, false, cond, ◌||◌, ◌&&◌, or-false, and-true, and-false}
use Prim.Native.Nat.{ℕ, zero, suc, ◌-◌, ◌*◌, ◌/◌, ◌%◌, ◌^◌, ◌<◌}
use native.Mathlib.Nat.{div-one}
use native.Mathlib.Numerals.{sub-one}
use native.Mathlib.Omega.{arith}
use borrow.Author.Tests.{ne_eqb}
use lib.Bits.{bit_and, bit_or, and_mask, or_lt}
use lib.Dec.{eqb, lit<, lit≤}
use Rattle.bits.specs.Bit.{odd, of, value, word_with}
use Rattle.bits.specs.Word.{rightward}
use Rattle.bits.proofs.move_right.Goals as goal
use Rattle.bits.proofs.Digits.{digit, digit_odd, half_digit}
use Rattle.bits.proofs.Laws.{of_digit, word_of, of_word, or_of, one_of}

-- the word moved down has no bit at 1, and the word's bit before it at every other
head_off : (w : ℕ) → w < 2 ^ 16 → of (w / 2) 1 ≡ false
head_off w h =
    let none : w / 2 / 2 ^ 15 ≡ 0 = omega arith in
    of_digit (w / 2) 0 (lit< tt) ∙ ap odd none

down : (w i : ℕ) → suc i < 16 → of (w / 2) (suc (suc i)) ≡ of w (suc i)
down w i h =
    let worth : suc (16 - suc (suc i)) ≡ 16 - suc i = omega arith in
    of_digit (w / 2) (suc i) h
    ∙ ap odd (sym (half_digit w (16 - suc (suc i))))
    ∙ ap (λ (k : ℕ). odd (w / 2 ^ k)) worth
    ∙ sym (of_digit w i (omega arith))

-- a digit moved to the head is the bit at 1, alone
headed : (b : Bool) (i : ℕ) → i < 16 → of (digit b * 32768) (suc i) ≡ (b && eqb (suc i) 1)
unfolding value
headed true i h = one_of 1 i (λ e. omega arith) (lit≤ tt) h
headed false i h = of_word (λ p. false) i h

end : (before : ℕ) → bit_and before 1 * 32768 % 65536 ≡ digit (of before 16) * 32768
end before =
    let mask : bit_and before 1 ≡ before % 2 = and_mask before 1 in
    let last : digit (of before 16) ≡ before % 2 = ap digit (of_digit before 15 (lit< tt) ∙ ap odd (div-one before)) ∙ digit_odd before in
    omega arith

each : (before w : ℕ) → w < 2 ^ 16 → (i : ℕ) → i < 16
    → (of (w / 2) (suc i) || (of before 16 && eqb (suc i) 1)) ≡ rightward before w (suc i)
each before w h zero l = ap₂ ◌||◌ (head_off w h) (and-true (of before 16))
each before w h (suc i) l =
    let later : eqb (suc (suc i)) 1 ≡ false = ne_eqb (suc (suc i)) 1 (λ e. omega arith) in
    ap₂ (λ (x y : Bool). x || (of before 16 && y)) (down w i l) later
    ∙ ap (λ (x : Bool). of w (suc i) || x) (and-false (of before 16))
    ∙ or-false (of w (suc i))
    ∙ ap (of w) (sym (sub-one (suc (suc i))))
    ∙ ap (λ (e : Bool). cond e (of before 16) (of w (suc (suc i) - 1))) (sym later)

moved : (before w : ℕ) → w < 2 ^ 16 → bit_or (w / 2) (bit_and before 1 * 32768 % 65536) ≡ word_with (rightward before w)
moved before w h =
    word_of (bit_or (w / 2) (bit_and before 1 * 32768 % 65536)) (rightward before w)
    (or_lt 16 (w / 2) (bit_and before 1 * 32768 % 65536) (omega arith) (omega arith))
    (λ i l.
    or_of (w / 2) (bit_and before 1 * 32768 % 65536) i l
    ∙ ap (λ (x : Bool). of (w / 2) (suc i) || x) (ap (λ (x : ℕ). of x (suc i)) (end before) ∙ headed (of before 16) i l)
    ∙ each before w h i l)

pub returns : goal.returns
returns c = moved c.args.before c.args.w c.ranges.w.fits
