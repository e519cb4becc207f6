-- `bits::move_left` meets its contract: fifteen digits of the word go up by one, and the end bit of the word after it is
-- the last. Assumes nothing.
use mathlib.Core.Path.{◌≡◌, sym, ap, ap₂, ◌∙◌}
use mathlib.Core.Bool.{Bool, cond}
use Prim.Native.Nat.{ℕ, suc, ◌+◌, ◌-◌, ◌*◌, ◌/◌, ◌%◌, ◌^◌, ◌<◌}
use native.Mathlib.Numerals.{add-one}
use native.Mathlib.Omega.{arith}
use borrow.Author.Tests.{ne_eqb}
use lib.Bits.{bit_or, or_shifted}
use lib.Dec.{lit<}
use Rattle.bits.specs.Bit.{odd, of, value, word_with}
use Rattle.bits.specs.Word.{leftward}
use Rattle.bits.proofs.move_left.Goals as goal
use Rattle.bits.proofs.Digits.{digit, digit_odd, value_cong, value_of}
use Rattle.bits.proofs.Laws.{of_digit}

-- the first fifteen bits are the word's last fifteen
front : (w after : ℕ) → value 15 (leftward w after) ≡ w % 2 ^ 15
front w after = value_cong 15 (leftward w after) (λ p. odd (w / 2 ^ (15 - p))) each ∙ value_of 15 w
  where
    each : (i : ℕ) → i < 15 → leftward w after (suc i) ≡ odd (w / 2 ^ (15 - suc i))
    each i h =
        let worth : 16 - suc (suc i) ≡ 15 - suc i = omega arith in
        ap (λ (b : Bool). cond b (of after 1) (of w (suc i + 1))) (ne_eqb (suc i) 16 (λ e. omega arith))
        ∙ ap (of w) (add-one (suc i))
        ∙ of_digit w (suc i) (omega arith)
        ∙ ap (λ (k : ℕ). odd (w / 2 ^ k)) worth

-- the last is the first of the word after it
end : (after : ℕ) → after < 2 ^ 16 → digit (of after 1) ≡ after / 2 ^ 15
end after h =
    let small : after / 2 ^ 15 % 2 ≡ after / 2 ^ 15 = omega arith in
    ap digit (of_digit after 0 (lit< tt)) ∙ digit_odd (after / 2 ^ 15) ∙ small

moved : (w after : ℕ) → w < 2 ^ 16 → after < 2 ^ 16 → bit_or (w * 2 % 65536) (after / 32768) ≡ word_with (leftward w after)
unfolding value
moved w after h l =
    let up : w * 2 % 65536 ≡ w % 32768 * 2 = omega arith in
    ap (λ (x : ℕ). bit_or x (after / 32768)) up
    ∙ or_shifted (w % 32768) 1 (after / 32768) (omega arith)
    ∙ ap₂ (λ (x y : ℕ). x * 2 + y) (sym (front w after)) (sym (end after l))

pub returns : goal.returns
returns c = moved c.args.w c.args.after c.ranges.w.fits c.ranges.after.fits
