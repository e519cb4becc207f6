-- The laws of a number put from its last digit to its first, and of the end of a line.
use mathlib.Core.Path.{◌≡◌, refl, sym, ap, ◌∙◌, subst}
use mathlib.Core.List.{List, [], ◌∷◌, ◌++◌}
use Prim.Native.Nat.{ℕ, ◌+◌, ◌-◌, ◌/◌, ◌%◌, ◌^◌, ◌≤◌, ◌<◌}
use native.Mathlib.Nat.{le_refl, div-one}
use native.Mathlib.Numerals.{add-one}
use native.Mathlib.Omega.{arith}
use lib.ListN.{length, set, length-append}
use Rattle.blocks.specs.declared.Outputs.{Outputs}
use Rattle.text.specs.Text.{places, digits, decimal, output_fields, no_pointer, label_text, longest_line}
use Rattle.text.specs.Inner.{Put}
use Rattle.text.proofs.Putting.{put_none, put_as, put_few, put_over, put_before, put_decimal}
use Rattle.text.proofs.Laying.{digits_length, places_few}
use Rattle.text.proofs.Labels.{digits_first, power_more, label_few}
use Rattle.lines.specs.Tail.{tail_text, tailed_line}
use Rattle.lines.specs.declared.tail.Tail.{Tail}
use Rattle.lines.specs.declared.tail.Tail.TheVariants.{Plain, Pointed, Compared}

-- of so many digits all but the first i are put, and `rest` is what they leave of the number
pub record Digits (all i n rest at : ℕ) (before after : List ℕ) : Type 0 where
  pub left : rest ≡ n / 10 ^ (all - i)
  pub put : Put all before (at + i) (digits (all - i) n) (at + all) after

module _ (all n at : ℕ) where
  pub no_digits : (text : List ℕ) → at + all ≤ length text → Digits all all n n at text text
  unfolding digits
  no_digits text l =
      let none : 0 ≡ all - all = omega arith in
      record {
        left = sym (div-one n) ∙ ap (λ (k : ℕ). n / 10 ^ k) none;
        put = put_as (le_refl all) (ap (λ (k : ℕ). digits k n) none) (put_as {more = all} (omega arith) refl (put_none all text (at + all) l));
      }

  pub digit_more : (i rest : ℕ) (before after : List ℕ) → 0 < i → i ≤ all → Digits all i n rest at before after
      → Digits all (i - 1) n (rest / 10) at before (set after (at + (i - 1)) (48 + rest % 10))
  digit_more i rest before after l u d =
      let k : ℕ = all - i in
      let more : all - (i - 1) ≡ k + 1 = omega (arith, l, u) in
      let there : at + i ≡ at + (i - 1) + 1 = omega (arith, l) in
      let digit : (48 + rest % 10) ∷ digits k n ≡ digits (all - (i - 1)) n =
      ap (λ (m : ℕ). (48 + m % 10) ∷ digits k n) d.left ∙ sym (digits_first k n) ∙ ap (λ (j : ℕ). digits j n) (sym (add-one k) ∙ sym more)
      in
      record {
        left = ap (λ (m : ℕ). m / 10) d.left ∙ sym (power_more k n) ∙ ap (λ (j : ℕ). n / 10 ^ j) (sym more);
        put =
            put_as (le_refl all) digit
            (put_before (48 + rest % 10) (omega (arith, l, u, digits_length k n)) (subst (λ (m : ℕ). Put all before m (digits k n) (at + all) after) there d.put));
      }

  pub digits_put : (i rest : ℕ) (before after : List ℕ) → i ≤ 0 → places n ≡ all → Digits all i n rest at before after → Put 5 before at (decimal n) (at + all) after
  digits_put i rest before after l e d =
      let none : i ≡ 0 = omega (arith, l) in
      let there : at + i ≡ at = omega (arith, l) in
      put_decimal n e (omega (arith, e, places_few n))
      (put_as (le_refl all) (ap (λ (k : ℕ). digits k n) (omega (arith, l))) (subst (λ (m : ℕ). Put all before m (digits (all - i) n) (at + all) after) there d.put))

-- ---- the end of a line, over the two spare bytes that its outputs leave
tail_long : (tail : Tail) (count : ℕ) → 2 ≤ length (tail_text tail count)
unfolding tail_text
tail_long Plain count = omega (arith, length-append (no_pointer ++ 32 ∷ decimal 0) (10 ∷ []), length-append no_pointer (32 ∷ decimal 0))
tail_long (Pointed pointer) count = omega (arith, length-append (decimal pointer ++ 32 ∷ decimal 0) (10 ∷ []), length-append (decimal pointer) (32 ∷ decimal 0))
tail_long (Compared pointer) count = omega (arith, length-append (decimal pointer ++ 32 ∷ decimal count) (10 ∷ []), length-append (decimal pointer) (32 ∷ decimal count))

pub tailed_put : (scan block : ℕ) (out : Outputs) (tail : Tail) {at next end : ℕ} {before front last : List ℕ}
    → Put 22 before at (label_text scan ++ label_text block ++ output_fields out ++ 0 ∷ 0 ∷ []) (next + 2) front
    → Put 12 front next (tail_text tail out.count) end last → Put longest_line before at (tailed_line scan block out tail) end last
tailed_put scan block out tail {at} {next} p q =
    let front : List ℕ = label_text scan ++ label_text block ++ output_fields out in
    let labels : List ℕ = label_text scan ++ label_text block in
    let long : length front ≤ 20 =
    omega (arith, length-append labels (output_fields out), length-append (label_text scan) (label_text block), label_few scan, label_few block) in
    put_few (omega (arith, length-append front (tail_text tail out.count), long, q.few))
    (put_over front (0 ∷ 0 ∷ []) p (omega (arith, p.reaches, length-append front (0 ∷ 0 ∷ []))) (omega (arith, q.reaches, tail_long tail out.count)) q)
