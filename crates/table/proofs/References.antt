-- The laws of references: what the offset and the refusal of one are in each case. Assumes nothing.
use mathlib.Core.Path.{◌≡◌, refl, ap, ap₂, ◌∙◌}
use mathlib.Core.Bool.{Bool, true, false, cond, ◌&&◌}
use Prim.Native.Nat.{ℕ, ◌+◌, ◌-◌, ◌/◌, ◌≤◌, ◌<◌}
use borrow.Author.Tests.{le-leb, lt-leb, eq-eqb, ne_eqb}
use lib.Dec.{leb, eqb}
use Rattle.level.specs.Level.{most_level}
use Rattle.table.specs.declared.sizes.Sizes.{Sizes}
use Rattle.table.specs.Table.{most_coils, most_discretes, most_inputs, most_holding, allowed, discrete, size_of, offset, bad_start, reference_fault}

-- sizes within their limits, and a level that is one
abbrev pub five : Bool → Bool → Bool → Bool → Bool → Bool
five a b c d e = ((a && b) && (c && d)) && e

pub allowed_by : (z : Sizes) (a b c d e : Bool) → leb z.coils most_coils ≡ a → leb z.discretes most_discretes ≡ b → leb z.inputs most_inputs ≡ c
    → leb z.holding most_holding ≡ d → (leb 1 z.level && leb z.level most_level) ≡ e → allowed z ≡ five a b c d e
allowed_by z a b c d e p q r s t =
    ap₂ (λ (x y : Bool). five x y (leb z.inputs most_inputs) (leb z.holding most_holding) (leb 1 z.level && leb z.level most_level)) p q
    ∙ ap₂ (λ (x y : Bool). five a b x y (leb 1 z.level && leb z.level most_level)) r s
    ∙ ap (five a b c d) t

pub offset_none : (class number : ℕ) → number ≡ 0 → offset class number ≡ 0
offset_none class number e = ap (offset class) e ∙ go (discrete class)
  where
    go : (b : Bool) → cond b ((0 - 1) / 16) (0 - 1) ≡ 0
    go true = refl
    go false = refl

pub offset_discrete : (class number : ℕ) → discrete class ≡ true → offset class number ≡ (number - 1) / 16
offset_discrete class number e = ap (λ (b : Bool). cond b ((number - 1) / 16) (number - 1)) e

pub offset_register : (class number : ℕ) → discrete class ≡ false → offset class number ≡ number - 1
offset_register class number e = ap (λ (b : Bool). cond b ((number - 1) / 16) (number - 1)) e

module _ (z : Sizes) (class number words : ℕ) where
  from_tests : Bool → Bool → Bool → ℕ
  from_tests none bad inside = cond none 6 (cond bad 7 (cond inside 0 8))

  by_tests : (none bad inside : Bool) → eqb number 0 ≡ none → bad_start class number ≡ bad
      → leb (offset class number + words) (size_of z class) ≡ inside → reference_fault z class number words ≡ from_tests none bad inside
  unfolding reference_fault from_tests
  by_tests none bad inside p q r =
      ap₂ (λ (b c : Bool). from_tests b c (leb (offset class number + words) (size_of z class))) p q ∙ ap (from_tests none bad) r

  pub reference_none : number ≡ 0 → reference_fault z class number words ≡ 6
  unfolding from_tests
  reference_none e = by_tests true (bad_start class number) _ (eq-eqb number 0 e) refl refl

  pub reference_bad : (number ≡ 0 → ⊥) → bad_start class number ≡ true → reference_fault z class number words ≡ 7
  unfolding from_tests
  reference_bad h b = by_tests false true _ (ne_eqb number 0 h) b refl

  pub reference_inside : (number ≡ 0 → ⊥) → bad_start class number ≡ false → offset class number + words ≤ size_of z class
      → reference_fault z class number words ≡ 0
  unfolding from_tests
  reference_inside h b l = by_tests false false true (ne_eqb number 0 h) b (le-leb (offset class number + words) (size_of z class) l)

  pub reference_past : (number ≡ 0 → ⊥) → bad_start class number ≡ false → size_of z class < offset class number + words
      → reference_fault z class number words ≡ 8
  unfolding from_tests
  reference_past h b l = by_tests false false false (ne_eqb number 0 h) b (lt-leb (offset class number + words) (size_of z class) l)
