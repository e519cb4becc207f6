-- The laws of a record's faults, case by case. Assumes nothing.
use mathlib.Core.Path.{◌≡◌, refl, ap, ap₂, ◌∙◌}
use mathlib.Core.Bool.{Bool, true, false, cond}
use Prim.Native.Nat.{ℕ, ◌-◌, ◌*◌, ◌≤◌, ◌<◌}
use native.Mathlib.Decide.{dec_le}
use native.Mathlib.Nat.{lt_of_not-le}
use native.Mathlib.Omega.{arith}
use borrow.Author.Tests.{le-leb, lt-leb, eq-eqb, ne_eqb}
use lib.Dec.{leb, eqb}
use lib.ListN.{length, get_or, get_or-eq_default}
use Rattle.section.specs.Walk.{word}
use Rattle.section.specs.Limit.{counted, up_to}
use Rattle.section.proofs.Limits.{below_count, above_count}
use Rattle.table.specs.declared.sizes.Sizes.{Sizes}
use Rattle.table.specs.Table.{reference_fault}
use Rattle.record.specs.declared.Node.{Node}
use Rattle.record.specs.declared.Input.{Input}
use Rattle.record.specs.declared.Block.{Block}
use Rattle.rules.specs.Rules.{rows, no_kind, rule}
use Rattle.rules.specs.Fault.{constant_in, number_fault, input_fault, faults}

-- ---- nodes and inputs
module _ (z : Sizes) (node : Node) (words : ℕ) where
  by_class : (constant : Bool) → eqb node.class 9 ≡ constant
      → number_fault z node words ≡ cond constant (up_to (constant_in z) node.number 6) (reference_fault z node.class node.number words)
  unfolding number_fault
  by_class constant p =
      ap (λ (c : Bool). cond c (up_to (constant_in z) node.number 6) (reference_fault z node.class node.number words)) p

  pub of_constant : node.class ≡ 9 → number_fault z node words ≡ up_to (constant_in z) node.number 6
  of_constant e = by_class true (eq-eqb node.class 9 e)

  pub no_constant : (node.class ≡ 9 → ⊥) → number_fault z node words ≡ reference_fault z node.class node.number words
  no_constant h = by_class false (ne_eqb node.class 9 h)

module _ (z : Sizes) (earlier : ℕ) (input : Input) where
  choose : Bool → Bool → Bool → ℕ
  choose fixed coil discrete =
      cond fixed (up_to 0 input.number 9)
      (cond coil (counted (16 * z.coils) input.number 9)
      (cond discrete (counted (16 * z.discretes) input.number 9) (counted earlier input.number 9)))

  by_code : (fixed coil discrete : Bool) → leb input.code 1 ≡ fixed → leb input.code 3 ≡ coil → leb input.code 5 ≡ discrete
      → input_fault z earlier input ≡ choose fixed coil discrete
  unfolding input_fault choose
  by_code fixed coil discrete p q r = ap₂ (λ (a b : Bool). choose a b (leb input.code 5)) p q ∙ ap (choose fixed coil) r

  pub input_fixed : input.code ≤ 1 → input_fault z earlier input ≡ up_to 0 input.number 9
  unfolding choose
  input_fixed l = by_code true _ _ (le-leb input.code 1 l) refl refl

  pub input_coil : 1 < input.code → input.code ≤ 3 → input_fault z earlier input ≡ counted (16 * z.coils) input.number 9
  unfolding choose
  input_coil l u = by_code false true _ (lt-leb input.code 1 l) (le-leb input.code 3 u) refl

  pub input_discrete : 3 < input.code → input.code ≤ 5 → input_fault z earlier input ≡ counted (16 * z.discretes) input.number 9
  unfolding choose
  input_discrete l u =
      by_code false false true (lt-leb input.code 1 (omega arith)) (lt-leb input.code 3 l) (le-leb input.code 5 u)

  pub input_output : 5 < input.code → input_fault z earlier input ≡ counted earlier input.number 9
  unfolding choose
  input_output l =
      by_code false false false (lt-leb input.code 1 (omega arith)) (lt-leb input.code 3 (omega arith)) (lt-leb input.code 5 l)

-- a kind that is none of the eight has no row
pub no_row : (k : ℕ) → ((i : ℕ) → 1 ≤ i → i ≤ 8 → k ≡ i → ⊥) → rule k ≡ no_kind
unfolding rule
no_row k h = elim (dec_le 1 k) [
  | no l ↦ ap (λ (b : Bool). cond b (get_or rows (k - 1) no_kind) no_kind) (below_count 8 k (lt_of_not-le l))
  | yes l ↦ elim (dec_le k 8) [
    | no u ↦ ap (λ (b : Bool). cond b (get_or rows (k - 1) no_kind) no_kind) (above_count 8 k l (lt_of_not-le u))
    | yes u ↦ absurd (h k l u refl)
  ]
]

-- a record has 15 words
pub faults_past : (z : Sizes) (earlier : ℕ) (b : Block) (q : ℕ) → 15 ≤ q → word (faults z earlier b) q ≡ 0
unfolding faults
faults_past z earlier b q l = get_or-eq_default (faults z earlier b) 0 l

pub faults_long : (z : Sizes) (earlier : ℕ) (b : Block) → length (faults z earlier b) ≡ 15
unfolding faults
faults_long z earlier b = refl
