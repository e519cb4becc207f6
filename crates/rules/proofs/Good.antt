-- Good records: each word earns nothing exactly when its condition holds. Assumes nothing.
use mathlib.Core.Path.{◌≡◌, sym, ◌∙◌}
use mathlib.Core.Bool.{true}
use Prim.Native.Nat.{ℕ, ◌+◌, ◌*◌}
use native.Mathlib.Decide.{dec_le, ℕ_discrete}
use native.Mathlib.Nat.{lt_of_not-le, le_antisymm}
use native.Mathlib.Omega.{arith}
use Rattle.section.specs.Limit.{up_to}
use Rattle.section.specs.Truths.{Clean}
use Rattle.section.proofs.Limits.{earns, nothing, count_of, most_of, counted_in, up_to_in}
use Rattle.table.specs.declared.sizes.Sizes.{Sizes}
use Rattle.table.proofs.Good.{placed, unplaced}
use Rattle.record.specs.declared.Node.{Node}
use Rattle.record.specs.declared.Input.{Input}
use Rattle.record.specs.declared.Block.{Block}
use Rattle.rules.specs.declared.rules.Classes.{Classes}
use Rattle.rules.specs.Rules.{rule, allows}
use Rattle.rules.specs.Fault.{length_in, constant_in, class_fault, number_fault, input_fault, top_words, faults}
use Rattle.rules.specs.Sound.{GoodNode, GoodInput, GoodBlock}
use Rattle.rules.proofs.Faults.{of_constant, no_constant, input_fixed, input_coil, input_discrete, input_output}

-- ---- nodes
good_node : (z : Sizes) (classes : Classes) (node : Node) (words : ℕ) → class_fault classes node.class ≡ 0 → number_fault z node words ≡ 0
    → GoodNode z classes node words
unfolding class_fault
good_node z classes node words c e = record {
  class_allowed = earns (allows classes node.class) 6 (λ q. omega arith) c;
  constant = λ k. most_of (constant_in z) node.number 6 (λ q. omega arith) (sym (of_constant z node words k) ∙ e);
  placed = λ k. placed z node.class node.number words (sym (no_constant z node words k) ∙ e);
}

class_clear : (classes : Classes) (class : ℕ) → allows classes class ≡ true → class_fault classes class ≡ 0
unfolding class_fault
class_clear classes class e = nothing (allows classes class) 6 e

number_clear : (z : Sizes) (classes : Classes) (node : Node) (words : ℕ) → GoodNode z classes node words → number_fault z node words ≡ 0
number_clear z classes node words g = elim (ℕ_discrete node.class 9) [
  | yes k ↦ of_constant z node words k ∙ up_to_in (constant_in z) node.number 6 (g.constant k)
  | no k ↦ no_constant z node words k ∙ unplaced z node.class node.number words (g.placed k)
]

-- ---- inputs
good_input : (z : Sizes) (earlier : ℕ) (input : Input) → up_to 8 input.code 9 ≡ 0 → input_fault z earlier input ≡ 0 → GoodInput z earlier input
good_input z earlier input c e = record {
  known = most_of 8 input.code 9 (λ q. omega arith) c;
  fixed = λ l. le_antisymm (most_of 0 input.number 9 (λ q. omega arith) (sym (input_fixed z earlier input l) ∙ e)) (omega arith);
  coil = λ l u. count_of (16 * z.coils) input.number 9 (λ q. omega arith) (sym (input_coil z earlier input l u) ∙ e);
  contact = λ l u. count_of (16 * z.discretes) input.number 9 (λ q. omega arith) (sym (input_discrete z earlier input l u) ∙ e);
  block = λ l. count_of earlier input.number 9 (λ q. omega arith) (sym (input_output z earlier input l) ∙ e);
}

input_clear : (z : Sizes) (earlier : ℕ) (input : Input) → GoodInput z earlier input → input_fault z earlier input ≡ 0
input_clear z earlier input g = elim (dec_le input.code 1) [
  | yes l ↦ input_fixed z earlier input l ∙ up_to_in 0 input.number 9 (omega (arith, g.fixed l))
  | no l ↦ elim (dec_le input.code 3) [
    | yes u ↦
        let t = g.coil (lt_of_not-le l) u in
        input_coil z earlier input (lt_of_not-le l) u ∙ counted_in (16 * z.coils) input.number 9 t.0 t.1
    | no u ↦ elim (dec_le input.code 5) [
      | yes v ↦
          let t = g.contact (lt_of_not-le u) v in
          input_discrete z earlier input (lt_of_not-le u) v ∙ counted_in (16 * z.discretes) input.number 9 t.0 t.1
      | no v ↦
          let t = g.block (lt_of_not-le v) in
          input_output z earlier input (lt_of_not-le v) ∙ counted_in earlier input.number 9 t.0 t.1
    ]
  ]
]

-- ---- a record
pub good_block : (z : Sizes) (earlier : ℕ) (b : Block) → Clean (faults z earlier b) → GoodBlock z earlier b
unfolding Clean faults
good_block z earlier b c =
    let known = count_of 8 b.kind 4 (λ q. omega arith) c.0 in
    let long = count_of (length_in z b.kind) b.n 5 (λ q. omega arith) c.1.0 in
    let nodes = c.1.1 in
    let wires = nodes.1.1.1.1 in
    let coils = wires.1.1.1.1.1.1 in
    record {
      kind_low = known.0;
      kind_high = known.1;
      length_low = long.0;
      length_high = long.1;
      top_node = good_node z (rule b.kind).top b.top (top_words (rule b.kind).pointer b.n) nodes.0 nodes.1.0;
      middle_node = good_node z (rule b.kind).middle b.middle (b.n + (rule b.kind).extra) nodes.1.1.0 nodes.1.1.1.0;
      top_input = good_input z earlier b.inputs.top wires.0 wires.1.0;
      middle_input = good_input z earlier b.inputs.middle wires.1.1.0 wires.1.1.1.0;
      bottom_input = good_input z earlier b.inputs.bottom wires.1.1.1.1.0 wires.1.1.1.1.1.0;
      top_coil = most_of (16 * z.coils) b.coils.top 10 (λ q. omega arith) coils.0;
      middle_coil = most_of (16 * z.coils) b.coils.middle 10 (λ q. omega arith) coils.1.0;
      bottom_coil = most_of (16 * z.coils) b.coils.bottom 10 (λ q. omega arith) coils.1.1.0;
    }

-- a sound record earns nothing
pub record_clean : (z : Sizes) (earlier : ℕ) (b : Block) → GoodBlock z earlier b → Clean (faults z earlier b)
unfolding Clean faults
record_clean z earlier b g = (
  counted_in 8 b.kind 4 g.kind_low g.kind_high,
  (
    counted_in (length_in z b.kind) b.n 5 g.length_low g.length_high,
    (
      class_clear (rule b.kind).top b.top.class g.top_node.class_allowed,
      (
        number_clear z (rule b.kind).top b.top (top_words (rule b.kind).pointer b.n) g.top_node,
        (
          class_clear (rule b.kind).middle b.middle.class g.middle_node.class_allowed,
          (
            number_clear z (rule b.kind).middle b.middle (b.n + (rule b.kind).extra) g.middle_node,
            (
              up_to_in 8 b.inputs.top.code 9 g.top_input.known,
              (
                input_clear z earlier b.inputs.top g.top_input,
                (
                  up_to_in 8 b.inputs.middle.code 9 g.middle_input.known,
                  (
                    input_clear z earlier b.inputs.middle g.middle_input,
                    (
                      up_to_in 8 b.inputs.bottom.code 9 g.bottom_input.known,
                      (
                        input_clear z earlier b.inputs.bottom g.bottom_input,
                        (
                          up_to_in (16 * z.coils) b.coils.top 10 g.top_coil,
                          (
                            up_to_in (16 * z.coils) b.coils.middle 10 g.middle_coil,
                            (
                              up_to_in (16 * z.coils) b.coils.bottom 10 g.bottom_coil,
                              tt,
                            ),
                          ),
                        ),
                      ),
                    ),
                  ),
                ),
              ),
            ),
          ),
        ),
      ),
    ),
  ),
)
