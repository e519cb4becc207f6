-- What a record must be, said once more and without the refusals' order. Assumes nothing.
use Rattle.std.specs.Prelude.{ℕ, ◌+◌, ◌*◌, ◌≤◌, ◌<◌, ◌≡◌, true}
use Rattle.table.specs.declared.sizes.Sizes.{Sizes}
use Rattle.table.specs.Sound.{Placed}
use Rattle.record.specs.declared.{Node.Node, Input.Input, Block.Block}
use Rattle.rules.specs.declared.rules.Classes.{Classes}
use Rattle.rules.specs.Rules.{rule, allows}
use Rattle.rules.specs.Fault.{length_in, constant_in, top_words}

-- a node has an allowed class, and a constant is at most the level's greatest or the reference is placed
pub record GoodNode (z : Sizes) (classes : Classes) (node : Node) (words : ℕ) : Type 0 where
  pub class_allowed : allows classes node.class ≡ true
  pub constant : node.class ≡ 9 → node.number ≤ constant_in z
  pub placed : (node.class ≡ 9 → ⊥) → Placed z node.class node.number words

-- an input has a code to 8; 0 and 1 have number 0, a contact is in its area, a block is one of the earlier ones
pub record GoodInput (z : Sizes) (earlier : ℕ) (input : Input) : Type 0 where
  pub known : input.code ≤ 8
  pub fixed : input.code ≤ 1 → input.number ≡ 0
  pub coil : 1 < input.code → input.code ≤ 3 → (1 ≤ input.number) × (input.number ≤ 16 * z.coils)
  pub contact : 3 < input.code → input.code ≤ 5 → (1 ≤ input.number) × (input.number ≤ 16 * z.discretes)
  pub block : 5 < input.code → (1 ≤ input.number) × (input.number ≤ earlier)

-- a record that so many blocks are before
pub record GoodBlock (z : Sizes) (earlier : ℕ) (b : Block) : Type 0 where
  pub kind_low : 1 ≤ b.kind
  pub kind_high : b.kind ≤ 8
  pub length_low : 1 ≤ b.n
  pub length_high : b.n ≤ length_in z b.kind
  pub top_node : GoodNode z (rule b.kind).top b.top (top_words (rule b.kind).pointer b.n)
  pub middle_node : GoodNode z (rule b.kind).middle b.middle (b.n + (rule b.kind).extra)
  pub top_input : GoodInput z earlier b.inputs.top
  pub middle_input : GoodInput z earlier b.inputs.middle
  pub bottom_input : GoodInput z earlier b.inputs.bottom
  pub top_coil : b.coils.top ≤ 16 * z.coils
  pub middle_coil : b.coils.middle ≤ 16 * z.coils
  pub bottom_coil : b.coils.bottom ≤ 16 * z.coils
