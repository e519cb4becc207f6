-- A block's pointer as the node that gives it, and the index of its word; its value, and what it earns. Assumes nothing.
use Rattle.std.specs.Prelude.{ℕ, Bool, cond, eqb}
use Rattle.verdict.specs.Lists.{Table}
use Rattle.record.specs.declared.Node.{Node}
use Rattle.blocks.specs.View.{pointer_at}
use Rattle.pointed.specs.Call.{pointed_fault}
use Rattle.pointed.specs.declared.place.Place.{Place}
use Rattle.pointed.specs.declared.place.Place.TheVariants.{Constant, Input, Holding}

abbrev pub node : ℕ → ℕ → Node
node class number = record { class = class; number = number }

-- a pointer as a node, and the index of its word
abbrev pub place_node : Place → Node
place_node (Constant v) = node 9 v
place_node (Input at) = node 3 0
place_node (Holding at) = node 4 0

abbrev pub place_word : Place → ℕ
place_word (Constant v) = 0
place_word (Input at) = at
place_word (Holding at) = at

-- the pointer that a node gives, whose register stands at an index
abbrev pub place_at : Node → ℕ → Place
place_at node at = cond (eqb node.class 9) (Constant node.number) (cond (eqb node.class 4) (Holding at) (Input at))

-- whether it is held, so that its register is written too; its value; what n words from d on and its register earn in a table of so many
abbrev pub held : Place → Bool
held p = eqb (place_node p).class 4

abbrev pub value_in : Place → Table → ℕ
value_in p t = pointer_at (place_node p) (place_word p) t

abbrev pub place_fault : ℕ → Place → ℕ → ℕ → ℕ
place_fault words p n d = pointed_fault words (place_node p) (place_word p) n d
