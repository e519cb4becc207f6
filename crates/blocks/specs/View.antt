-- What a block reads of the table, all of it before it writes: its source, its destination and its
-- pointer, each only where its kind reads it. Assumes nothing.
use Rattle.std.specs.Prelude.{ℕ, ◌+◌, cond, [], eqb, get_or}
use Rattle.verdict.specs.Lists.{Table, Matrix}
use Rattle.runs.specs.Run.{run}
use Rattle.record.specs.declared.{Node.Node, Block.Block}
use Rattle.network.specs.Network.{Network}
use Rattle.table.specs.Table.{start_of}
use Rattle.blocks.specs.declared.Located.{Located}
use Rattle.blocks.specs.Kind.{Kind}
use Rattle.blocks.specs.Kind.Kind.{AND, OR, XOR, COMP, CMPR, MBIT, SENS, BROT}

-- the index of a node's first word in the table
abbrev pub first_word : Network → Node → ℕ
first_word net node = start_of net.sizes node.class node.number

-- a block and the indexes of its nodes' first words
abbrev pub located : Network → Block → Located
located net b = record { block = b; top = first_word net b.top; middle = first_word net b.middle }

-- the pointer that a node gives: a constant's value, or the content of its register, which stands at an index
abbrev pub pointer_at : Node → ℕ → Table → ℕ
pointer_at node register t = cond (eqb node.class 9) node.number (get_or t register 0)

abbrev pub pointer_in : Network → Node → Table → ℕ
pointer_in net node t = pointer_at node (first_word net node) t

pub record View : Type 0 where
  pub source : Matrix
  pub destination : Matrix
  pub pointer : ℕ

abbrev pub seen : Matrix → Matrix → ℕ → View
seen source destination pointer = record { source = source; destination = destination; pointer = pointer }

-- n words of a table from a node's first on; CMPR's matrix stands after its pointer
abbrev pub top_run : Located → Table → Matrix
top_run one t = run t one.top one.block.n

abbrev pub middle_run : Located → Table → Matrix
middle_run one t = run t one.middle one.block.n

abbrev pub compared_run : Located → Table → Matrix
compared_run one t = run t (one.middle + 1) one.block.n

-- COMP and BROT read no destination, MBIT no source; SENS's source is its middle matrix
unfoldable pub seen_by : Kind → Located → Table → View
seen_by AND one t = seen (top_run one t) (middle_run one t) 0
seen_by OR one t = seen (top_run one t) (middle_run one t) 0
seen_by XOR one t = seen (top_run one t) (middle_run one t) 0
seen_by COMP one t = seen (top_run one t) [] 0
seen_by CMPR one t = seen (top_run one t) (compared_run one t) (pointer_at one.block.middle one.middle t)
seen_by MBIT one t = seen [] (middle_run one t) (pointer_at one.block.top one.top t)
seen_by SENS one t = seen (middle_run one t) [] (pointer_at one.block.top one.top t)
seen_by BROT one t = seen (top_run one t) [] 0

-- of a block of a network
abbrev pub top_matrix : Network → Block → Table → Matrix
top_matrix net b t = top_run (located net b) t

abbrev pub compared_matrix : Network → Block → Table → Matrix
compared_matrix net b t = compared_run (located net b) t

unfoldable pub view : Kind → Network → Block → Table → View
unfolding seen_by
view kind net b t = seen_by kind (located net b) t
