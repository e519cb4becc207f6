-- What a block writes: its destination, then its pointer where its rule gives a new one, then its
-- named coils, top, middle, bottom, also when the top input has no power. Assumes nothing.
use Rattle.std.specs.Prelude.{ℕ, Bool, cond, [], ◌∷◌, eqb}
use Rattle.std.proofs.Math.Option.{Option, none, some}
use Rattle.verdict.specs.Lists.{Table, Matrix}
use Rattle.runs.specs.Run.{placed}
use Rattle.matrix.specs.Single.{bit_put}
use Rattle.record.specs.declared.{Node.Node, Coils.Coils, Block.Block}
use Rattle.network.specs.Network.{Network}
use Rattle.blocks.specs.declared.{Power.Power, Outputs.Outputs}
use Rattle.blocks.specs.Kind.{Kind, kind_of}
use Rattle.blocks.specs.Kind.Kind.{AND, OR, XOR, COMP, CMPR, MBIT, SENS, BROT}
use Rattle.blocks.specs.View.{View, first_word, view}
use Rattle.blocks.specs.Effect.{Change, Effect, effect_of}
use Rattle.blocks.specs.Effect.Change.{stays, becomes, puts}

-- the node that gives the pointer: CMPR's stands before its matrix
abbrev pub pointer_node : Kind → Block → Node
pointer_node CMPR b = b.middle
pointer_node AND b = b.top
pointer_node OR b = b.top
pointer_node XOR b = b.top
pointer_node COMP b = b.top
pointer_node MBIT b = b.top
pointer_node SENS b = b.top
pointer_node BROT b = b.top

-- a matrix in the place of as many words from an index on, where there is one to write
unfoldable pub matrix_put : ℕ → Option Matrix → Table → Table
matrix_put s none t = t
matrix_put s (some m) t = placed t s m

-- a word is a matrix of its own
abbrev pub one_word : Option ℕ → Option Matrix
one_word none = none
one_word (some w) = some (w ∷ [])

-- what happens to a destination, which is the n words from index d on
unfoldable pub change_put : ℕ → ℕ → Change → Table → Table
change_put d n stays t = t
change_put d n (becomes m) t = placed t d m
change_put d n (puts p on) t = bit_put t d n p on

-- an effect: the destination, the n words from index d on, then the pointer at index p
abbrev pub effect_put : ℕ → ℕ → ℕ → Effect → Table → Table
effect_put d n p e t = matrix_put p (one_word e.pointer) (change_put d n e.destination t)

-- a coil: the bit of that number of the coil area, 1 for power and 0 for none; number 0 names none
unfoldable pub coil_put : Network → ℕ → Bool → Table → Table
coil_put net number on t = cond (eqb number 0) t (bit_put t 0 net.sizes.coils number on)

abbrev pub coils_put : Network → Coils → Outputs → Table → Table
coils_put net coils out t = coil_put net coils.bottom out.bottom (coil_put net coils.middle out.middle (coil_put net coils.top out.top t))

-- what the block is to do, with so much power on its inputs
abbrev pub effect_as : Kind → Block → View → Power → Effect
effect_as kind b v on = effect_of kind (eqb (pointer_node kind b).class 4) b.n v on

abbrev pub effect_on : Network → Block → Table → Power → Effect
effect_on net b t on = effect_as (kind_of b.kind) b (view (kind_of b.kind) net b t) on

abbrev pub shows : Bool → Bool → Bool → ℕ → Outputs
shows top middle bottom count = record { top = top; middle = middle; bottom = bottom; count = count }

-- the top output equals the top input
abbrev pub outputs : Power → Effect → Outputs
outputs on e = shows on.top e.middle e.bottom e.count

abbrev pub written : Network → Block → Power → Effect → Table → Table
written net b on e t =
    coils_put net b.coils (outputs on e)
    (effect_put (first_word net b.middle) b.n (first_word net (pointer_node (kind_of b.kind) b)) e t)

-- the outputs of a block with its count, and the table that it leaves
unfoldable pub block_outputs : Network → Block → Table → Power → Outputs
unfolding kind_of view effect_of
block_outputs net b t on = outputs on (effect_on net b t on)

unfoldable pub block_table : Network → Block → Table → Power → Table
unfolding kind_of view effect_of matrix_put change_put coil_put
block_table net b t on = written net b on (effect_on net b t on) t
