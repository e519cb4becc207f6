-- What is true of a block of an accepted network: which bits it writes, that it changes nothing else
-- and no input, that MBIT touches one bit and what its middle output and its lamp show, the key rule, when a
-- compare reports none, and what it counts. Assumes nothing.
use Rattle.std.specs.Prelude.{ℕ, zero, suc, ◌+◌, ◌-◌, ◌*◌, ◌≤◌, ◌<◌, ◌≡◌, ◌↔◌, ◌⊎◌, Bool, true, false, cond, ◌&&◌, eqb, leb, ltb, length}
use Rattle.std.proofs.Math.Option.{Option, none, some}
use Rattle.verdict.specs.Lists.{Table, Matrix}
use Rattle.bits.specs.Bit.{bit}
use Rattle.search.specs.Search.{differing, first, NoneLater}
use Rattle.record.specs.declared.Block.{Block}
use Rattle.network.specs.Network.{Network}
use Rattle.table.specs.Table.{total}
use Rattle.rules.specs.Sound.{GoodBlock}
use Rattle.blocks.specs.declared.Power.{Power}
use Rattle.blocks.specs.Kind.{Kind, kind_of}
use Rattle.blocks.specs.Kind.Kind.{AND, OR, XOR, COMP, CMPR, MBIT, SENS, BROT}
use Rattle.blocks.specs.View.{View, first_word, pointer_in}
use Rattle.blocks.specs.Effect.{Change, Effect, idle, starts_at, compare}
use Rattle.blocks.specs.Effect.Change.{stays, becomes, puts}
use Rattle.blocks.specs.Work.{pointer_node, one_word, effect_on, block_outputs, block_table}

-- ---- the bits that a block writes, by their positions in the whole table

-- what a matrix from an index on puts at a position, if it is written and the position is one of its own
abbrev pub matrix_bit : ℕ → Option Matrix → ℕ → Option Bool
matrix_bit s none p = none
matrix_bit s (some m) p = cond (ltb (16 * s) p && leb p (16 * (s + length m))) (some (bit m (p - 16 * s))) none

-- what a change of the words from an index on puts there
abbrev pub change_bit : ℕ → Change → ℕ → Option Bool
change_bit d stays p = none
change_bit d (becomes m) p = matrix_bit d (some m) p
change_bit d (puts q on) p = cond (eqb p (16 * d + q)) (some on) none

-- what a coil puts there
abbrev pub coil_bit : ℕ → Bool → ℕ → Option Bool
coil_bit number on p = cond (eqb number 0) none (cond (eqb p number) (some on) none)

-- what is written later counts
abbrev pub later : Option Bool → Option Bool → Option Bool
later none earlier = earlier
later (some x) earlier = some x

-- what the block puts at a position: none where it writes nothing
abbrev pub bit_written : Network → Block → Power → Effect → ℕ → Option Bool
bit_written net b on e p =
    later (coil_bit b.coils.bottom e.bottom p)
    (later (coil_bit b.coils.middle e.middle p)
    (later (coil_bit b.coils.top on.top p)
    (later (matrix_bit (first_word net (pointer_node (kind_of b.kind) b)) (one_word e.pointer) p)
    (change_bit (first_word net b.middle) e.destination p))))

-- the bit that was there, unless another is written
abbrev pub or_stays : Option Bool → Bool → Bool
or_stays none there = there
or_stays (some x) there = x

-- ---- the truths

-- a block that the checker takes, and a table of exactly its areas
pub record Runs (net : Network) (earlier : ℕ) (b : Block) (t : Table) : Type 0 where
  pub good : GoodBlock net.sizes earlier b
  pub exact : length t ≡ total net.sizes

-- a position that is none of a block's coils
pub record NoCoil (b : Block) (p : ℕ) : Type 0 where
  pub no_top : (b.coils.top ≡ 0) ⊎ (p ≡ b.coils.top → ⊥)
  pub no_middle : (b.coils.middle ≡ 0) ⊎ (p ≡ b.coils.middle → ⊥)
  pub no_bottom : (b.coils.bottom ≡ 0) ⊎ (p ≡ b.coils.bottom → ⊥)

-- the table stays as long as it was
abbrev pub SameLong : Type 0
SameLong =
    (net : Network) (earlier : ℕ) (b : Block) (t : Table) → Runs net earlier b t → (on : Power) → length (block_table net b t on) ≡ length t

-- every bit of the table afterwards
abbrev pub EveryBit : Type 0
EveryBit =
    (net : Network) (earlier : ℕ) (b : Block) (t : Table) → Runs net earlier b t → (on : Power) (p : ℕ) →
    bit (block_table net b t on) p ≡ or_stays (bit_written net b on (effect_on net b t on) p) (bit t p)

-- the frame: a block changes no bit but those that it writes
abbrev pub Frame : Type 0
Frame =
    (net : Network) (earlier : ℕ) (b : Block) (t : Table) → Runs net earlier b t → (on : Power) (p : ℕ) →
    bit_written net b on (effect_on net b t on) p ≡ none → bit (block_table net b t on) p ≡ bit t p

-- a position that is no bit of an MBIT's pointer, where that is held, and none of its coils
pub record Beside (net : Network) (b : Block) (p : ℕ) : Type 0 where
  pub no_pointer : b.top.class ≡ 4 → (p ≤ 16 * first_word net b.top) ⊎ (16 * (first_word net b.top + 1) < p)
  pub no_coil : NoCoil b p

-- MBIT: with power and a pointer from 1 to 16n the bit at the pointer becomes 1 with power on middle, else 0, and no other bit is touched;
-- without power, at 0 and over 16n no bit is
abbrev pub ModifiesOneBit : Type 0
ModifiesOneBit =
    (net : Network) (earlier : ℕ) (b : Block) (t : Table) → Runs net earlier b t → b.kind ≡ 6 → (on : Power) (p : ℕ) → Beside net b p →
    let at = pointer_in net b.top t in
    bit (block_table net b t on) p
    ≡ cond (on.top && (leb 1 at && leb at (16 * b.n))) (cond (eqb p (16 * first_word net b.middle + at)) on.middle (bit t p)) (bit t p)

-- MBIT's middle output: with power on top it equals the middle input, whatever the pointer; without power it is off
abbrev pub MiddleFollows : Type 0
MiddleFollows =
    (net : Network) (b : Block) (t : Table) → b.kind ≡ 6 → (on : Power) → (block_outputs net b t on).middle ≡ (on.top && on.middle)

-- and the lamp on its middle output, a coil that the bottom output has not too, shows the same
abbrev pub LampFollows : Type 0
LampFollows =
    (net : Network) (earlier : ℕ) (b : Block) (t : Table) → Runs net earlier b t → b.kind ≡ 6 → (on : Power) →
    let lamp = b.coils.middle in (lamp ≡ 0 → ⊥) → (lamp ≡ b.coils.bottom → ⊥) → bit (block_table net b t on) lamp ≡ (on.top && on.middle)

-- what a reset alone makes of a pointer: CMPR's becomes 0 with power on middle, SENS's, if it is held, 1 with power on bottom
abbrev pub reset_alone : Kind → Bool → Power → Option ℕ
reset_alone AND held on = none
reset_alone OR held on = none
reset_alone XOR held on = none
reset_alone COMP held on = none
reset_alone CMPR held on = cond on.middle (some 0) none
reset_alone MBIT held on = none
reset_alone SENS held on = cond (held && on.bottom) (some 1) none
reset_alone BROT held on = none

-- with no power on top the other outputs are off and nothing is done but a reset
abbrev pub WithoutPower : Type 0
WithoutPower =
    (net : Network) (earlier : ℕ) (b : Block) (t : Table) → Runs net earlier b t → (on : Power) → on.top ≡ false →
    effect_on net b t on ≡ idle (reset_alone (kind_of b.kind) (eqb (pointer_node (kind_of b.kind) b).class 4) on)

-- only a pointer in class 4 is ever reset or increased: no other is written
abbrev pub OnlyHeld : Type 0
OnlyHeld =
    (net : Network) (earlier : ℕ) (b : Block) (t : Table) → Runs net earlier b t → (on : Power) (x : ℕ) →
    (effect_on net b t on).pointer ≡ some x → (pointer_node (kind_of b.kind) b).class ≡ 4

-- discrete inputs and input registers never change: they stand after the coils and before the holding registers
abbrev pub InputsStay : Type 0
InputsStay =
    (net : Network) (earlier : ℕ) (b : Block) (t : Table) → Runs net earlier b t → (on : Power) (p : ℕ) →
    16 * net.sizes.coils < p → p ≤ 16 * (net.sizes.coils + net.sizes.discretes + net.sizes.inputs) → bit (block_table net b t on) p ≡ bit t p

-- ---- the key rule

-- the index of the first word of a block's source: SENS's source is its middle matrix; MBIT has none
abbrev pub source_at : Kind → Network → Block → Option ℕ
source_at AND net b = some (first_word net b.top)
source_at OR net b = some (first_word net b.top)
source_at XOR net b = some (first_word net b.top)
source_at COMP net b = some (first_word net b.top)
source_at CMPR net b = some (first_word net b.top)
source_at MBIT net b = none
source_at SENS net b = some (first_word net b.middle)
source_at BROT net b = some (first_word net b.top)

-- of its destination matrix where the kind is AND, OR, XOR, CMPR or MBIT; CMPR's stands after its pointer
abbrev pub destination_at : Kind → Network → Block → Option ℕ
destination_at AND net b = some (first_word net b.middle)
destination_at OR net b = some (first_word net b.middle)
destination_at XOR net b = some (first_word net b.middle)
destination_at COMP net b = none
destination_at CMPR net b = some (first_word net b.middle + 1)
destination_at MBIT net b = some (first_word net b.middle)
destination_at SENS net b = none
destination_at BROT net b = none

-- its pointer, where its kind has one
abbrev pub pointer_seen : Kind → Network → Block → Table → Option ℕ
pointer_seen AND net b t = none
pointer_seen OR net b t = none
pointer_seen XOR net b t = none
pointer_seen COMP net b t = none
pointer_seen CMPR net b t = some (pointer_in net b.middle t)
pointer_seen MBIT net b t = some (pointer_in net b.top t)
pointer_seen SENS net b t = some (pointer_in net b.top t)
pointer_seen BROT net b t = none

-- two tables have the same bits in the n words from an index on, where there is one
abbrev pub SameFrom : Option ℕ → ℕ → Table → Table → Type 0
SameFrom none n t u = Unit {0}
SameFrom (some s) n t u = (p : ℕ) → 16 * s < p → p ≤ 16 * (s + n) → bit t p ≡ bit u p

-- two tables agree on a block's source, on its destination matrix and on its pointer
pub record Agree (net : Network) (b : Block) (t u : Table) : Type 0 where
  pub on_source : SameFrom (source_at (kind_of b.kind) net b) b.n t u
  pub on_destination : SameFrom (destination_at (kind_of b.kind) net b) b.n t u
  pub on_pointer : pointer_seen (kind_of b.kind) net b t ≡ pointer_seen (kind_of b.kind) net b u

-- two tables that agree on a block's source, on its destination matrix where the kind is AND, OR, XOR, CMPR or MBIT, and on its
-- pointer, with equal three inputs, give equal outputs, the count among them, and equal values in every bit that the block writes
abbrev pub KeyRule : Type 0
KeyRule =
    (net : Network) (earlier : ℕ) (b : Block) (t u : Table) → Runs net earlier b t → Runs net earlier b u → Agree net b t u → (on : Power) →
    (block_outputs net b t on ≡ block_outputs net b u on)
    × ((p : ℕ) (x : Bool) → bit_written net b on (effect_on net b t on) p ≡ some x →
    (bit (block_table net b t on) p ≡ x) × (bit (block_table net b u on) p ≡ x))

-- ---- the compare

-- a compare with power reports none exactly when no position differs above the pointer, taken in range
abbrev pub NoneMeansNone : Type 0
NoneMeansNone =
    (n : ℕ) (v : View) (on : Power) → on.top ≡ true →
    ((compare n v on).middle ≡ false) ↔ NoneLater v.source v.destination n (starts_at n v on)

-- ---- the count

-- a search that found nothing
abbrev pub in_vain : Option ℕ → Bool
in_vain none = true
in_vain (some p) = false

-- a pair of bits is examined: its position is above the start, and at none between the two do the matrices differ
abbrev pub looked_at : View → ℕ → ℕ → Bool
looked_at v from p = ltb from p && in_vain (first (differing v.source v.destination) from (p - 1 - from))

-- at how many of the positions 1 to k a predicate is on
unfoldable pub how_many : (ℕ → Bool) → ℕ → ℕ
how_many f zero = 0
how_many f (suc k) = how_many f k + cond (f (suc k)) 1 0

-- what a compare counts is the pairs that it examines; without power it is 0
abbrev pub CountsPairs : Type 0
CountsPairs =
    (n : ℕ) (v : View) (on : Power) → (compare n v on).count ≡ cond on.top (how_many (looked_at v (starts_at n v on)) (16 * n)) 0

-- at most 16n
abbrev pub CountAtMost : Type 0
CountAtMost = (net : Network) (b : Block) (t : Table) (on : Power) → (block_outputs net b t on).count ≤ 16 * b.n

-- and 0 for the other kinds
abbrev pub OnlyComparesCount : Type 0
OnlyComparesCount = (net : Network) (b : Block) (t : Table) → (b.kind ≡ 5 → ⊥) → (on : Power) → (block_outputs net b t on).count ≡ 0

-- so that of a block that the checker takes it has room in a packed number
abbrev pub CountFits : Type 0
CountFits =
    (net : Network) (earlier : ℕ) (b : Block) (t : Table) → GoodBlock net.sizes earlier b → (on : Power) → (block_outputs net b t on).count < 8192
