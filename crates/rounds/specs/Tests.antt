-- Two tests of a network that give demand 3's premise about changes, where each scan starts from the table that the one before left.
-- They are one way to meet it, which a tool can ask. Assumes nothing.
use Rattle.std.specs.Prelude.{ℕ, zero, suc, ◌+◌, ◌-◌, ◌/◌, ◌<◌, ◌≡◌, Bool, true, false, not, cond, ◌&&◌, ◌||◌, eqb, leb, length}
use Rattle.verdict.specs.Lists.{Table}
use Rattle.record.specs.declared.{Coils.Coils, Block.Block}
use Rattle.table.specs.Table.{total}
use Rattle.network.specs.Network.{Network, block_of, block_count}
use Rattle.network.specs.Sound.{GoodNetwork}
use Rattle.blocks.specs.Kind.{kind_of, has_pointer}
use Rattle.blocks.specs.View.{first_word}
use Rattle.blocks.specs.Work.{pointer_node}
use Rattle.scan.specs.Scan.{scanned}
use Rattle.rounds.specs.Demand3.{power_at, register_index, register_in, done_by, Steady, Scanning}

-- n words from s on and k words from d on lie apart
abbrev pub apart : ℕ → ℕ → ℕ → ℕ → Bool
apart s n d k = leb (s + n) d || leb (d + k) s

-- k words from d on lie outside the block's source, and outside its pointer and its matrix after it
abbrev pub outside : Network → ℕ → ℕ → ℕ → Bool
outside net i d k =
    apart (first_word net (block_of net i).top) (block_of net i).n d k && apart (register_index net i) ((block_of net i).n + 1) d k

-- a coil, if it is named, lies outside them
abbrev pub coil_outside : Network → ℕ → ℕ → Bool
coil_outside net i number = eqb number 0 || outside net i ((number - 1) / 16) 1

abbrev pub coils_outside : Network → ℕ → Coils → Bool
coils_outside net i coils = coil_outside net i coils.top && (coil_outside net i coils.middle && coil_outside net i coils.bottom)

-- all kinds but CMPR and SENS write their middle node's n words; those that have a pointer write it where it is held
abbrev pub writes_matrix : Block → Bool
writes_matrix b = not (eqb b.kind 5 || eqb b.kind 7)

abbrev pub writes_pointer : Block → Bool
writes_pointer b = has_pointer b.kind && eqb (pointer_node (kind_of b.kind) b).class 4

-- another block's destination, pointer and coils lie outside them
abbrev pub block_outside : Network → ℕ → Block → Bool
block_outside net i b =
    (not (writes_matrix b) || outside net i (first_word net b.middle) b.n)
    && ((not (writes_pointer b) || outside net i (first_word net (pointer_node (kind_of b.kind) b)) 1)
    && coils_outside net i b.coils)

-- every other block, and the block's own coils
unfoldable pub all_outside : Network → ℕ → ℕ → Bool
unfolding kind_of
all_outside net i zero = true
all_outside net i (suc k) =
    cond (eqb k i) (coils_outside net i (block_of net i).coils) (block_outside net i (block_of net k)) && all_outside net i k

abbrev pub left_alone : Network → ℕ → Bool
left_alone net i = all_outside net i (block_count net)

-- the source leaves out the pointer, as a test
abbrev pub leaves_out : Network → ℕ → Bool
leaves_out net i = apart (first_word net (block_of net i).top) (block_of net i).n (register_index net i) 1

-- m scans of one table, each of what the one before left, where the two tests pass and every scan finds power and no reset
pub record Chain (net : Network) (i m : ℕ) (given : ℕ → Table) : Type 0 where
  pub accepted : GoodNetwork net
  pub there : i < block_count net
  pub compares : (block_of net i).kind ≡ 5
  pub first_size : length (given 0) ≡ total net.sizes
  pub goes_on : (j : ℕ) → suc j < m → given (suc j) ≡ (scanned net (given j)).table
  pub powered : (j : ℕ) → j < m → (power_at net i (given j)).top ≡ true
  pub not_reset : (j : ℕ) → j < m → (power_at net i (given j)).middle ≡ false
  pub source_leaves_out : leaves_out net i ≡ true
  pub others_outside : left_alone net i ≡ true

-- they meet the premises
abbrev pub ChainIsSteady : Type 0
ChainIsSteady = (net : Network) (i m : ℕ) (given : ℕ → Table) → Chain net i m given → Scanning net m given × Steady net i m given

-- and the pointer at a scan's end is the one that the block left
abbrev pub ChainKeepsPointer : Type 0
ChainKeepsPointer =
    (net : Network) (i m : ℕ) (given : ℕ → Table) → Chain net i m given → (j : ℕ) → j < m →
    register_in net i (scanned net (given j)).table ≡ register_in net i (done_by net i (given j))
