-- What the contracts of the crate's own functions cite, beside the definitions that a caller reads: what a block of a checked network and
-- a scan of it may rely on, and what they leave.
use Rattle.std.specs.Prelude.{ℕ, ◌≤◌, ◌<◌, ◌≡◌, cond, ◌&&◌, eqb, leb, List, ◌++◌, map, length, get_or, take, drop, set, Result, Ok, Err}
use Rattle.verdict.specs.Lists.{Words, Table}
use Rattle.verdict.specs.declared.Fault.TheVariants.{Call}
use Rattle.verdict.specs.declared.Refusal.{Refusal}
use Rattle.verdict.specs.Verdict.{refusal}
use Rattle.record.specs.declared.{Block.Block}
use Rattle.network.specs.declared.{checker.Opened.Opened}
use Rattle.blocks.specs.declared.{Power.Power, Located.Located}
use Rattle.table.specs.Table.{total}
use Rattle.network.specs.Network.{Network, block_of, block_count}
use Rattle.network.specs.Check.{opened_value, checked, network_in}
use Rattle.blocks.specs.View.{located}
use Rattle.blocks.specs.Work.{block_outputs, block_table}
use Rattle.blocks.specs.Packed.{packed, unpacked}
use Rattle.blocks.specs.Truths.{Runs}
use Rattle.inputs.specs.Input.{power_on}
use Rattle.scan.specs.Scan.{scanned}

-- ---- blocks

-- a block of a checked network, located, and a table of exactly its areas
pub record Ready (net : Network) (one : Located) (t : Table) : Type 0 where
  pub earlier : ℕ
  pub runs : Runs net earlier one.block t
  pub lies : one ≡ located net one.block

-- ---- the scan

-- block k + 1 of a checked network, its table, and a list with an entry for it after those of the k earlier blocks
pub record Next (net : Network) (one : Located) (t : Table) (outputs : List ℕ) (k : ℕ) : Type 0 where
  pub runs : Runs net k one.block t
  pub lies : one ≡ located net one.block
  pub entry : k < length outputs

-- the power on a block's inputs, where the outputs of the k earlier blocks are packed
abbrev pub power_of : Network → Block → Table → List ℕ → ℕ → Power
power_of net b t outputs k = power_on net t (map unpacked (take k outputs)) b.inputs

-- the table that the block leaves, and its outputs in their entry
pub record Ran (net : Network) (one : Located) (k : ℕ) (t outputs table outputs_left : List ℕ) : Type 0 where
  pub table_after : table ≡ block_table net one.block t (power_of net one.block t outputs k)
  pub entry_after : outputs_left ≡ set outputs k (packed (block_outputs net one.block t (power_of net one.block t outputs k)))

-- an opening of these words, which are accepted
pub record Legible (ws : Words) (o : Opened) : Type 0 where
  pub opens : o ≡ opened_value ws
  pub accepted : (checked ws).number ≡ 0

-- block k + 1 of a network, with the first words of its nodes
abbrev pub located_at : Network → ℕ → Located
located_at net k = located net (block_of net k)

-- a list that has every block of a network in its entry
abbrev pub Locates : Network → List Located → Type 0
Locates net blocks = (k : ℕ) → k < block_count net → (otherwise : Located) → get_or blocks k otherwise ≡ located_at net k

-- the test of an opening by a table of so many words and a list of so many entries
abbrev pub fit_test : Opened → ℕ → ℕ → Result Unit Refusal
fit_test o size room = cond (eqb size (total o.sizes) && leb o.count room) (Ok tt) (Err (refusal Call 0))

-- an opening of these words, and a table and a list with which a scan is not refused
pub record AllReady (ws : Words) (o : Opened) (t : Table) (outputs : List ℕ) : Type 0 where
  pub opens : o ≡ opened_value ws
  pub accepted : (checked ws).number ≡ 0
  pub exact : length t ≡ total (network_in ws).sizes
  pub room : block_count (network_in ws) ≤ length outputs

-- the table after it, and the list with its outputs in front
pub record AllRan (net : Network) (t outputs table outputs_left : List ℕ) : Type 0 where
  pub table_after : table ≡ (scanned net t).table
  pub outputs_after : outputs_left ≡ map packed (scanned net t).outs ++ drop (block_count net) outputs
