-- A scan whose outputs come back in a lent list of records: what the call answers and leaves, and what is true of it.
use Rattle.std.specs.Prelude.{ℕ, ◌-◌, ◌≤◌, ◌<◌, ◌≡◌, List, length, get_or, drop}
use Rattle.verdict.specs.Lists.{Words, Table}
use Rattle.network.specs.Network.{block_count}
use Rattle.verdict.specs.Verdict.{Verdict, verdict}
use Rattle.network.specs.Check.{checked, network_in}
use Rattle.blocks.specs.declared.Outputs.{Outputs}
use Rattle.inputs.specs.Input.{of_block}
use Rattle.scan.specs.Scan.{scanned, scan_verdict, scan_table, scan_records}

-- the answer, the table and the list of records that a scan leaves
pub record Recorded (ws : Words) (t : Table) (list : List Outputs) (answer : Verdict) (table : Table) (records : List Outputs) : Type 0 where
  pub answers : answer ≡ scan_verdict ws (length t) (length list)
  pub leaves_table : table ≡ scan_table ws t (length list)
  pub leaves_records : records ≡ scan_records ws t list

-- ---- what is true of it

-- entry k - 1 holds the outputs of block k in this scan
abbrev pub RecordOfBlock : Type 0
RecordOfBlock =
    (ws : Words) (t : Table) (list : List Outputs) (k : ℕ) (d : Outputs) → (scan_verdict ws (length t) (length list)).number ≡ 0 →
    1 ≤ k → k ≤ block_count (network_in ws) → get_or (scan_records ws t list) (k - 1) d ≡ of_block (scanned (network_in ws) t).outs k

-- entries after the count stay
abbrev pub EntriesStay : Type 0
EntriesStay =
    (ws : Words) (t : Table) (list : List Outputs) → drop (block_count (network_in ws)) (scan_records ws t list) ≡ drop (block_count (network_in ws)) list

-- a refusal changes neither the table nor the list
abbrev pub RefusalKeepsRecords : Type 0
RefusalKeepsRecords =
    (ws : Words) (t : Table) (list : List Outputs) → ((scan_verdict ws (length t) (length list)).number ≡ 0 → ⊥) →
    (scan_table ws t (length list) ≡ t) × (scan_records ws t list ≡ list)

-- of a network that is accepted, a list shorter than the count is refused
abbrev pub ShortListRefused : Type 0
ShortListRefused =
    (ws : Words) (t : Table) (list : List Outputs) → (checked ws).number ≡ 0 → length list < block_count (network_in ws) →
    scan_verdict ws (length t) (length list) ≡ verdict 12 0
