-- Demand 3 for the calls: what a caller reads after m successive calls of a scan. A call is known by its contract alone, and between two
-- calls the caller may do anything that the premises allow. Assumes nothing.
use Rattle.std.specs.Prelude.{ℕ, ◌+◌, ◌≤◌, ◌<◌, ◌≡◌, cond, List, map, length, get_or}
use Rattle.std.proofs.Math.Option.{Option, none, some}
use Rattle.verdict.specs.Lists.{Words, Table}
use Rattle.verdict.specs.Verdict.{Verdict}
use Rattle.verdict.specs.Promise.{LeavesTwo}
use Rattle.network.specs.Network.{Network}
use Rattle.network.specs.Check.{network_in}
use Rattle.blocks.specs.declared.Outputs.{Outputs}
use Rattle.blocks.specs.Answer.{no_outputs}
use Rattle.blocks.specs.Packed.{unpacked}
use Rattle.scan.specs.Scan.{scan_verdict, scan_table, scan_packed}
use Rattle.outputs.specs.Records.{Recorded}
use Rattle.rounds.specs.Demand3.{register_in, done_by, Steady, in_turn, round_at, RoundAt}

-- what the caller reads after a call: where the block's middle output is on, its pointer in the table
abbrev pub reading : Network → ℕ → Table → List Outputs → Option ℕ
reading net i table outs = cond (get_or outs i no_outputs).middle (some (register_in net i table)) none

-- the caller finds the pointer as the block left it: also until the call returns, nothing else changes it
abbrev pub PointerKept : Network → ℕ → ℕ → (ℕ → Table) → (ℕ → Table) → Type 0
PointerKept net i m lent left = (j : ℕ) → j < m → register_in net i (left j) ≡ register_in net i (done_by net i (lent j))

-- ---- m calls of `scan`: call j is lent a table and a list of records, keeps its contract and is not refused
pub record RecordCalls (ws : Words) (m : ℕ) (lent left : ℕ → Table) (lists records : ℕ → List Outputs) (answers : ℕ → Verdict) : Type 0 where
  pub kept : (j : ℕ) → j < m → Recorded ws (lent j) (lists j) (answers j) (left j) (records j)
  pub done : (j : ℕ) → j < m → (answers j).number ≡ 0

abbrev pub Demand3Records : Type 0
Demand3Records =
    (ws : Words) (i m : ℕ) (lent left : ℕ → Table) (lists records : ℕ → List Outputs) (answers : ℕ → Verdict) →
    RecordCalls ws m lent left lists records answers → let net = network_in ws in
    Steady net i m lent → PointerKept net i m lent left → (j : ℕ) → j + round_at net i lent j ≤ m →
    RoundAt net i lent j (in_turn (λ s. reading net i (left s) (records s)) j (round_at net i lent j))

-- ---- and of `scan_packed`, whose list has numbers
pub record PackedCalls (ws : Words) (m : ℕ) (lent left : ℕ → Table) (lists numbers : ℕ → List ℕ) (answers : ℕ → Verdict) : Type 0 where
  pub kept : (j : ℕ) → j < m →
      LeavesTwo (scan_verdict ws (length (lent j)) (length (lists j))) (scan_table ws (lent j) (length (lists j))) (scan_packed ws (lent j) (lists j))
      (answers j) (left j) (numbers j)
  pub done : (j : ℕ) → j < m → (answers j).number ≡ 0

abbrev pub Demand3Packed : Type 0
Demand3Packed =
    (ws : Words) (i m : ℕ) (lent left : ℕ → Table) (lists numbers : ℕ → List ℕ) (answers : ℕ → Verdict) →
    PackedCalls ws m lent left lists numbers answers → let net = network_in ws in
    Steady net i m lent → PointerKept net i m lent left → (j : ℕ) → j + round_at net i lent j ≤ m →
    RoundAt net i lent j (in_turn (λ s. reading net i (left s) (map unpacked (numbers s))) j (round_at net i lent j))
