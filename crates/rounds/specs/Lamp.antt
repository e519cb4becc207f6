-- MBIT's middle lamp (document 02, ticket 2): of a scan, of the calls, and of what the bench prints. With power on top the middle output of an
-- MBIT equals its middle input, for pointer 0 and over 16n too; without power it is off. Assumes nothing.
use Rattle.std.specs.Prelude.{ℕ, ◌+◌, ◌<◌, ◌≡◌, Bool, true, false, ◌&&◌, List, map, length, get_or}
use Rattle.std.proofs.Math.Option.{Option, none, some}
use Rattle.verdict.specs.Lists.{Words, Table, Bytes}
use Rattle.verdict.specs.Verdict.{Verdict}
use Rattle.network.specs.Network.{Network, block_of, block_count}
use Rattle.network.specs.Check.{network_in}
use Rattle.blocks.specs.declared.Outputs.{Outputs}
use Rattle.blocks.specs.Answer.{no_outputs}
use Rattle.blocks.specs.Packed.{unpacked}
use Rattle.words.specs.Words.{words_in, odd_byte}
use Rattle.file.specs.File.{file_in, file_checked}
use Rattle.scan.specs.Scan.{scanned}
use Rattle.scan.specs.Scans.{scans_table}
use Rattle.run.specs.Bench.{bench_text}
use Rattle.rounds.specs.Demand3.{power_at}
use Rattle.rounds.specs.Calls.{RecordCalls, PackedCalls}
use Rattle.rounds.specs.Bench.{report_in, text_says}

-- block i + 1 of a network is an MBIT
pub record Modifies (net : Network) (i : ℕ) : Type 0 where
  pub there : i < block_count net
  pub modifies : (block_of net i).kind ≡ 6

-- it lights its lamp in a scan of a table: its top and its middle input have power when its turn comes, whatever its pointer
abbrev pub lights : Network → ℕ → Table → Bool
lights net i t = (power_at net i t).top && (power_at net i t).middle

-- ---- a scan: the middle output among the scan's own
abbrev pub LampScanned : Type 0
LampScanned = (net : Network) (i : ℕ) → Modifies net i → (t : Table) → (get_or (scanned net t).outs i no_outputs).middle ≡ lights net i t

-- ---- m calls of `scan`: the block's entry in the list of records
abbrev pub LampRecords : Type 0
LampRecords =
    (ws : Words) (i m : ℕ) (lent left : ℕ → Table) (lists records : ℕ → List Outputs) (answers : ℕ → Verdict) →
    RecordCalls ws m lent left lists records answers → let net = network_in ws in
    Modifies net i → (j : ℕ) → j < m → (get_or (records j) i no_outputs).middle ≡ lights net i (lent j)

-- of `scan_packed`, whose list has numbers
abbrev pub LampPacked : Type 0
LampPacked =
    (ws : Words) (i m : ℕ) (lent left : ℕ → Table) (lists numbers : ℕ → List ℕ) (answers : ℕ → Verdict) →
    PackedCalls ws m lent left lists numbers answers → let net = network_in ws in
    Modifies net i → (j : ℕ) → j < m → (get_or (map unpacked (numbers j)) i no_outputs).middle ≡ lights net i (lent j)

-- ---- what the bench prints

-- what a line says of its block has the middle output on, or off
abbrev pub lit : Option ℕ → Bool
lit none = false
lit (some pointer) = true

-- of an accepted file whose block i + 1 is an MBIT the text says one thing of that block for each scan, and it is lit where the block lights its lamp
pub record ShowsLamp (bytes : Bytes) (i : ℕ) : Type 0 where
  pub for_each : length (text_says report_in (i + 1) (bench_text bytes)) ≡ (file_in (words_in bytes)).run
  pub lit_where_it_lights : (j : ℕ) → let f = file_in (words_in bytes) in j < f.run →
      lit (get_or (text_says report_in (i + 1) (bench_text bytes)) j none) ≡ lights f.network i (scans_table f.network f.image j)

abbrev pub LampPrinted : Type 0
LampPrinted =
    (bytes : Bytes) → (file_checked (words_in bytes) (odd_byte bytes)).number ≡ 0 →
    (i : ℕ) → Modifies (file_in (words_in bytes)).network i → ShowsLamp bytes i
