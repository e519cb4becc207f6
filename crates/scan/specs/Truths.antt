-- What is true of a scan.
use Rattle.std.specs.Prelude.{ℕ, ◌+◌, ◌*◌, ◌≤◌, ◌<◌, ◌≡◌, List, length}
use Rattle.verdict.specs.Lists.{Words, Table}
use Rattle.bits.specs.Bit.{bit}
use Rattle.network.specs.Check.{network_in}
use Rattle.blocks.specs.declared.Outputs.{Outputs}
use Rattle.scan.specs.Scan.{scan_verdict, scan_table, scan_packed}
use Rattle.blocks.specs.Packed.{packed, unpacked}

-- a refusal changes neither the table nor the outputs
abbrev pub RefusalKeeps : Type 0
RefusalKeeps =
    (ws : Words) (t : Table) (numbers : List ℕ) → ((scan_verdict ws (length t) (length numbers)).number ≡ 0 → ⊥) →
    (scan_table ws t (length numbers) ≡ t) × (scan_packed ws t numbers ≡ numbers)

-- the table stays as long as it was
abbrev pub ScanSameLong : Type 0
ScanSameLong = (ws : Words) (t : Table) (room : ℕ) → length (scan_table ws t room) ≡ length t

-- discrete inputs and input registers never change: they stand after the coils and before the holding registers
abbrev pub ScanKeepsInputs : Type 0
ScanKeepsInputs =
    (ws : Words) (t : Table) (room p : ℕ) →
    let z = (network_in ws).sizes in 16 * z.coils < p → p ≤ 16 * (z.coils + z.discretes + z.inputs) →
    bit (scan_table ws t room) p ≡ bit t p

-- outputs whose count has room are the same after they are packed and unpacked; every block's count has
abbrev pub UnpackPack : Type 0
UnpackPack = (o : Outputs) → o.count < 8192 → unpacked (packed o) ≡ o
