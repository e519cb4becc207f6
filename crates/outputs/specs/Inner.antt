-- What the contracts of the crate's own functions cite.
use Rattle.std.specs.Prelude.{ℕ, ◌≡◌, List, map, length, take}
use Rattle.verdict.specs.Lists.{Words, Table}
use Rattle.network.specs.Network.{block_count}
use Rattle.network.specs.Check.{network_in}
use Rattle.blocks.specs.Packed.{packed}
use Rattle.scan.specs.Scan.{scanned, scan_verdict}

-- where a scan for a list of so many entries is not refused, the outputs of its blocks are packed at the front of a list
abbrev pub Spelled : Words → Table → ℕ → List ℕ → Type 0
Spelled ws t room numbers =
    (scan_verdict ws (length t) room).number ≡ 0 → take (block_count (network_in ws)) numbers ≡ map packed (scanned (network_in ws) t).outs
