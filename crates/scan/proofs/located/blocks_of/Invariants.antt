-- `scan::located::blocks_of` meets its contract. The loop keeps that the first k entries are the records of the first k blocks.
use Rattle.std.proofs.Common.{◌≡◌, length}
use Rattle.network.specs.Check.{network_in}
use Rattle.scan.proofs.Locating.{Filled}
use Rattle.scan.proofs.located.blocks_of.Given as goal

abbrev pub invariant-loop-k : goal.invariant-loop-k
invariant-loop-k l = record { entries : length l.blocks ≡ 128; filled : Filled (network_in l.words) l.k l.blocks }
