-- `scan::run_all` meets its contract. The loop keeps that the table and the list are those after k blocks.
use Rattle.network.specs.Check.{network_in}
use Rattle.scan.proofs.Walking.{SoFar}
use Rattle.scan.proofs.run_all.Given as goal

abbrev pub invariant-loop-k : goal.invariant-loop-k
invariant-loop-k l = SoFar (network_in l.words) l.initial.table l.initial.outputs l.k l.table l.outputs
