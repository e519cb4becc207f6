-- `network::checker::records` meets its contract: the records from here on decide.
use Rattle.std.proofs.Common.{◌≡◌, ◌-◌}
use Rattle.network.specs.Steps.{records_tested}
use Rattle.network.proofs.checker.records.Given as goal

abbrev pub invariant-loop-j : goal.invariant-loop-j
invariant-loop-j l = records_tested l.sizes l.words l.from l.j (l.count - l.j) ≡ records_tested l.sizes l.words l.from 0 l.count
