-- `run::visits::put_visits` meets its contract. The loop keeps what holds after some visits.
use Prim.Native.Nat.{◌-◌}
use Rattle.file.specs.File.{file_in}
use Rattle.run.proofs.Going.{Going}
use Rattle.run.proofs.visits.put_visits.Given as goal

abbrev pub invariant-loop-visit : goal.invariant-loop-visit
invariant-loop-visit l =
    Going (file_in l.words).network l.count l.course l.initial.state l.from l.all l.initial.text l.at l.state l.text l.visit l.next

abbrev pub decreases-loop-visit : goal.decreases-loop-visit
decreases-loop-visit l = l.all - l.visit
