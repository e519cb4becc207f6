-- `run::visits::put_blocks` meets its contract. The loop keeps what holds when block k + 1 is next.
use Rattle.run.proofs.Turns.{ScanGoing}
use Rattle.run.proofs.visits.put_blocks.Given as goal

abbrev pub invariant-loop-k : goal.invariant-loop-k
invariant-loop-k l =
    ScanGoing l.initial.state l.course l.fn.turn l.label l.end l.initial.text l.at l.state l.text l.next l.k
