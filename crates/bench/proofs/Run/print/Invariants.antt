use Rattle.std.proofs.Common.{◌≡◌, ◌+◌, ◌-◌, List, ℕ, length}
use Rattle.std.specs.Io.KnownBytes.{Appends}
use Rattle.bench.proofs.Printing.{Going}
use Rattle.bench.proofs.Run.print.Given as goal

abbrev pub invariant-loop-next : goal.invariant-loop-next
invariant-loop-next g l = (l.self.words.now ≡ l.initial.self.words.now) × (length l.text ≡ length l.initial.text) × ((done : List ℕ)
    × Appends (g.W.Write.contents l.initial.output) (g.W.Write.contents l.output) done × Going l.self.words.now l.initial.self.state.now l.self.state.now l.next done)

abbrev pub decreases-loop-next : goal.decreases-loop-next
decreases-loop-next g l = (l.self.visits + 1) - l.next
