-- `plan::put_plan` meets its contract. The loop keeps that the reader gave k blocks and that their steps are put. Assumes nothing.
use mathlib.Core.Path.{◌≡◌}
use Rattle.plan.proofs.Filling.{SoFar}
use Rattle.plan.proofs.put_plan.Given as goal

abbrev pub invariant-loop-k : goal.invariant-loop-k
invariant-loop-k l = (l.sizes ≡ l.opened.sizes) × SoFar l.words l.opened l.initial.plan l.count l.k l.plan
