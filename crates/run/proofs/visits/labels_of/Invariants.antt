-- `run::visits::labels_of` meets its contract. The loop keeps that the blocks passed have their labels.
use mathlib.Core.Path.{◌≡◌}
use Prim.Native.Nat.{ℕ, ◌+◌, ◌<◌}
use lib.ListN.{length, get_or}
use Rattle.text.specs.Text.{label_of}
use Rattle.run.proofs.visits.labels_of.Given as goal

abbrev pub invariant-loop-k : goal.invariant-loop-k
invariant-loop-k l = (length l.labels ≡ 128) × ((i : ℕ) → i < l.k → get_or l.labels i 0 ≡ label_of (i + 1))
