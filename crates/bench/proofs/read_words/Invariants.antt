use Rattle.std.proofs.Common.{◌≡◌, ℕ, List, ◌-◌, ◌*◌, ◌≤◌, ◌%◌, length}
use Rattle.std.specs.Io.KnownBytes.{Consumes}
use Rattle.bench.proofs.Reading.{Converting}
use Rattle.bench.proofs.read_words.Given as goal

abbrev pub invariant-loop-count : goal.invariant-loop-count
invariant-loop-count g l = (length l.bytes ≡ 2048) × (length l.words ≡ 13312) × (l.count ≤ 13312) × (l.count % 1024 ≡ 0)
    × ((taken : List ℕ) × Consumes (g.R.Read.remaining l.initial.input) (g.R.Read.remaining l.input) taken × (length taken ≡ 2 * l.count) × Converting taken l.initial.words l.count l.words)

abbrev pub decreases-loop-count : goal.decreases-loop-count
decreases-loop-count g l = 13312 - l.count
