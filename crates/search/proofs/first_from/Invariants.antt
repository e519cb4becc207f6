-- `search::first_from` meets its contract: both loops keep that the first position that differs from here on is the first from the start on.
use mathlib.Core.Path.{◌≡◌}
use Prim.Native.Nat.{◌-◌}
use Rattle.std.specs.Prelude.{None}
use Rattle.search.proofs.Finding.{Outside, Inside}
use Rattle.search.proofs.first_from.Given as goal

abbrev pub invariant-loop-j : goal.invariant-loop-j
invariant-loop-j l = (l.found ≡ None) × Inside l.table l.a l.b l.n l.x l.y l.above l.k l.apart l.j

abbrev pub invariant-words : goal.invariant-words
invariant-words l = (l.found ≡ None) × Outside l.table l.a l.b l.n l.x l.y l.above l.passed

abbrev pub decreases-words : goal.decreases-words
decreases-words l = l.end - l.passed
