-- The laws of `read_at`. Assumes nothing.
use mathlib.Core.Path.{◌≡◌, ap, ap₂}
use mathlib.Core.Bool.{Bool, cond, ◌&&◌}
use mathlib.Core.List.{List}
use Prim.Native.Nat.{ℕ, ◌-◌, ◌≤◌}
use borrow.Author.Tests.{le-leb}
use lib.ListN.{length, drop}
use Rattle.verdict.specs.Verdict.{verdict, done, said_by}
use Rattle.section.proofs.Limits.{in_count}
use Rattle.record.specs.Record.{block_in}
use Rattle.network.specs.declared.checker.Opened.{Opened}
use Rattle.network.specs.Check.{read_verdict, record_start, read_at}

pub read_record : (ws : List ℕ) (o : Opened) (k : ℕ) → 1 ≤ k → k ≤ o.count → o.next ≤ length ws
    → read_at ws o k ≡ said_by done (block_in (drop (record_start ws (k - 1)) ws))
unfolding read_at read_verdict
read_record ws o k l u t =
    ap (λ (b : Bool). said_by (cond b done (verdict 12 0)) (block_in (drop (record_start ws (k - 1)) ws)))
    (ap₂ ◌&&◌ (in_count o.count k l u) (le-leb o.next (length ws) t))
