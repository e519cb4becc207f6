-- Several scans, one after the other, each of the table that the one before left; and the pointer that a block shows when
-- it is done.
use Rattle.std.specs.Prelude.{ℕ, zero, suc, List, [], ◌∷◌}
use Rattle.verdict.specs.Lists.{Table}
use Rattle.record.specs.declared.Block.{Block}
use Rattle.network.specs.Network.{Network}
use Rattle.blocks.specs.View.{located}
use Rattle.kinds.specs.Call.{pointer_shown}
use Rattle.scan.specs.Scan.{State, fresh, step, scanned}

-- the pointer of a block in a table: a constant itself, or the register's content; 0 for a kind without one
unfoldable pub pointer_of : Network → Block → Table → ℕ
unfolding pointer_shown
pointer_of net b t = pointer_shown (located net b) t

-- of blocks in order, each when it is done
unfoldable pub pointers_after : Network → List Block → State → List ℕ
pointers_after net [] s = []
pointers_after net (b ∷ bs) s = pointer_of net b (step net b s).table ∷ pointers_after net bs (step net b s)

abbrev pub scan_pointers : Network → Table → List ℕ
scan_pointers net t = pointers_after net net.blocks (fresh t)

-- the table after so many scans of it
unfoldable pub scans_table : Network → Table → ℕ → Table
scans_table net t zero = t
scans_table net t (suc j) = scans_table net (scanned net t).table j
