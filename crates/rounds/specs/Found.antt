-- When a compare says that it found nothing (document 01, "How far each contract must reach"): exactly when no later position differs.
-- Said of the block's outputs in a scan. Assumes nothing.
use Rattle.std.specs.Prelude.{ℕ, ◌*◌, ◌<◌, ◌≡◌, ◌↔◌, true, false, cond, ltb, length, get_or}
use Rattle.verdict.specs.Lists.{Table}
use Rattle.search.specs.Search.{NoneLater}
use Rattle.table.specs.Table.{total}
use Rattle.network.specs.Network.{Network, block_of, block_count}
use Rattle.network.specs.Sound.{GoodNetwork}
use Rattle.blocks.specs.Answer.{no_outputs}
use Rattle.scan.specs.Scan.{scanned}
use Rattle.rounds.specs.Demand3.{power_at, source_found, matrix_found, register_found}

-- where the search starts: at 0 after a reset, and where the pointer is 16n or more
abbrev pub sought_from : Network → ℕ → Table → ℕ
sought_from net i t =
    cond (power_at net i t).middle 0 (cond (ltb (register_found net i t) (16 * (block_of net i).n)) (register_found net i t) 0)

-- block i + 1, a CMPR with power in a scan of a table: its middle output is off exactly when no position above the start differs
abbrev pub NothingFound : Type 0
NothingFound =
    (net : Network) (i : ℕ) (t : Table) → GoodNetwork net → length t ≡ total net.sizes → i < block_count net → (block_of net i).kind ≡ 5 →
    (power_at net i t).top ≡ true →
    ((get_or (scanned net t).outs i no_outputs).middle ≡ false) ↔ NoneLater (source_found net i t) (matrix_found net i t) (block_of net i).n (sought_from net i t)
