-- The network that accepted words spell: it is good, the opening has its sizes and its count, and the reader gives its blocks.
-- Assumes nothing.
use mathlib.Core.Path.{◌≡◌, refl, sym, ap, ◌∙◌}
use mathlib.Core.List.{List}
use Prim.Native.Nat.{ℕ, ◌+◌, ◌-◌, ◌<◌}
use native.Mathlib.Omega.{arith}
use lib.ListN.{drop}
use Rattle.verdict.specs.Verdict.{done}
use Rattle.verdict.specs.Verdict.{said_by}
use Rattle.record.specs.Record.{block_in}
use Rattle.network.specs.declared.checker.Opened.{Opened}
use Rattle.network.specs.Network.{block_of, block_count}
use Rattle.network.specs.Check.{network_in, opened_value, checked, record_start, read_at}
use Rattle.network.specs.Sound.{GoodNetwork}
use Rattle.network.proofs.Accepted.{accepts_exactly}
use Rattle.network.proofs.Good.{whole_front}
use Rattle.network.proofs.Networks.{block_is}
use Rattle.network.proofs.ReadAt.{read_record}

pub accepted_good : (ws : List ℕ) → (checked ws).number ≡ 0 → GoodNetwork (network_in ws)
accepted_good ws e = ((accepts_exactly ws).0 e).network

pub opened_sizes : (ws : List ℕ) → (opened_value ws).sizes ≡ (network_in ws).sizes
opened_sizes ws = refl

pub opened_count : (ws : List ℕ) → (opened_value ws).count ≡ block_count (network_in ws)
opened_count ws = refl

-- the reader's answer for block k + 1
pub reads_block : (ws : List ℕ) (o : Opened) (k : ℕ) → o ≡ opened_value ws → (checked ws).number ≡ 0 → k < block_count (network_in ws)
    → read_at ws o (k + 1) ≡ said_by done (block_of (network_in ws) k)
reads_block ws o k e h l =
    let n : k + 1 - 1 ≡ k = omega arith in
    ap (λ (x : Opened). read_at ws x (k + 1)) e
    ∙ read_record ws (opened_value ws) (k + 1) (omega arith) (omega (arith, l)) (omega (arith, (whole_front ws h).1))
    ∙ ap (λ (i : ℕ). said_by done (block_in (drop (record_start ws i) ws))) n
    ∙ ap (said_by done) (sym (block_is ws k l))
