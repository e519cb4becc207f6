-- The pointer that a scan shows of a compare block is its register when the block is done. Assumes nothing.
use mathlib.Core.Path.{◌≡◌, ap, ◌∙◌}
use mathlib.Core.Bool.{cond}
use mathlib.Core.List.{List}
use Prim.Native.Nat.{ℕ, ◌<◌}
use lib.Dec.{eqb}
use lib.ListN.{get_or}
use Rattle.network.specs.Network.{Network, block_of, block_count}
use Rattle.network.specs.Sound.{GoodNetwork}
use Rattle.rules.proofs.KindFacts.{accepted_means}
use Rattle.blocks.specs.Kind.{kind_of, has_pointer}
use Rattle.blocks.specs.View.{located, pointer_at}
use Rattle.blocks.specs.Work.{pointer_node}
use Rattle.kinds.specs.Call.{pointer_word, pointer_shown}
use Rattle.scan.specs.Scan.{State, step}
use Rattle.scan.specs.Scans.{pointer_of, scan_pointers}
use Rattle.scan.proofs.Scanning.{after, after_next}
use Rattle.scan.proofs.Own.{own_pointer}
use Rattle.rounds.specs.Demand3.{register_in, done_by}

pub shown_pointer : (net : Network) → GoodNetwork net → (i : ℕ) → i < block_count net → (block_of net i).kind ≡ 5 → (t : List ℕ)
    → get_or (scan_pointers net t) i 0 ≡ register_in net i (done_by net i t)
unfolding pointer_of pointer_shown kind_of after step
shown_pointer net G i l compares t =
    let b = block_of net i in
    own_pointer net t i l
    ∙ ap (λ (s : State). pointer_of net b s.table) (after_next net t i l)
    ∙ ap (λ (k : ℕ). cond (has_pointer k) (pointer_at (pointer_node (kind_of k) b) (pointer_word (kind_of k) (located net b)) (done_by net i t)) 0) compares
    ∙ ap (λ (c : ℕ). cond (eqb c 9) b.middle.number (register_in net i (done_by net i t))) ((accepted_means net.sizes i b (G.blocks i l)).compare compares).held
