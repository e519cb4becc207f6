-- The laws of the first k blocks of a scan: the state that they leave, with an output for each, and their pointers; of all blocks;
-- and of an opening and its reader: the network's sizes, its count, and the record of the next block.
use mathlib.Core.Path.{◌≡◌, refl, sym, ap, ◌∙◌, subst}
use mathlib.Core.List.{List, [], ◌∷◌, ◌++◌}
use Prim.Native.Nat.{ℕ, suc, ◌+◌, ◌≤◌, ◌<◌}
use native.Mathlib.Omega.{arith}
use lib.ListN.{length, take, length-append}
use lib.Seq.{take-suc, take-length, length-take-le}
use Rattle.record.specs.declared.Block.{Block}
use Rattle.network.specs.declared.checker.Opened.{Opened}
use Rattle.std.specs.Prelude.{Result, Ok}
use Rattle.verdict.specs.declared.Refusal.{Refusal}
use Rattle.verdict.specs.Verdict.{numbered}
use Rattle.verdict.proofs.Said.{numbered_once}
use Rattle.network.specs.Network.{Network, no_block, block_of, block_count}
use Rattle.network.specs.Check.{opened_value, network_in, read_at}
use Rattle.network.proofs.Values.{accepted_good, opened_sizes, opened_count, reads_block}
use Rattle.scan.specs.Scan.{State, fresh, step, steps, scanned}
use Rattle.scan.specs.Inner.{Legible}
use Rattle.scan.specs.Scans.{pointer_of, pointers_after, scan_pointers}

-- ---- blocks and then others
module _ (net : Network) where
  steps_append : (front bs : List Block) (s : State) → steps net (front ++ bs) s ≡ steps net bs (steps net front s)
  unfolding steps
  steps_append [] bs s = refl
  steps_append (a ∷ front) bs s = steps_append front bs (step net a s)

  pointers_append : (front bs : List Block) (s : State) → pointers_after net (front ++ bs) s ≡ pointers_after net front s ++ pointers_after net bs (steps net front s)
  unfolding steps pointers_after
  pointers_append [] bs s = refl
  pointers_append (a ∷ front) bs s = ap (λ (l : List ℕ). pointer_of net a (step net a s).table ∷ l) (pointers_append front bs (step net a s))

  -- an output and a pointer for each
  outs_long : (bs : List Block) (s : State) → length (steps net bs s).outs ≡ length s.outs + length bs
  unfolding steps step
  outs_long [] s = omega arith
  outs_long (b ∷ bs) s = outs_long bs (step net b s) ∙ ap (λ (n : ℕ). n + length bs) (length-append s.outs _) ∙ omega arith

  pointers_long : (bs : List Block) (s : State) → length (pointers_after net bs s) ≡ length bs
  unfolding pointers_after
  pointers_long [] s = refl
  pointers_long (b ∷ bs) s = ap suc (pointers_long bs (step net b s))

-- ---- the state after k blocks, and their pointers
unfoldable pub after : Network → List ℕ → ℕ → State
after net t k = steps net (take k net.blocks) (fresh t)

unfoldable pub pointers_so_far : Network → List ℕ → ℕ → List ℕ
pointers_so_far net t k = pointers_after net (take k net.blocks) (fresh t)

module _ (net : Network) (t : List ℕ) where
  module _ (k : ℕ) (l : k < block_count net) where
    pub after_next : after net t (suc k) ≡ step net (block_of net k) (after net t k)
    unfolding after steps
    after_next =
        ap (λ (bs : List Block). steps net bs (fresh t)) (take-suc net.blocks k no_block l)
        ∙ steps_append net (take k net.blocks) (block_of net k ∷ []) (fresh t)

    pub mark_next : pointers_so_far net t (suc k) ≡ pointers_so_far net t k ++ pointer_of net (block_of net k) (after net t (suc k)).table ∷ []
    unfolding after pointers_so_far pointers_after
    mark_next =
        ap (λ (bs : List Block). pointers_after net bs (fresh t)) (take-suc net.blocks k no_block l)
        ∙ pointers_append net (take k net.blocks) (block_of net k ∷ []) (fresh t)
        ∙ ap (λ (s : State). pointers_so_far net t k ++ pointer_of net (block_of net k) s.table ∷ []) (sym after_next)

  module _ (k : ℕ) (l : k ≤ block_count net) where
    pub outs_count : length (after net t k).outs ≡ k
    unfolding after
    outs_count = omega (arith, outs_long net (take k net.blocks) (fresh t), length-take-le k net.blocks l)

    pub marks_count : length (pointers_so_far net t k) ≡ k
    unfolding pointers_so_far
    marks_count = pointers_long net (take k net.blocks) (fresh t) ∙ length-take-le k net.blocks l

  -- all blocks are a scan
  pub after_all : after net t (block_count net) ≡ scanned net t
  unfolding after
  after_all = ap (λ (bs : List Block). steps net bs (fresh t)) (take-length net.blocks)

  pub pointers_all : pointers_so_far net t (block_count net) ≡ scan_pointers net t
  unfolding pointers_so_far
  pointers_all = ap (λ (bs : List Block). pointers_after net bs (fresh t)) (take-length net.blocks)

  pub all_outs_count : length (scanned net t).outs ≡ block_count net
  all_outs_count = omega (arith, outs_long net net.blocks (fresh t))

-- ---- an opening has the sizes and the count of the network
module _ (ws : List ℕ) {o : Opened} (e : o ≡ opened_value ws) where
  pub sizes_are : o.sizes ≡ (network_in ws).sizes
  sizes_are = ap (λ (x : Opened). x.sizes) e ∙ opened_sizes ws

  pub count_is : o.count ≡ block_count (network_in ws)
  count_is = ap (λ (x : Opened). x.count) e ∙ opened_count ws

-- ---- of accepted words, there are at most 128 blocks, and the reader gives the next one
module _ (ws : List ℕ) (o : Opened) (k : ℕ) (g : Legible ws o) (l : k < o.count) where
  pub below : k < block_count (network_in ws)
  below = subst (λ (n : ℕ). k < n) (count_is ws g.opens) l

  pub below_most : k < 128
  below_most = omega (arith, below, (accepted_good ws g.accepted).few)

  pub next_read : (r : Result Block Refusal) → numbered r ≡ read_at ws o (k + 1) → r ≡ Ok (block_of (network_in ws) k)
  next_read r q = numbered_once r (Ok (block_of (network_in ws) k)) (q ∙ reads_block ws o k g.opens g.accepted below)
