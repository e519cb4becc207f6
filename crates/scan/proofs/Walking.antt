-- The laws of the walk over the blocks of a scan: after k blocks the table and the list are those of the definitions, and the next
-- block's words, inputs and entry are in place.
use mathlib.Core.Path.{◌≡◌, refl, sym, ap, ap₂, ◌∙◌, subst}
use mathlib.Core.List.{List, [], ◌∷◌, ◌++◌, map, append_assoc, map-append}
use Prim.Native.Nat.{ℕ, suc, ◌+◌, ◌≤◌, ◌<◌}
use native.Mathlib.Numerals.{add-one}
use native.Mathlib.Omega.{arith}
use lib.ListN.{length, get_or, take, drop, set, length-append, length-drop, length-map}
use lib.Seq.{take_at, drop-cons, set_at}
use Rattle.table.specs.declared.sizes.Sizes.{Sizes}
use Rattle.record.specs.declared.Block.{Block}
use Rattle.table.specs.Table.{total}
use Rattle.network.specs.Network.{Network, areas_only, block_of, block_count}
use Rattle.network.specs.Sound.{GoodNetwork}
use Rattle.blocks.specs.declared.Power.{Power}
use Rattle.blocks.specs.declared.Outputs.{Outputs}
use Rattle.blocks.specs.Work.{block_outputs, block_table}
use Rattle.blocks.proofs.Areas.{outputs_by_areas, table_by_areas}
use Rattle.blocks.specs.declared.Located.{Located}
use Rattle.inputs.specs.Input.{passes, power_on}
use Rattle.blocks.specs.Packed.{packed, unpacked}
use Rattle.scan.specs.Scan.{State, step, steps, scanned}
use Rattle.scan.specs.Inner.{Next, Ran, power_of, located_at, AllRan}
use Rattle.scan.proofs.Kept.{exact_after}
use Rattle.scan.proofs.Packing.{back_after}
use Rattle.scan.proofs.Scanning.{after, after_next, outs_count, after_all}

-- ---- what the code says of a block by the areas is true of it in the network
by_areas : (net : Network) {one : Located} {k : ℕ} {t packs table after : List ℕ}
    → Ran (areas_only net.sizes) one k t packs table after → Ran net one k t packs table after
unfolding passes
by_areas net {one} {k} {t} {packs} r =
    let on : Power = power_of net one.block t packs k in
    record {
      table_after = r.table_after ∙ table_by_areas net one.block t on;
      entry_after = r.entry_after ∙ ap (λ (out : Outputs). set packs k (packed out)) (outputs_by_areas net one.block t on);
    }

-- ---- what k blocks leave in front of the list
abbrev front : Network → List ℕ → ℕ → List ℕ
front net t k = map packed (after net t k).outs

front_long : (net : Network) (t : List ℕ) (k : ℕ) → k ≤ block_count net → length (front net t k) ≡ k
front_long net t k l = length-map (after net t k).outs packed ∙ outs_count net t k l

-- ---- what holds after k blocks
pub record SoFar (net : Network) (t outputs : List ℕ) (k : ℕ) (table packs : List ℕ) : Type 0 where
  pub good : GoodNetwork net
  pub exact : length t ≡ total net.sizes
  pub room : block_count net ≤ length outputs
  pub count : k ≤ block_count net
  pub table_so_far : table ≡ (after net t k).table
  pub packs_so_far : packs ≡ front net t k ++ drop k outputs

pub none_run : {net : Network} {t outputs : List ℕ} → GoodNetwork net → length t ≡ total net.sizes → block_count net ≤ length outputs → SoFar net t outputs 0 t outputs
unfolding after steps
none_run g e u = record {
  good = g;
  exact = e;
  room = u;
  count = omega arith;
  table_so_far = refl;
  packs_so_far = refl;
}

module _ {net : Network} {t outputs : List ℕ} {k : ℕ} {table packs : List ℕ} (h : SoFar net t outputs k table packs) where
  table_exact : length table ≡ total net.sizes
  table_exact = ap length h.table_so_far ∙ exact_after net t h.good h.exact k h.count

  pub table_long : length table ≡ length t
  table_long = table_exact ∙ sym h.exact

  pub packs_long : length packs ≡ length outputs
  packs_long =
      ap length h.packs_so_far
      ∙ length-append (front net t k) (drop k outputs)
      ∙ ap₂ ◌+◌ (front_long net t k h.count) (length-drop k outputs)
      ∙ omega (arith, h.count, h.room)

  -- the outputs of the earlier blocks
  earlier : take k packs ≡ front net t k
  earlier = ap (take k) h.packs_so_far ∙ take_at (front net t k) (drop k outputs) k (front_long net t k h.count)

  -- ---- one block more
  module _ (l : k < block_count net) where
    block : Block
    block = block_of net k

    next_here : Next (areas_only net.sizes) (located_at net k) table packs k
    next_here = record {
      runs = record { good = h.good.blocks k l; exact = table_exact };
      lies = refl;
      entry = omega (arith, l, h.room, packs_long);
    }

    -- its inputs pass the power of the definition
    on : Power
    on = power_on net (after net t k).table (after net t k).outs block.inputs

    power_same : power_of net block table packs k ≡ on
    unfolding block on
    power_same =
        ap₂ (λ (x : List ℕ) (os : List Outputs). power_on net x os block.inputs) h.table_so_far
        (ap (map unpacked) earlier ∙ back_after net t h.good k h.count)

    out : Outputs
    out = block_outputs net block (after net t k).table on

    module _ {table_then packs_then : List ℕ} (r : Ran net (located_at net k) k table packs table_then packs_then) where
      table_more : table_then ≡ (after net t (suc k)).table
      unfolding block on step
      table_more =
          r.table_after
          ∙ ap₂ (block_table net block) h.table_so_far power_same
          ∙ sym (ap (λ (s : State). s.table) (after_next net t k l))

      packs_more : packs_then ≡ front net t (suc k) ++ drop (suc k) outputs
      unfolding block on out step
      packs_more =
          r.entry_after
          ∙ ap₂ (λ (x : List ℕ) (p : Power). set packs k (packed (block_outputs net block x p))) h.table_so_far power_same
          ∙ ap (λ (p : List ℕ). set p k (packed out)) (h.packs_so_far ∙ ap (λ (d : List ℕ). front net t k ++ d) (drop-cons outputs k 0 (omega (arith, l, h.room))))
          ∙ set_at (front net t k) (get_or outputs k 0) (drop (suc k) outputs) (packed out) k (front_long net t k h.count)
          ∙ sym (append_assoc (front net t k) (packed out ∷ []) (drop (suc k) outputs))
          ∙ ap (λ (p : List ℕ). p ++ drop (suc k) outputs)
          (sym (map-append packed (after net t k).outs (out ∷ [])) ∙ ap (λ (s : State). map packed s.outs) (sym (after_next net t k l)))

      more : SoFar net t outputs (k + 1) table_then packs_then
      more = subst (λ (n : ℕ). SoFar net t outputs n table_then packs_then) (sym (add-one k)) (record {
        good = h.good;
        exact = h.exact;
        room = h.room;
        count = omega (arith, l);
        table_so_far = table_more;
        packs_so_far = packs_more;
      })

    -- by what the code has for its sizes and its record
    module _ {z : Sizes} (p : z ≡ net.sizes) {one : Located} (q : one ≡ located_at net k) where
      pub next_ready : Next (areas_only z) one table packs k
      next_ready =
          subst (λ (y : Sizes). Next (areas_only y) one table packs k) (sym p)
          (subst (λ (x : Located). Next (areas_only net.sizes) x table packs k) (sym q) next_here)

      pub one_more : {table_then packs_then : List ℕ} → Ran (areas_only z) one k table packs table_then packs_then → SoFar net t outputs (k + 1) table_then packs_then
      one_more {table_then} {packs_then} r =
          more
          (subst (λ (x : Located). Ran net x k table packs table_then packs_then) q
          (by_areas net (subst (λ (y : Sizes). Ran (areas_only y) one k table packs table_then packs_then) p r)))

  -- ---- after the last block
  pub all_run : block_count net ≤ k → AllRan net t outputs table packs
  all_run l =
      let e : k ≡ block_count net = omega (arith, l, h.count) in
      let all : after net t k ≡ scanned net t = ap (after net t) e ∙ after_all net t in
      record {
        table_after = h.table_so_far ∙ ap (λ (s : State). s.table) all;
        outputs_after = h.packs_so_far ∙ ap₂ (λ (s : State) (n : ℕ). map packed s.outs ++ drop n outputs) all e;
      }
