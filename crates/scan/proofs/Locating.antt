-- The laws of the list of a network's records, which is filled entry by entry.
use mathlib.Core.Path.{◌≡◌, refl, sym, ap, ap₂, ◌∙◌}
use mathlib.Core.Bool.{Bool, true, false}
use mathlib.Core.List.{List}
use Prim.Native.Nat.{ℕ, ◌+◌, ◌<◌}
use native.Mathlib.Omega.{arith}
use borrow.Author.Tests.{eqb-true, eqb-false}
use lib.Dec.{eqb}
use lib.ListN.{length, get_or, set}
use lib.Seq.{get_or-set_same, get_or-set_other}
use Rattle.table.specs.declared.sizes.Sizes.{Sizes}
use Rattle.record.specs.declared.Block.{Block}
use Rattle.network.specs.Network.{Network, areas_only, block_of}
use Rattle.blocks.specs.View.{located}
use Rattle.blocks.specs.declared.Located.{Located}
use Rattle.scan.specs.Inner.{located_at}

-- ---- the first k entries are the records of the first k blocks
abbrev pub Filled : Network → ℕ → List Located → Type 0
Filled net k blocks = (i : ℕ) → i < k → (otherwise : Located) → get_or blocks i otherwise ≡ located_at net i

pub one_filled : (net : Network) {k : ℕ} (blocks : List Located) {one : Located} → Filled net k blocks → k < length blocks → one ≡ located_at net k → Filled net (k + 1) (set blocks k one)
one_filled net {k} blocks {one} h l e i u d = go (eqb i k) refl
  where
    go : (a : Bool) → eqb i k ≡ a → get_or (set blocks k one) i d ≡ located_at net i
    go true q =
        let same : i ≡ k = eqb-true i k q in
        ap (λ (n : ℕ). get_or (set blocks k one) n d) same ∙ get_or-set_same blocks k one d l ∙ e ∙ ap (located_at net) (sym same)
    go false q = let other = eqb-false i k q in get_or-set_other blocks k i one d other ∙ h i (omega (arith, u)) d

-- a record that was read, located by an opening's areas, is the next block's
pub is_located : (net : Network) (k : ℕ) {z : Sizes} {b : Block} → z ≡ net.sizes → b ≡ block_of net k → located (areas_only z) b ≡ located_at net k
is_located net k p q = ap₂ (λ (y : Sizes) (c : Block). located (areas_only y) c) p q
