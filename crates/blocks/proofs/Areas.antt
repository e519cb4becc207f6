-- What a block reads and does goes by the areas of its network alone. Assumes nothing.
use mathlib.Core.Path.{◌≡◌, refl, ap}
use mathlib.Core.List.{List}
use Prim.Native.Nat.{ℕ}
use Rattle.record.specs.declared.Block.{Block}
use Rattle.network.specs.Network.{Network, areas_only}
use Rattle.blocks.specs.declared.Power.{Power}
use Rattle.blocks.specs.Kind.{Kind, kind_of}
use Rattle.blocks.specs.Kind.Kind.{AND, OR, XOR, COMP, CMPR, MBIT, SENS, BROT}
use Rattle.blocks.specs.View.{view}
use Rattle.blocks.specs.Effect.{Effect}
use Rattle.blocks.specs.Work.{coil_put, effect_on, outputs, written, block_outputs, block_table}

view_by_areas : (kind : Kind) (net : Network) (b : Block) (t : List ℕ) → view kind (areas_only net.sizes) b t ≡ view kind net b t
unfolding view
view_by_areas AND net b t = refl
view_by_areas OR net b t = refl
view_by_areas XOR net b t = refl
view_by_areas COMP net b t = refl
view_by_areas CMPR net b t = refl
view_by_areas MBIT net b t = refl
view_by_areas SENS net b t = refl
view_by_areas BROT net b t = refl

module _ (net : Network) (b : Block) (t : List ℕ) (on : Power) where
  effect_by_areas : effect_on (areas_only net.sizes) b t on ≡ effect_on net b t on
  effect_by_areas = rw (view_by_areas (kind_of b.kind) net)

  pub outputs_by_areas : block_outputs (areas_only net.sizes) b t on ≡ block_outputs net b t on
  unfolding block_outputs
  outputs_by_areas = ap (outputs on) effect_by_areas

  pub table_by_areas : block_table (areas_only net.sizes) b t on ≡ block_table net b t on
  unfolding block_table coil_put
  table_by_areas = ap (λ (e : Effect). written net b on e t) effect_by_areas
