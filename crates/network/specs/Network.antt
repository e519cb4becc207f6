-- A network as a value: the sizes of its areas with the level, and its blocks in order.
-- Assumes nothing.
use Rattle.std.specs.Prelude.{ℕ, Bool, length, get_or}
use mathlib.Core.List.{List, [], ◌∷◌, ◌++◌, flat_map}
use Rattle.verdict.specs.Lists.{Words}
use Rattle.table.specs.declared.sizes.Sizes.{Sizes}
use Rattle.areas.specs.Areas.{areas_spelled}
use Rattle.record.specs.declared.Block.{Block}
use Rattle.record.specs.Record.{block_in, spelled}

pub record Network : Type 0 where
  pub sizes : Sizes
  pub blocks : List Block

-- the network of these areas that has no block
abbrev pub areas_only : Sizes → Network
areas_only z = record { sizes = z; blocks = [] }

-- how many blocks there are
abbrev pub block_count : Network → ℕ
block_count net = length net.blocks

-- the block after the first k; where there is none, a record of zeros
abbrev pub no_block : Block
no_block = block_in []

abbrev pub block_of : Network → ℕ → Block
block_of net k = get_or net.blocks k no_block

-- its words, with the level or without it: the areas, then the blocks, each section after its count
unfoldable pub words_of : Bool → Network → Words
unfolding areas_spelled
words_of with_level net = areas_spelled with_level net.sizes ++ block_count net ∷ flat_map spelled net.blocks
