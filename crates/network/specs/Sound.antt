-- What a network must be, said once more and without the checker's order: the conditions as one predicate. And the
-- round trip between networks and words. Assumes nothing.
use Rattle.std.specs.Prelude.{ℕ, ◌≤◌, ◌<◌, ◌≡◌, Bool, false, ◌↔◌}
use Rattle.verdict.specs.Lists.{Words}
use Rattle.section.specs.Walk.{first_of}
use Rattle.table.specs.Sound.{GoodSizes}
use Rattle.areas.specs.Areas.{has_level}
use Rattle.rules.specs.Sound.{GoodBlock}
use Rattle.network.specs.Network.{Network, block_count, block_of, words_of}
use Rattle.network.specs.Check.{most_blocks, network_in, checked}

-- a network: its areas, its at most 128 blocks, and each block with the earlier ones before it
pub record GoodNetwork (net : Network) : Type 0 where
  pub areas : GoodSizes net.sizes
  pub few : block_count net ≤ most_blocks
  pub blocks : (k : ℕ) → k < block_count net → GoodBlock net.sizes k (block_of net k)

-- words that are those of the network that they spell, which is good; the first says whether the level is among them
pub record Sound (ws : Words) : Type 0 where
  pub network : GoodNetwork (network_in ws)
  pub words : words_of (has_level (first_of ws)) (network_in ws) ≡ ws

-- the checker accepts exactly the sound words
abbrev pub AcceptsExactly : Type 0
AcceptsExactly = (ws : Words) → ((checked ws).number ≡ 0) ↔ Sound ws

-- Level 1 may be left out of the words, and no other
abbrev pub Spellable : Bool → Network → Type 0
Spellable with_level net = with_level ≡ false → net.sizes.level ≡ 1

-- A network's words spell it.
abbrev pub SpellsBack : Type 0
SpellsBack = (with_level : Bool) (net : Network) → Spellable with_level net → network_in (words_of with_level net) ≡ net
