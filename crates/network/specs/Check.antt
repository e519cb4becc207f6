-- The checker: words are checked from the first on, each when it is reached. A network is two
-- sections, the areas and the blocks. Assumes nothing.
use Rattle.std.specs.Prelude.{ℕ, ◌+◌, ◌-◌, ◌*◌, refl, false, cond, ◌&&◌, List, [], ◌∷◌, leb, length, drop}
use Rattle.verdict.specs.Lists.{Words}
use Rattle.verdict.specs.Verdict.{Verdict, verdict, done, then}
use Rattle.verdict.specs.Verdict.{Said, said_by}
use Rattle.section.specs.Section.{Section, meaning, end, front, whole, records_earn, records_in, Part, lifted}
use Rattle.table.specs.declared.sizes.Sizes.{Sizes}
use Rattle.areas.specs.Areas.{areas_section, areas_end, no_sizes}
use Rattle.record.specs.declared.Block.{Block}
use Rattle.record.specs.Record.{record_words, block_in}
use Rattle.rules.specs.Fault.{faults}
use Rattle.network.specs.declared.{checker.Opened.Opened}
use Rattle.network.specs.Network.{Network, areas_only, block_count}

-- ---- the areas spell the network's sizes
abbrev pub sizes_part : Part Sizes Network
sizes_part = record {
  get = λ net. net.sizes;
  put = λ z net. record { sizes = z; blocks = net.blocks };
  get_put = λ z net. refl;
  put_get = λ net. refl;
  put_put = λ x y net. refl;
}

-- ---- the blocks: count 0 to 128, then 15 words for each block, which earn by the sizes and by how many blocks are earlier
abbrev pub most_blocks : ℕ
most_blocks = 128

unfoldable pub block_faults : Sizes → ℕ → Words → List ℕ
block_faults z earlier ws = faults z earlier (block_in ws)

unfoldable pub blocks_section : Section Network
blocks_section = record {
  allows = λ net count. leb count most_blocks;
  earns = λ net count ws. records_earn record_words (block_faults net.sizes) 0 count ws;
  spells = λ net count ws. record { sizes = net.sizes; blocks = records_in record_words block_in count ws };
}

-- ---- a network
abbrev pub sections : List (Section Network)
sections = lifted sizes_part areas_section ∷ blocks_section ∷ []

abbrev pub no_network : Network
no_network = areas_only no_sizes

-- the network that the words spell, whatever they earn, and where its words end
unfoldable pub network_in : Words → Network
network_in ws = meaning sections no_network ws

unfoldable pub network_end : Words → ℕ
network_end ws = end sections no_network ws

-- the verdict on the network at the front of the words, whatever follows it, and on one that is all of the words
unfoldable pub front_checked : Words → Verdict
front_checked ws = front sections no_network ws

unfoldable pub checked : Words → Verdict
checked ws = whole sections no_network ws false

-- what an opening has, which is what the words spell
abbrev pub opened_value : Words → Opened
opened_value ws = record { sizes = (network_in ws).sizes; count = block_count (network_in ws); next = network_end ws }

-- a verdict with what the words spell where it is done: of the network at their front, and of one that is all of the words
abbrev pub leading : Words → Said Opened
leading ws = said_by (front_checked ws) (opened_value ws)

abbrev pub opened : Words → Said Opened
opened ws = said_by (checked ws) (opened_value ws)

-- ---- the reader
-- 12 when k isn't 1 to the count or the words, so many, are fewer than the opening's network has
unfoldable pub read_verdict : Opened → ℕ → ℕ → Verdict
read_verdict o k size = cond (leb 1 k && leb k o.count && leb o.next size) done (verdict 12 0)

-- a record's words stand after the areas, the count of the blocks and the earlier blocks
abbrev pub record_start : Words → ℕ → ℕ
record_start ws earlier = areas_end ws + 1 + record_words * earlier

unfoldable pub read_at : Words → Opened → ℕ → Said Block
read_at ws o k = said_by (read_verdict o k (length ws)) (block_in (drop (record_start ws (k - 1)) ws))

-- the record of block k of words that are checked first
abbrev pub read : Words → ℕ → Said Block
read ws k = said_by (then (checked ws) (read_verdict (opened_value ws) k (length ws))) (block_in (drop (record_start ws (k - 1)) ws))
