-- The laws of a network's words: its two sections in turn, what they spell by the index of the words, and what an opening is.
-- Assumes nothing.
use mathlib.Core.Path.{◌≡◌, refl, sym, ap, ap₂, ◌∙◌}
use mathlib.Core.Bool.{false, cond}
use mathlib.Core.List.{List, [], ◌∷◌, ◌++◌, append-nil}
use Prim.Native.Nat.{ℕ, ◌+◌, ◌*◌, ◌<◌}
use native.Mathlib.Omega.{arith}
use lib.Dec.{leb}
use lib.ListN.{length, get_or, drop, length-append}
use Rattle.section.specs.Walk.{word, left_over}
use Rattle.verdict.specs.Verdict.{Verdict, done, then}
use Rattle.section.specs.Section.{section_earns, earned, meaning, judged_from, whole, records_earn, records_in}
use Rattle.section.proofs.Walk.{seek_done}
use Rattle.section.proofs.Records.{records_count, record_is, words_count}
use Rattle.section.proofs.Words.{word_here, rest_from}
use Rattle.table.specs.declared.sizes.Sizes.{Sizes}
use Rattle.areas.specs.Areas.{areas_section, sizes_of, areas_end, no_sizes}
use Rattle.areas.proofs.Laws.{areas_long}
use Rattle.record.specs.Record.{record_words, block_in}
use Rattle.rules.proofs.Faults.{faults_long}
use Rattle.network.specs.Network.{Network, areas_only, block_count, block_of, no_block}
use Rattle.network.specs.Check.{most_blocks, block_faults, blocks_section, sections, no_network, network_in, network_end, front_checked, checked, record_start}

-- what a record's words earn is as long as the record
pub block_faults_long : (z : Sizes) (earlier : ℕ) (ws : List ℕ) → length (block_faults z earlier ws) ≡ record_words
unfolding block_faults
block_faults_long z earlier ws = faults_long z earlier (block_in ws)

module _ (ws : List ℕ) where
  abbrev pub after_areas : Network
  after_areas = areas_only (sizes_of ws)

  abbrev pub areas_earn : List ℕ
  areas_earn = section_earns areas_section no_sizes ws

  -- the words from the count of the blocks on
  abbrev pub from_count : List ℕ
  from_count = drop (areas_end ws) ws

  pub earned_is : earned sections no_network ws ≡ areas_earn ++ (section_earns blocks_section after_areas from_count ++ [])
  unfolding earned section_earns areas_section
  earned_is = ap (λ (k : ℕ). areas_earn ++ (section_earns blocks_section after_areas (drop k ws) ++ [])) (areas_long ws)

  -- ---- what the words spell
  pub sizes_is : (network_in ws).sizes ≡ sizes_of ws
  unfolding network_in meaning areas_section blocks_section
  sizes_is = refl

  count_at : word from_count 0 ≡ word ws (areas_end ws)
  count_at = sym (word_here ws (areas_end ws))

  after_count : drop 1 from_count ≡ drop (areas_end ws + 1) ws
  after_count = sym (rest_from ws (areas_end ws) 1)

  pub blocks_are : (network_in ws).blocks ≡ records_in record_words block_in (word ws (areas_end ws)) (drop (areas_end ws + 1) ws)
  unfolding network_in meaning section_earns areas_section blocks_section
  blocks_are =
      ap (λ (k : ℕ). records_in record_words block_in (word (drop k ws) 0) (drop 1 (drop k ws))) (areas_long ws)
      ∙ ap₂ (records_in record_words block_in) count_at after_count

  pub count_is : block_count (network_in ws) ≡ word ws (areas_end ws)
  count_is = ap length blocks_are ∙ records_count record_words block_in (word ws (areas_end ws)) (drop (areas_end ws + 1) ws)

  pub block_is : (k : ℕ) → k < block_count (network_in ws) → block_of (network_in ws) k ≡ block_in (drop (record_start ws k) ws)
  block_is k l =
      ap (λ (bs : List _). get_or bs k no_block) blocks_are
      ∙ record_is record_words block_in (word ws (areas_end ws)) k (drop (areas_end ws + 1) ws) no_block (omega (arith, l, count_is))
      ∙ ap block_in (sym (rest_from ws (areas_end ws + 1) (record_words * k)))

  -- ---- what its words earn, and how many there are
  abbrev pub records_at : List ℕ
  records_at = records_earn record_words (block_faults (sizes_of ws)) 0 (word ws (areas_end ws)) (drop (areas_end ws + 1) ws)

  pub blocks_earn : section_earns blocks_section after_areas from_count ≡ cond (leb (word ws (areas_end ws)) most_blocks) 0 2 ∷ records_at
  unfolding section_earns blocks_section
  blocks_earn = ap₂ (λ (c : ℕ) (l : List ℕ). cond (leb c most_blocks) 0 2 ∷ records_earn record_words (block_faults (sizes_of ws)) 0 c l) count_at after_count

  pub end_is : network_end ws ≡ areas_end ws + 1 + record_words * word ws (areas_end ws)
  unfolding network_end
  end_is =
      let long : length records_at ≡ record_words * word ws (areas_end ws) =
      words_count record_words (block_faults (sizes_of ws)) (block_faults_long (sizes_of ws)) (word ws (areas_end ws)) 0 (drop (areas_end ws + 1) ws) in
      ap length earned_is
      ∙ length-append areas_earn (section_earns blocks_section after_areas from_count ++ [])
      ∙ ap₂ ◌+◌ (areas_long ws) (ap length (append-nil (section_earns blocks_section after_areas from_count) ∙ blocks_earn))
      ∙ omega (arith, long)

  -- ---- opened: the network at the front, then nothing
  abbrev pub over : Verdict
  over = left_over (network_end ws) (length ws) false

  pub checked_is : checked ws ≡ then (front_checked ws) over
  unfolding checked whole front_checked network_end
  checked_is = refl

  pub front_done : (front_checked ws).number ≡ 0 → front_checked ws ≡ done
  unfolding front_checked judged_from
  front_done e = seek_done (length ws) (earned sections no_network ws) 0 e
