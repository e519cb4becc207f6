-- Good networks: every section is good exactly when what it spells is. Assumes nothing.
use mathlib.Core.Path.{◌≡◌, refl, ap, subst, subst⁻¹}
use mathlib.Core.Bool.{true, false}
use mathlib.Core.List.{List}
use Prim.Native.Nat.{ℕ, ◌*◌, ◌≤◌, ◌<◌}
use native.Mathlib.Nat.{zero-add}
use native.Mathlib.Omega.{arith}
use borrow.Author.Tests.{le-leb, leb-true}
use lib.ListN.{length, drop}
use Rattle.section.specs.Walk.{word, first_of}
use Rattle.verdict.specs.Verdict.{Verdict, done}
use Rattle.section.specs.Section.{section_rest, meaning, records_in, lifted}
use Rattle.section.specs.Truths.{Clean, Good}
use Rattle.section.proofs.Sections.{whole_done, accepts_sections, front_good as sections_front_good, good_front as sections_good_front, good_whole as sections_good_whole}
use Rattle.section.proofs.Records.{records_count, record_is, clean_each, each_clean}
use Rattle.table.specs.declared.sizes.Sizes.{Sizes}
use Rattle.areas.specs.Areas.{area_count, areas_section, sizes_of}
use Rattle.areas.proofs.Laws.{areas_good, good_areas}
use Rattle.record.specs.Record.{record_words, block_in}
use Rattle.rules.specs.Sound.{GoodBlock}
use Rattle.rules.proofs.Good.{good_block, record_clean}
use Rattle.network.specs.Network.{Network, block_count, block_of, no_block}
use Rattle.network.specs.Check.{sizes_part, most_blocks, block_faults, blocks_section, sections, no_network, network_in, network_end, front_checked, checked}
use Rattle.network.specs.Sound.{GoodNetwork}
use Rattle.network.proofs.Networks.{block_faults_long}

-- ---- a network: what its two sections spell is good exactly where they are
module _ (ws : List ℕ) where
  abbrev z : Sizes
  z = sizes_of ws

  abbrev rest : List ℕ
  rest = section_rest (lifted sizes_part areas_section) no_network ws

  abbrev count : ℕ
  count = word rest 0

  abbrev records : List ℕ
  records = drop 1 rest

  abbrev spelt : Network
  spelt = record { sizes = z; blocks = records_in record_words block_in count records }

  spells : network_in ws ≡ spelt
  unfolding network_in meaning areas_section blocks_section
  spells = refl

  many : block_count spelt ≡ count
  many = records_count record_words block_in count records

  nth : (k : ℕ) → k < count → block_of spelt k ≡ block_in (drop (record_words * k) records)
  nth k l = record_is record_words block_in count k records no_block l

  sections_good : Good sections no_network ws → (area_count (first_of ws) ≡ true) × GoodNetwork spelt
  unfolding Good areas_section blocks_section block_faults
  sections_good g = (
    g.0,
    record {
      areas = areas_good ws g.1;
      few = omega (arith, many, leb-true count most_blocks g.2.0);
      blocks = λ k l.
          let in_count : k < count = omega (arith, many, l) in
          subst⁻¹ (GoodBlock z k) (nth k in_count)
          (good_block z k (block_in (drop (record_words * k) records))
          (subst (λ (j : ℕ). Clean (block_faults z j (drop (record_words * k) records))) (zero-add k)
          (clean_each record_words (block_faults z) (block_faults_long z) count 0 records g.2.1 k in_count)));
    },
  )

  good_sections : area_count (first_of ws) ≡ true → GoodNetwork spelt → Good sections no_network ws
  unfolding Good areas_section blocks_section block_faults
  good_sections e g = (
    e,
    good_areas ws g.areas,
    (
      le-leb count most_blocks (omega (arith, many, g.few)),
      each_clean record_words (block_faults z) (block_faults_long z) count 0 records
          (λ k l.
          subst⁻¹ (λ (j : ℕ). Clean (block_faults z j (drop (record_words * k) records))) (zero-add k)
          (record_clean z k (block_in (drop (record_words * k) records)) (subst (GoodBlock z k) (nth k l) (g.blocks k (omega (arith, many, l)))))),
      tt,
    ),
  )

  -- the network at the front of the words
  pub front_good : (front_checked ws).number ≡ 0 → (area_count (first_of ws) ≡ true) × GoodNetwork (network_in ws) × (network_end ws ≤ length ws)
  unfolding front_checked network_end
  front_good e =
      let all = sections_front_good sections no_network ws e in
      let good = sections_good all.0 in
      (good.0, subst⁻¹ GoodNetwork spells good.1, all.1)

  pub good_front : area_count (first_of ws) ≡ true → GoodNetwork (network_in ws) → network_end ws ≤ length ws → front_checked ws ≡ done
  unfolding front_checked network_end
  good_front e g n = sections_good_front sections no_network ws (good_sections e (subst GoodNetwork spells g)) n

  pub good_whole : area_count (first_of ws) ≡ true → GoodNetwork (network_in ws) → length ws ≡ network_end ws → checked ws ≡ done
  unfolding checked network_end
  good_whole e g n = sections_good_whole sections no_network ws false (good_sections e (subst GoodNetwork spells g), n, refl)

  pub whole_front : (checked ws).number ≡ 0 → ((front_checked ws).number ≡ 0) × (length ws ≡ network_end ws)
  unfolding checked front_checked network_end
  whole_front e =
      let all = (accepts_sections sections no_network ws false).0 e in
      (ap (λ (v : Verdict). v.number) (sections_good_front sections no_network ws all.0 (omega (arith, all.1))), all.1)

-- a verdict of number 0 is done
pub accepted_done : (ws : List ℕ) → (checked ws).number ≡ 0 → checked ws ≡ done
unfolding checked
accepted_done ws e = whole_done sections no_network ws false e
