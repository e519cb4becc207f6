-- The laws of a file's words: the network's sections in it are judged as they are alone, and the image and the run after them. Assumes
-- nothing.
use mathlib.Core.Path.{◌≡◌, refl, sym, ap, ap₂, ◌∙◌}
use mathlib.Core.Bool.{Bool}
use mathlib.Core.List.{List, [], ◌∷◌, ◌++◌, append-nil, map}
use Prim.Native.Nat.{ℕ, ◌+◌, ◌<◌, ◌≤◌}
use native.Mathlib.Omega.{arith}
use lib.ListN.{length, get_or, take, drop, length-append, length-replicate}
use Rattle.section.specs.Walk.{word, first_of, seek, left_over}
use Rattle.verdict.specs.Verdict.{Verdict, then}
use Rattle.section.specs.Section.{Section, section_earns, section_spells, section_rest, earned, meaning, end, judged_from, front, whole, lifted}
use Rattle.section.proofs.Walk.{then_assoc, seek_append, turn_last}
use Rattle.section.proofs.Words.{word_here, rest_from}
use Rattle.section.proofs.Sections.{earned_append, meaning_append, counts_through, lifted_as_alone}
use Rattle.table.specs.Table.{total}
use Rattle.network.specs.Network.{Network}
use Rattle.network.specs.Check.{sections, network_in, network_end, front_checked}
use Rattle.table.specs.declared.sizes.Sizes.{Sizes}
use Rattle.areas.specs.Areas.{sizes_of, areas_end}
use Rattle.areas.proofs.Laws.{areas_few}
use Rattle.network.proofs.Networks.{sizes_is, end_is}
use Rattle.file.specs.Sound.{SpelledByIndex}
use Rattle.file.specs.Steps.{rest_by}
use Rattle.file.specs.File.{File, table_words, network_part, image_section, run_section, after_network, file_sections, no_file, file_in, file_checked, rest_in, last_end}

-- a section whose words stand from an index on; the sections after the network, then nothing
abbrev pub judged_at : Section File → File → List ℕ → ℕ → Verdict
judged_at s f ws at = seek (section_earns s f (drop at ws)) (length ws) at

pub alone : (s : Section File) (f : File) (ws : List ℕ) (at : ℕ) → judged_at s f ws at ≡ judged_from (s ∷ []) f ws at
unfolding judged_from earned
alone s f ws at = turn_last (length ws) (section_earns s f (drop at ws)) at

abbrev pub tail_at : File → List ℕ → ℕ → Bool → Verdict
tail_at f ws at odd = then (judged_from after_network f ws at) (left_over (at + end after_network f (drop at ws)) (length ws) odd)

-- ---- the network at the front
module _ (ws : List ℕ) where
  -- the file of which the network alone is spelled
  abbrev pub begun_file : File
  begun_file = record { network = network_in ws; image = []; run = 0 }

  abbrev lifted_sections : List (Section File)
  lifted_sections = map (lifted network_part) sections

  front_same : front lifted_sections no_file ws ≡ front_checked ws
  unfolding judged_from front_checked
  front_same = ap (λ (l : List ℕ). seek l (length ws) 0) (lifted_as_alone Network File network_part sections no_file ws).earns_same

  front_meaning : meaning lifted_sections no_file ws ≡ begun_file
  unfolding network_in
  front_meaning = (lifted_as_alone Network File network_part sections no_file ws).spells_part

  front_end : end lifted_sections no_file ws ≡ network_end ws
  unfolding network_end
  front_end = ap length (lifted_as_alone Network File network_part sections no_file ws).earns_same

  pub file_is : file_in ws ≡ meaning after_network begun_file (drop (network_end ws) ws)
  unfolding file_in
  file_is =
      meaning_append lifted_sections after_network no_file ws
      ∙ ap₂ (λ (f : File) (k : ℕ). meaning after_network f (drop k ws)) front_meaning front_end

  whole_end : end file_sections no_file ws ≡ network_end ws + end after_network begun_file (drop (network_end ws) ws)
  whole_end =
      ap length (earned_append lifted_sections after_network no_file ws)
      ∙ length-append (earned lifted_sections no_file ws) (earned after_network (meaning lifted_sections no_file ws) (drop (end lifted_sections no_file ws) ws))
      ∙ ap₂ (λ (f : File) (k : ℕ). k + end after_network f (drop k ws)) front_meaning front_end

  -- the network is judged, then the rest
  pub checked_is : (odd : Bool) → file_checked ws odd ≡ then (front_checked ws) (tail_at begun_file ws (network_end ws) odd)
  unfolding file_checked whole
  checked_is odd =
      let rest : File → ℕ → Verdict = λ f k. judged_from after_network f ws k in
      ap₂ (λ (v : Verdict) (k : ℕ). then v (left_over k (length ws) odd))
      (counts_through lifted_sections after_network no_file ws
      ∙ ap₂ (λ (f : File) (k : ℕ). then (front lifted_sections no_file ws) (rest f k)) front_meaning front_end
      ∙ ap (λ (v : Verdict). then v (rest begun_file (network_end ws))) front_same)
      whole_end
      ∙ then_assoc (front_checked ws) (rest begun_file (network_end ws)) (left_over (network_end ws + end after_network begun_file (drop (network_end ws) ws)) (length ws) odd)

run_long : (f : File) (l : List ℕ) → length (section_earns run_section f l ++ []) ≡ 2
unfolding section_earns run_section
run_long f l = refl

-- ---- the image, then the run, from an index on
module _ (ws : List ℕ) (f : File) (at : ℕ) where
  abbrev size : ℕ
  size = length ws

  abbrev with_image : File
  with_image = section_spells image_section f (drop at ws)

  image_long : length (section_earns image_section f (drop at ws)) ≡ 1 + table_words f
  unfolding section_earns image_section
  image_long = omega (arith, length-replicate {A = ℕ} (table_words f) 0)

  pub rest_is : section_rest image_section f (drop at ws) ≡ drop (at + 1 + table_words f) ws
  rest_is =
      let to : at + (1 + table_words f) ≡ at + 1 + table_words f = omega arith in
      ap (λ (k : ℕ). drop k (drop at ws)) image_long ∙ sym (rest_from ws at (1 + table_words f)) ∙ ap (λ (k : ℕ). drop k ws) to

  pub both_is : earned after_network f (drop at ws) ≡ section_earns image_section f (drop at ws) ++ (section_earns run_section with_image (drop (at + 1 + table_words f) ws) ++ [])
  unfolding earned
  both_is = ap (λ (l : List ℕ). section_earns image_section f (drop at ws) ++ (section_earns run_section with_image l ++ [])) rest_is

  pub tail_end : at + end after_network f (drop at ws) ≡ at + 1 + table_words f + 2
  tail_end =
      let parts : end after_network f (drop at ws) ≡ (1 + table_words f) + 2 =
      ap length both_is
      ∙ length-append (section_earns image_section f (drop at ws)) _
      ∙ ap₂ ◌+◌ image_long (run_long with_image (drop (at + 1 + table_words f) ws))
      in
      omega (arith, parts)

  -- the image is judged, then the run
  pub both_judged : judged_from after_network f ws at ≡ then (judged_at image_section f ws at) (judged_at run_section with_image ws (at + 1 + table_words f))
  unfolding judged_from
  both_judged =
      let run : List ℕ = section_earns run_section with_image (drop (at + 1 + table_words f) ws) in
      let to : at + length (section_earns image_section f (drop at ws)) ≡ at + 1 + table_words f = omega (arith, image_long) in
      ap (λ (l : List ℕ). seek l size at) both_is
      ∙ seek_append size (section_earns image_section f (drop at ws)) (run ++ []) at
      ∙ ap₂ (λ (l : List ℕ) (k : ℕ). then (judged_at image_section f ws at) (seek l size k)) (append-nil run) to

-- ---- what the words spell, by the index of the words
module _ (ws : List ℕ) where
  after_image : ℕ
  after_image = network_end ws + 1 + total (network_in ws).sizes

  pub network_is : (file_in ws).network ≡ network_in ws
  unfolding meaning image_section run_section
  network_is = ap (λ (f : File). f.network) (file_is ws)

  pub image_is : (file_in ws).image ≡ take (total (network_in ws).sizes) (drop (network_end ws + 1) ws)
  unfolding meaning image_section run_section
  image_is = ap (λ (f : File). f.image) (file_is ws) ∙ ap (take (total (network_in ws).sizes)) (sym (rest_from ws (network_end ws) 1))

  pub run_at : (file_in ws).run ≡ first_of (drop 1 (section_rest image_section (begun_file ws) (drop (network_end ws) ws)))
  unfolding meaning run_section
  run_at = ap (λ (f : File). f.run) (file_is ws)

  pub run_is : (file_in ws).run ≡ word ws (network_end ws + 1 + total (network_in ws).sizes + 1)
  unfolding after_image
  run_is =
      run_at
      ∙ ap (λ (l : List ℕ). first_of (drop 1 l)) (rest_is ws (begun_file ws) (network_end ws))
      ∙ ap first_of (sym (rest_from ws after_image 1))
      ∙ sym (word_here ws (after_image + 1))

pub spelled_by_index : SpelledByIndex
spelled_by_index ws = record {
  sizes = ap (λ (net : Network). net.sizes) (network_is ws) ∙ sizes_is ws;
  words = ap (λ (net : Network). total net.sizes) (network_is ws) ∙ ap total (sizes_is ws);
  image = image_is ws ∙ ap (λ (z : Sizes). take (total z) (drop (network_end ws + 1) ws)) (sizes_is ws);
  scans = run_is ws ∙ ap (λ (z : Sizes). word ws (network_end ws + 1 + total z + 1)) (sizes_is ws);
}

-- ---- the rest, of any words: words are below 65536
pub end_near : (ws : List ℕ) → ((k : ℕ) → get_or ws k 0 < 65536) → network_end ws ≤ last_end
end_near ws small = omega (arith, end_is ws, areas_few ws, small (areas_end ws))

pub rest_said : (ws : List ℕ) → rest_by ws (network_end ws) (total (sizes_of ws)) ≡ rest_in ws
rest_said ws =
    let by = spelled_by_index ws in
    λ i. record { image = network_end ws + 1; words = sym by.words i; scans = sym by.scans i }
