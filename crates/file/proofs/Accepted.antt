-- A file is accepted exactly when its words are those of a good file; and how long it may be. Assumes nothing.
use mathlib.Core.Path.{◌≡◌, refl, sym, ap, ap₂, ◌∙◌, subst}
use mathlib.Core.Bool.{Bool, true, false}
use mathlib.Core.List.{List, [], ◌∷◌, ◌++◌, append_assoc}
use Prim.Native.Nat.{ℕ, zero, suc, ◌+◌, ◌≤◌}
use native.Mathlib.Nat.{le_antisymm}
use native.Mathlib.Omega.{arith}
use borrow.Author.Tests.{eqb-true, eq-eqb}
use lib.Dec.{eqb}
use lib.ListN.{length, take, drop, replicate, length-append, length-drop, length-replicate}
use lib.Seq.{take-suc, take_all, append_snoc, length-take-le, drop_at, drop-append_seam}
use Rattle.section.specs.Walk.{word, first_of, left_over}
use Rattle.verdict.specs.Verdict.{Verdict, done}
use Rattle.section.specs.Section.{section_earns, section_rest, earned, end, judged_from}
use Rattle.section.specs.Truths.{Clean, Good}
use Rattle.section.proofs.Walk.{then_next, then_zero, done_clean, clean_done}
use Rattle.section.proofs.Words.{word_here, one_more}
use Rattle.section.proofs.Sections.{none_over, none_left, earned_good, good_earned, whole_done}
use Rattle.table.specs.Table.{total}
use Rattle.network.specs.Network.{Network, words_of}
use Rattle.section.specs.Limit.{counted}
use Rattle.areas.specs.Areas.{has_level}
use Rattle.areas.proofs.Laws.{areas_few}
use Rattle.network.specs.Check.{network_in, network_end, front_checked}
use Rattle.network.specs.Sound.{GoodNetwork, Spellable}
use Rattle.network.proofs.Accepted.{spells_front, end_front, good_front_done, front_words, spellable, front_opens as network_opens}
use Rattle.section.proofs.Limits.{counted_in, count_of}
use Rattle.network.proofs.Good.{front_good}
use Rattle.network.proofs.Networks.{count_is, end_is}
use Rattle.file.specs.File.{File, table_words, image_section, most_scans, run_section, after_network, file_sections, no_file, file_in, file_checked}
use Rattle.file.specs.Sound.{GoodFile, file_words, SoundFile, AcceptsFiles, FrontOpens, NoLonger}
use Rattle.file.proofs.Files.{tail_at, begun_file, checked_is, rest_is, tail_end, network_is, image_is, run_at, run_is}

-- ---- words in parts: those before an index, one, n more, and two
parts : (ws : List ℕ) (at n : ℕ) → length ws ≡ at + 1 + n + 2
    → take at ws ++ word ws at ∷ take n (drop (at + 1) ws) ++ word ws (at + 1 + n) ∷ word ws (at + 1 + n + 1) ∷ [] ≡ ws
parts ws at n e =
    let k : ℕ = at + 1 + n in
    let one : k + 1 ≡ suc k = omega arith in
    let all : length ws ≤ suc (suc k) = omega arith in
    ap (λ (l : List ℕ). l ++ word ws k ∷ word ws (k + 1) ∷ []) (one_more ws at n (omega arith))
    ∙ sym (append_snoc (take k ws) (word ws k) (word ws (k + 1) ∷ []))
    ∙ ap (λ (l : List ℕ). l ++ word ws (k + 1) ∷ []) (sym (take-suc ws k 0 (omega arith)))
    ∙ ap (λ (j : ℕ). take (suc k) ws ++ word ws j ∷ []) one
    ∙ sym (take-suc ws (suc k) 0 (omega arith))
    ∙ take_all (suc (suc k)) ws all

-- ---- an accepted file
module _ (ws : List ℕ) (odd : Bool) (e : (file_checked ws odd).number ≡ 0) where
  abbrev at : ℕ
  at = network_end ws

  abbrev begun : File
  begun = begun_file ws

  abbrev rest : List ℕ
  rest = drop at ws

  abbrev table : ℕ
  table = total (network_in ws).sizes

  halves : ((front_checked ws).number ≡ 0) × ((tail_at begun ws at odd).number ≡ 0)
  halves = then_zero (front_checked ws) (tail_at begun ws at odd) (ap (λ (v : Verdict). v.number) (sym (checked_is ws odd)) ∙ e)

  pub front_fine : (front_checked ws).number ≡ 0
  front_fine = halves.0

  ends : ((judged_from after_network begun ws at).number ≡ 0) × ((left_over (at + end after_network begun rest) (length ws) odd).number ≡ 0)
  ends = then_zero (judged_from after_network begun ws at) (left_over (at + end after_network begun rest) (length ws) odd) halves.1

  clean : Clean (earned after_network begun rest) × (at + end after_network begun rest ≤ length ws)
  unfolding judged_from
  clean = done_clean (length ws) (earned after_network begun rest) at (front_good ws front_fine).2 ends.0

  good : Good after_network begun rest
  good = earned_good after_network begun rest clean.0

  over : (length ws ≤ at + end after_network begun rest) × (odd ≡ false)
  over = none_left (at + end after_network begun rest) (length ws) odd ends.1

  pub long : length ws ≡ at + 1 + table + 2
  long = le_antisymm over.0 clean.1 ∙ tail_end ws begun at

  image_count : word ws at ≡ table
  unfolding Good image_section
  image_count = word_here ws at ∙ eqb-true (first_of rest) table good.0

  after_image : first_of (section_rest image_section begun rest) ≡ word ws (at + 1 + table)
  after_image = ap first_of (rest_is ws begun at) ∙ sym (word_here ws (at + 1 + table))

  run_count : word ws (at + 1 + table) ≡ 1
  unfolding Good run_section
  run_count = sym after_image ∙ eqb-true (first_of (section_rest image_section begun rest)) 1 good.2.0

  scans_range : (1 ≤ (file_in ws).run) × ((file_in ws).run ≤ most_scans)
  unfolding Good Clean run_section
  scans_range =
      subst (λ (n : ℕ). (1 ≤ n) × (n ≤ most_scans)) (sym (run_at ws))
      (count_of most_scans (first_of (drop 1 (section_rest image_section begun rest))) 3 (λ q. omega arith) good.2.1.0)

  same_table : table_words (file_in ws) ≡ table
  same_table = ap (λ (net : Network). total net.sizes) (network_is ws)

  spelled : file_words (has_level (first_of ws)) (file_in ws) ≡ ws
  unfolding file_words
  spelled =
      let shown : List ℕ = take table (drop (at + 1) ws) in
      let scans : ℕ = word ws (at + 1 + table + 1) in
      ap₂ (λ (net : Network) (l : List ℕ). words_of (has_level (first_of ws)) net ++ total net.sizes ∷ l ++ 1 ∷ (file_in ws).run ∷ []) (network_is ws) (image_is ws)
      ∙ ap₂ (λ (l : List ℕ) (n : ℕ). l ++ table ∷ shown ++ 1 ∷ n ∷ []) (front_words ws front_fine) (run_is ws)
      ∙ ap₂ (λ (c d : ℕ). take at ws ++ c ∷ shown ++ d ∷ scans ∷ []) (sym image_count) (sym run_count)
      ∙ parts ws at table long

  pub accepted_sound : SoundFile ws odd
  accepted_sound = record {
    file = record {
      network = subst GoodNetwork (sym (network_is ws)) (front_good ws front_fine).1;
      image =
          ap length (image_is ws)
          ∙ length-take-le table (drop (at + 1) ws) (omega (arith, long, length-drop (at + 1) ws))
          ∙ sym same_table;
      run_low = scans_range.0;
      run_high = scans_range.1;
    };
    words = spelled;
    even = over.1;
  }

-- ---- the words of a good file
module _ (with_level : Bool) (f : File) (s : Spellable with_level f.network) (g : GoodFile f) where
  abbrev table_of : ℕ
  table_of = table_words f

  abbrev run_words : List ℕ
  run_words = 1 ∷ f.run ∷ []

  abbrev after : List ℕ
  after = table_of ∷ f.image ++ run_words

  abbrev words : List ℕ
  words = words_of with_level f.network ++ after

  abbrev last : ℕ
  last = length (words_of with_level f.network)

  abbrev alone : File
  alone = record { network = f.network; image = []; run = 0 }

  tail_is : drop last words ≡ after
  tail_is = drop-append_seam (words_of with_level f.network) after

  run_is_there : section_rest image_section alone after ≡ run_words
  unfolding section_earns image_section
  run_is_there = drop_at (table_of ∷ f.image) run_words (suc (length (replicate {A = ℕ} table_of 0))) (ap suc (g.image ∙ sym (length-replicate {A = ℕ} table_of 0)))

  zeros : (n : ℕ) → Clean (replicate n 0)
  unfolding Clean
  zeros zero = tt
  zeros (suc n) = (refl, zeros n)

  image_good : (r : List ℕ) → r ≡ run_words → (eqb (first_of r) 1 ≡ true) × Clean (counted most_scans (first_of (drop 1 r)) 3 ∷ [])
  unfolding Clean
  image_good r e =
      subst (λ (l : List ℕ). (eqb (first_of l) 1 ≡ true) × Clean (counted most_scans (first_of (drop 1 l)) 3 ∷ [])) (sym e)
      (refl, (counted_in most_scans f.run 3 g.run_low g.run_high, tt))

  tail_good : Good after_network alone (drop last words)
  unfolding Good image_section run_section
  tail_good =
      let there = image_good (section_rest image_section alone after) run_is_there in
      subst (Good after_network alone) (sym tail_is)
      (eq-eqb table_of table_of refl, zeros table_of, (there.0, there.1, tt))

  whole_long : last + end after_network alone (drop last words) ≡ length words
  whole_long =
      tail_end words alone last
      ∙ omega (arith, length-append (words_of with_level f.network) after, length-append (table_of ∷ f.image) run_words, g.image)

  tail_done : tail_at alone words last false ≡ done
  unfolding judged_from
  tail_done =
      let both : Verdict = judged_from after_network alone words last in
      let fine : both ≡ done =
      clean_done (length words) (earned after_network alone (drop last words)) last
      (good_earned after_network alone (drop last words) tail_good) (omega (arith, whole_long)) in
      then_next both (left_over (last + end after_network alone (drop last words)) (length words) false) (ap (λ (v : Verdict). v.number) fine)
      ∙ none_over (last + end after_network alone (drop last words)) (length words) (omega (arith, whole_long))

  pub good_file_done : file_checked (file_words with_level f) false ≡ done
  unfolding file_words
  good_file_done =
      let fine : front_checked words ≡ done = good_front_done after f.network with_level s g.network in
      let rest_of : Network → ℕ → Verdict = λ net k. tail_at (record { network = net; image = []; run = 0 }) words k false in
      ap (λ (l : List ℕ). file_checked l false) (append_assoc (words_of with_level f.network) (table_of ∷ f.image) run_words)
      ∙ checked_is words false
      ∙ then_next (front_checked words) (tail_at (begun_file words) words (network_end words) false) (ap (λ (v : Verdict). v.number) fine)
      ∙ ap₂ rest_of (spells_front after f.network with_level s) (end_front after f.network with_level)
      ∙ tail_done

pub accepts_files : AcceptsFiles
accepts_files ws odd = (
  accepted_sound ws odd,
  λ s.
      ap₂ (λ (l : List ℕ) (b : Bool). (file_checked l b).number) (sym s.words) s.even
      ∙ ap (λ (v : Verdict). v.number) (good_file_done (has_level (first_of ws)) (file_in ws) (subst (Spellable (has_level (first_of ws))) (sym (network_is ws)) (spellable ws)) s.file),
)

-- a verdict of number 0 is done
pub accepted_done : (ws : List ℕ) (odd : Bool) → (file_checked ws odd).number ≡ 0 → file_checked ws odd ≡ done
unfolding file_checked
accepted_done ws odd e = whole_done file_sections no_file ws odd e

pub front_opens : FrontOpens
front_opens ws odd s = network_opens ws (front_fine ws odd ((accepts_files ws odd).1 s))

pub no_longer : NoLonger
no_longer ws odd s =
    let e = (accepts_files ws odd).1 s in
    let good = (front_good ws (front_fine ws odd e)).1 in
    omega (arith, long ws odd e, end_is ws, count_is ws, areas_few ws, good.few, good.areas.coils, good.areas.discretes, good.areas.inputs, good.areas.holding)
