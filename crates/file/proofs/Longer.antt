-- A file that is too long is refused by its front, and no place is past the word after the longest file. Two lists of words that agree
-- on as many words as the longest file has and one more, and have as many, are judged alike: the areas and the run look at their own
-- words, the blocks at 15 words each, of which there are at most 128, and the image's words earn nothing. Assumes nothing.
use mathlib.Core.Path.{◌≡◌, refl, sym, ap, ap₂, ◌∙◌}
use mathlib.Core.Bool.{Bool, true, false, cond, ◌||◌}
use mathlib.Core.List.{List, [], ◌∷◌, ◌++◌}
use Prim.Native.Nat.{ℕ, zero, suc, ◌+◌, ◌*◌, ◌≤◌, ◌<◌}
use native.Mathlib.Decide.{dec_le, dec_lt, ℕ_discrete}
use native.Mathlib.Nat.{lt_of_not-le}
use native.Mathlib.Omega.{arith}
use borrow.Author.Tests.{lt-leb}
use lib.Dec.{leb, ltb, eqb}
use lib.ListN.{length, take, drop, replicate, length-append, length-replicate}
use lib.Seq.{get_or-take, get_or-drop, length-take-le}
use Rattle.verdict.specs.Verdict.{Verdict, verdict, done, then}
use Rattle.section.specs.Limit.{counted}
use Rattle.section.specs.Walk.{word, first_of, seek, left_over}
use Rattle.section.specs.Section.{section_earns, earned, end, judged_from, front, records_earn}
use Rattle.section.proofs.Walk.{then_first, then_next, le_of_not_lt, seek_missing, seek_fault, seek_next, seek_none, turn_refused, turn_passed, turn_last}
use Rattle.section.proofs.Records.{words_count}
use Rattle.section.proofs.Sections.{some_over}
use Rattle.table.specs.declared.sizes.Sizes.{Sizes}
use Rattle.table.specs.Table.{total}
use Rattle.record.specs.Record.{record_words, block_in}
use Rattle.rules.specs.Fault.{faults}
use Rattle.areas.specs.Areas.{sizes_faults, has_level, area_count, area_words, areas_section, sizes_of, areas_end, no_sizes}
use Rattle.areas.proofs.Laws.{areas_few, areas_long, areas_alone}
use Rattle.network.specs.Check.{most_blocks, block_faults, blocks_section, network_in, network_end, front_checked}
use Rattle.network.proofs.Good.{front_good}
use Rattle.network.proofs.Networks.{block_faults_long, after_areas, areas_earn, from_count as count_on, earned_is, sizes_is, count_is, end_is}
use Rattle.file.specs.File.{File, table_words, image_section, most_scans, run_section, after_network, file_checked}
use Rattle.file.specs.Sound.{most_words, LongerSame, PlaceLow}
use Rattle.file.proofs.Files.{begun_file, tail_at, checked_is, both_is, tail_end}

-- ---- a network at the front of words is judged by its areas, then by its blocks
module _ (ws : List ℕ) {v : Verdict} (a : v ≡ front (areas_section ∷ []) no_sizes ws) where
  by_areas : v ≡ seek (areas_earn ws) (length ws) 0
  by_areas = a ∙ sym (areas_alone ws)

  areas_refused : (v.number ≡ 0 → ⊥) → v ≡ front_checked ws
  unfolding front_checked judged_from
  areas_refused h =
      turn_refused (length ws) (areas_earn ws) (section_earns blocks_section (after_areas ws) (count_on ws) ++ []) 0 by_areas h
      ∙ ap (λ (l : List ℕ). seek l (length ws) 0) (sym (earned_is ws))

  areas_passed : {w : Verdict} → v.number ≡ 0 → w ≡ seek (section_earns blocks_section (after_areas ws) (count_on ws)) (length ws) (areas_end ws) → w ≡ front_checked ws
  unfolding front_checked judged_from
  areas_passed {w} h f =
      turn_passed (length ws) (areas_earn ws) (section_earns blocks_section (after_areas ws) (count_on ws) ++ []) 0
      by_areas h (omega (arith, areas_long ws)) (f ∙ turn_last (length ws) (section_earns blocks_section (after_areas ws) (count_on ws)) (areas_end ws))
      ∙ ap (λ (l : List ℕ). seek l (length ws) 0) (sym (earned_is ws))

-- ---- a walk over words that are all there does not look at how many there are, and its place is one of theirs
pub walk_same : (fs : List ℕ) (m n i : ℕ) → i + length fs ≤ m → i + length fs ≤ n → seek fs m i ≡ seek fs n i
walk_same [] m n i l u = seek_none m i ∙ sym (seek_none n i)
walk_same (f ∷ fs) m n i l u = elim (ℕ_discrete f 0) [
  | yes z ↦ seek_next m f fs i (omega arith) z ∙ walk_same fs m n (suc i) (omega arith) (omega arith) ∙ sym (seek_next n f fs i (omega arith) z)
  | no z ↦ seek_fault m f fs i (omega arith) z ∙ sym (seek_fault n f fs i (omega arith) z)
]

pub walk_place : (fs : List ℕ) (size i : ℕ) → (seek fs size i).place ≤ i + length fs
walk_place [] size i = omega (arith, ap (λ (v : Verdict). v.place) (seek_none size i))
walk_place (f ∷ fs) size i = elim (dec_lt i size) [
  | yes h ↦ elim (ℕ_discrete f 0) [
    | yes z ↦ omega (arith, ap (λ (v : Verdict). v.place) (seek_next size f fs i h z), walk_place fs size (suc i))
    | no z ↦ omega (arith, ap (λ (v : Verdict). v.place) (seek_fault size f fs i h z))
  ]
  | no h ↦ omega (arith, ap (λ (v : Verdict). v.place) (seek_missing size f fs i (le_of_not_lt h)))
]

then_place : (v w : Verdict) (n : ℕ) → v.place ≤ n → w.place ≤ n → (then v w).place ≤ n
then_place v w n l u = elim (ℕ_discrete v.number 0) [
  | yes z ↦ omega (arith, ap (λ (x : Verdict). x.place) (then_next v w z))
  | no z ↦ omega (arith, ap (λ (x : Verdict). x.place) (then_first v w z))
]

over_place : (last size : ℕ) (odd : Bool) → (left_over last size odd).place ≤ suc last
over_place last size odd = go (ltb last size || odd)
  where
    go : (b : Bool) → (cond b (verdict 11 (suc last)) done).place ≤ suc last
    go true = omega arith
    go false = omega arith

-- ---- words that agree
abbrev Agree : ℕ → List ℕ → List ℕ → Type 0
Agree n a b = (i : ℕ) → i < n → word a i ≡ word b i

agree_from : (k n : ℕ) (a b : List ℕ) → Agree (k + n) a b → Agree n (drop k a) (drop k b)
agree_from k n a b h i l = get_or-drop k a i 0 ∙ h (k + i) (omega arith) ∙ sym (get_or-drop k b i 0)

fewer : {n : ℕ} (m : ℕ) (a b : List ℕ) → m ≤ n → Agree n a b → Agree m a b
fewer m a b l h i u = h i (omega arith)

block_same : (a b : List ℕ) → Agree record_words a b → block_in a ≡ block_in b
unfolding block_in
block_same a b h =
    let two = agree_from 2 13 a b h in
    let four = agree_from 4 11 a b h in
    let six = agree_from 6 9 a b h in
    let eight = agree_from 2 7 (drop 6 a) (drop 6 b) six in
    let ten = agree_from 4 5 (drop 6 a) (drop 6 b) six in
    let twelve = agree_from 12 3 a b h in
    λ i. record {
      kind = h 0 (omega arith) i;
      n = h 1 (omega arith) i;
      top = record { class = two 0 (omega arith) i; number = two 1 (omega arith) i };
      middle = record { class = four 0 (omega arith) i; number = four 1 (omega arith) i };
      inputs = record {
        top = record { code = six 0 (omega arith) i; number = six 1 (omega arith) i };
        middle = record { code = eight 0 (omega arith) i; number = eight 1 (omega arith) i };
        bottom = record { code = ten 0 (omega arith) i; number = ten 1 (omega arith) i };
      };
      coils = record { top = twelve 0 (omega arith) i; middle = twelve 1 (omega arith) i; bottom = twelve 2 (omega arith) i };
    }

records_same : (z : Sizes) (n k : ℕ) (a b : List ℕ) → Agree (record_words * n) a b
    → records_earn record_words (block_faults z) k n a ≡ records_earn record_words (block_faults z) k n b
unfolding records_earn block_faults
records_same z zero k a b h = refl
records_same z (suc n) k a b h =
    ap₂ ◌++◌ (ap (faults z k) (block_same a b (fewer record_words a b (omega arith) h)))
    (records_same z n (suc k) (drop record_words a) (drop record_words b) (agree_from record_words (record_words * n) a b (fewer (record_words + record_words * n) a b (omega arith) h)))

sizes_same : (a b : List ℕ) → Agree 6 a b → sizes_of a ≡ sizes_of b
sizes_same a b h =
    let one = agree_from 1 5 a b h in
    λ i. record {
      coils = one 0 (omega arith) i;
      discretes = one 1 (omega arith) i;
      inputs = one 2 (omega arith) i;
      holding = one 3 (omega arith) i;
      level = cond (has_level (h 0 (omega arith) i)) (one 4 (omega arith) i) 1;
    }

-- ---- the network at the front
areas_same : (a b : List ℕ) → Agree 6 a b → areas_earn a ≡ areas_earn b
unfolding section_earns areas_section
areas_same a b h =
    ap₂ (λ (w : ℕ) (z : Sizes). cond (area_count w) 0 2 ∷ take (area_words w) (sizes_faults z)) (h 0 (omega arith)) (sizes_same a b h)

-- what the blocks' words earn, by the sizes, the count and the words after it
abbrev blocks_by : Sizes → ℕ → List ℕ → List ℕ
blocks_by z count ws = cond (leb count most_blocks) 0 2 ∷ records_earn record_words (block_faults z) 0 count ws

abbrev blocks_earn : List ℕ → List ℕ
blocks_earn ws = section_earns blocks_section (after_areas ws) (drop (areas_end ws) ws)

abbrev blocks_from : ℕ → List ℕ → List ℕ
blocks_from at ws = blocks_by (sizes_of ws) (first_of (drop at ws)) (drop 1 (drop at ws))

blocks_are : (ws : List ℕ) → blocks_earn ws ≡ blocks_from (areas_end ws) ws
unfolding section_earns blocks_section
blocks_are ws = refl

blocks_long : (z : Sizes) (count : ℕ) (ws : List ℕ) → length (blocks_by z count ws) ≡ 1 + record_words * count
blocks_long z count ws = omega (arith, words_count record_words (block_faults z) (block_faults_long z) count 0 ws)

-- a count that is too high is refused whatever follows
too_many : (z : Sizes) (count : ℕ) (ws : List ℕ) (size at : ℕ) → most_blocks < count → at < size → seek (blocks_by z count ws) size at ≡ verdict 2 (suc at)
too_many z count ws size at l u =
    ap (λ (b : Bool). seek (cond b 0 2 ∷ records_earn record_words (block_faults z) 0 count ws) size at) (lt-leb count most_blocks l)
    ∙ seek_fault size 2 (records_earn record_words (block_faults z) 0 count ws) at u (λ e. omega arith)

blocks_place : (z : Sizes) (count : ℕ) (ws : List ℕ) (size at : ℕ) → at ≤ 6 → (seek (blocks_by z count ws) size at).place ≤ 1927
blocks_place z count ws size at few = elim (dec_le count most_blocks) [
  | yes l ↦ omega (arith, walk_place (blocks_by z count ws) size at, blocks_long z count ws)
  | no l ↦ elim (dec_lt at size) [
    | yes u ↦ omega (arith, ap (λ (v : Verdict). v.place) (too_many z count ws size at (lt_of_not-le l) u))
    | no u ↦
        omega (
          arith,
          ap (λ (v : Verdict). v.place) (seek_missing size (cond (leb count most_blocks) 0 2) (records_earn record_words (block_faults z) 0 count ws) at (le_of_not_lt u)),
        )
  ]
]

front_place : (ws : List ℕ) → (front_checked ws).place ≤ 1927
front_place ws =
    let at : ℕ = areas_end ws in
    let areas : Verdict = seek (areas_earn ws) (length ws) 0 in
    let blocks : Verdict = seek (blocks_earn ws) (length ws) at in
    elim (ℕ_discrete areas.number 0) [
      | yes z ↦
          omega (
            arith,
            ap (λ (v : Verdict). v.place) (areas_passed ws (areas_alone ws) z (λ i. blocks)),
            ap (λ (l : List ℕ). (seek l (length ws) at).place) (blocks_are ws),
            blocks_place (sizes_of ws) (first_of (drop at ws)) (drop 1 (drop at ws)) (length ws) at (areas_few ws),
          )
      | no z ↦
          omega (arith, ap (λ (v : Verdict). v.place) (areas_refused ws (areas_alone ws) z), walk_place (areas_earn ws) (length ws) 0, areas_long ws, areas_few ws)
    ]

-- ---- the image and the run: what their words earn, by the words of the image and three words
abbrev tail_by : ℕ → ℕ → ℕ → ℕ → List ℕ
tail_by table x y scans = (cond (eqb x table) 0 2 ∷ replicate table 0) ++ (cond (eqb y 1) 0 2 ∷ counted most_scans scans 3 ∷ [])

tail_long : (table x y scans : ℕ) → length (tail_by table x y scans) ≡ table + 3
tail_long table x y scans =
    length-append (cond (eqb x table) 0 2 ∷ replicate table 0) (cond (eqb y 1) 0 2 ∷ counted most_scans scans 3 ∷ [])
    ∙ omega (arith, length-replicate {A = ℕ} table 0)

tail_earns : (f : File) (ws : List ℕ) (at : ℕ) → let next = at + 1 + table_words f in
    earned after_network f (drop at ws) ≡ tail_by (table_words f) (first_of (drop at ws)) (first_of (drop next ws)) (first_of (drop 1 (drop next ws)))
unfolding section_earns image_section run_section
tail_earns f ws at = both_is ws f at

-- where words are left over, the verdict is by these alone
abbrev tail_verdict : ℕ → ℕ → ℕ → ℕ → ℕ → Verdict
tail_verdict table at x y scans = then (seek (tail_by table x y scans) (at + 1 + table + 2) at) (verdict 11 (suc (at + 1 + table + 2)))

tail_is : (f : File) (ws : List ℕ) (at : ℕ) (odd : Bool) → let next = at + 1 + table_words f in
    next + 2 < length ws → tail_at f ws at odd ≡ tail_verdict (table_words f) at (first_of (drop at ws)) (first_of (drop next ws)) (first_of (drop 1 (drop next ws)))
unfolding judged_from
tail_is f ws at odd l =
    let table : ℕ = table_words f in
    let next : ℕ = at + 1 + table in
    let all : List ℕ = tail_by table (first_of (drop at ws)) (first_of (drop next ws)) (first_of (drop 1 (drop next ws))) in
    let long : length all ≡ table + 3 = tail_long table (first_of (drop at ws)) (first_of (drop next ws)) (first_of (drop 1 (drop next ws))) in
    ap₂ then
    (ap (λ (fs : List ℕ). seek fs (length ws) at) (tail_earns f ws at) ∙ walk_same all (length ws) (next + 2) at (omega arith) (omega arith))
    (ap (λ (k : ℕ). left_over k (length ws) odd) (tail_end ws f at) ∙ some_over (next + 2) (length ws) odd l)

tail_place : (f : File) (ws : List ℕ) (at : ℕ) → (judged_from after_network f ws at).place ≤ at + end after_network f (drop at ws)
unfolding judged_from
tail_place f ws at = walk_place (earned after_network f (drop at ws)) (length ws) at

-- ---- where a network is accepted, the rest of the file lies in the words of the longest one
module _ (ws : List ℕ) (e : (front_checked ws).number ≡ 0) where
  near : network_end ws + 1 + total (network_in ws).sizes + 2 ≤ most_words
  near =
      let good = (front_good ws e).1 in
      omega (arith, end_is ws, count_is ws, areas_few ws, good.few, good.areas.coils, good.areas.discretes, good.areas.inputs, good.areas.holding)

-- ---- two lists of words
module _ (a b : List ℕ) (la : most_words + 1 ≤ length a) (lb : most_words + 1 ≤ length b) (h : Agree (most_words + 1) a b) where
  six : Agree 6 a b
  six = fewer 6 a b (omega arith) h

  same_sizes : sizes_of a ≡ sizes_of b
  same_sizes = sizes_same a b six

  abbrev at : ℕ
  at = areas_end a

  same_at : at ≡ areas_end b
  same_at = ap (λ (count : ℕ). 1 + area_words count) (h 0 (omega arith))

  from_count : Agree 12692 (drop at a) (drop at b)
  from_count = agree_from at 12692 a b (fewer (at + 12692) a b (omega (arith, areas_few a)) h)

  same_areas : seek (areas_earn a) (length a) 0 ≡ seek (areas_earn b) (length b) 0
  same_areas =
      walk_same (areas_earn a) (length a) (length b) 0 (omega (arith, areas_long a, areas_few a)) (omega (arith, areas_long a, areas_few a))
      ∙ ap (λ (fs : List ℕ). seek fs (length b) 0) (areas_same a b six)

  same_blocks : seek (blocks_earn a) (length a) at ≡ seek (blocks_earn b) (length b) (areas_end b)
  same_blocks =
      let count : ℕ = first_of (drop at a) in
      let z : Sizes = sizes_of a in
      let after : List ℕ = drop 1 (drop at a) in
      let after' : List ℕ = drop 1 (drop at b) in
      let same_count : count ≡ first_of (drop at b) = from_count 0 (omega arith) in
      let long = blocks_long z count after in
      let few = areas_few a in
      ap (λ (fs : List ℕ). seek fs (length a) at) (blocks_are a)
      ∙ elim (dec_le count most_blocks) [
        | yes l ↦
            walk_same (blocks_by z count after) (length a) (length b) at (omega (arith, long, few)) (omega (arith, long, few))
            ∙ ap (λ (fs : List ℕ). seek (cond (leb count most_blocks) 0 2 ∷ fs) (length b) at)
            (records_same z count 0 after after' (fewer (record_words * count) after after' (omega arith) (agree_from 1 12691 (drop at a) (drop at b) from_count)))
        | no l ↦
            too_many z count after (length a) at (lt_of_not-le l) (omega (arith, few))
            ∙ sym (too_many z count after' (length b) at (lt_of_not-le l) (omega (arith, few)))
      ]
      ∙ ap₂ (λ (x : Sizes) (n : ℕ). seek (blocks_by x n after') (length b) at) same_sizes same_count
      ∙ ap (λ (k : ℕ). seek (blocks_from k b) (length b) k) same_at
      ∙ sym (ap (λ (fs : List ℕ). seek fs (length b) (areas_end b)) (blocks_are b))

  same_front : front_checked a ≡ front_checked b
  same_front = elim (ℕ_discrete (seek (areas_earn a) (length a) 0).number 0) [
    | yes z ↦
        sym (areas_passed a (areas_alone a) z (λ i. seek (blocks_earn a) (length a) at))
        ∙ same_blocks
        ∙ areas_passed b (areas_alone b) (ap (λ (v : Verdict). v.number) (sym same_areas) ∙ z) (λ i. seek (blocks_earn b) (length b) (areas_end b))
    | no z ↦ sym (areas_refused a (areas_alone a) z) ∙ same_areas ∙ areas_refused b (areas_alone b) (λ q. z (ap (λ (v : Verdict). v.number) same_areas ∙ q))
  ]

  same_end : network_end a ≡ network_end b
  same_end =
      end_is a
      ∙ ap (λ (n : ℕ). at + 1 + record_words * n) (h at (omega (arith, areas_few a)))
      ∙ ap (λ (k : ℕ). k + 1 + record_words * word b k) same_at
      ∙ sym (end_is b)

  same_table : total (network_in a).sizes ≡ total (network_in b).sizes
  same_table = ap total (sizes_is a ∙ same_sizes ∙ sym (sizes_is b))

  -- the word at an index of the longest file
  same_word : (k : ℕ) → k < most_words → first_of (drop k a) ≡ first_of (drop k b)
  same_word k l = agree_from k 1 a b (fewer (k + 1) a b (omega arith) h) 0 (omega arith)

  same_second : (k : ℕ) → k + 1 < most_words → first_of (drop 1 (drop k a)) ≡ first_of (drop 1 (drop k b))
  same_second k l = agree_from 1 1 (drop k a) (drop k b) (agree_from k 2 a b (fewer (k + 2) a b (omega arith) h)) 0 (omega arith)

  same_tail : (odd odd' : Bool) → (front_checked a).number ≡ 0
      → tail_at (begun_file a) a (network_end a) odd ≡ tail_at (begun_file b) b (network_end b) odd'
  same_tail odd odd' e =
      let last : ℕ = network_end a in
      let table : ℕ = total (network_in a).sizes in
      let next : ℕ = last + 1 + table in
      let close = near a e in
      let x = same_word last (omega arith) in
      let y = same_word next (omega arith) in
      let w = same_second next (omega arith) in
      tail_is (begun_file a) a last odd (omega arith)
      ∙ (λ i. tail_verdict table last (x i) (y i) (w i))
      ∙ ap₂ (λ (n k : ℕ). tail_verdict n k (first_of (drop k b)) (first_of (drop (k + 1 + n) b)) (first_of (drop 1 (drop (k + 1 + n) b)))) same_table same_end
      ∙ sym (tail_is (begun_file b) b (network_end b) odd' (omega (arith, same_table, same_end)))

  same_verdict : (odd odd' : Bool) → file_checked a odd ≡ file_checked b odd'
  same_verdict odd odd' =
      let rest : Verdict = tail_at (begun_file a) a (network_end a) odd in
      let rest' : Verdict = tail_at (begun_file b) b (network_end b) odd' in
      checked_is a odd
      ∙ elim (ℕ_discrete (front_checked a).number 0) [
        | yes e ↦
            then_next (front_checked a) rest e
            ∙ same_tail odd odd' e
            ∙ sym (then_next (front_checked b) rest' (ap (λ (v : Verdict). v.number) (sym same_front) ∙ e))
        | no e ↦
            then_first (front_checked a) rest e
            ∙ same_front
            ∙ sym (then_first (front_checked b) rest' (λ q. e (ap (λ (v : Verdict). v.number) same_front ∙ q)))
      ]
      ∙ sym (checked_is b odd')

pub longer_same : LongerSame
longer_same ws odd l =
    let n : ℕ = most_words + 1 in
    let long : length (take n ws) ≡ n = length-take-le n ws l in
    same_verdict ws (take n ws) l (omega (arith, long)) (λ i u. sym (get_or-take n ws i 0 u)) odd false

pub place_low : PlaceLow
place_low ws odd =
    let at : ℕ = network_end ws in
    let f : File = begun_file ws in
    let both : Verdict = judged_from after_network f ws at in
    let over : Verdict = left_over (at + end after_network f (drop at ws)) (length ws) odd in
    elim (ℕ_discrete (front_checked ws).number 0) [
      | yes e ↦
          omega (
            arith,
            ap (λ (v : Verdict). v.place) (checked_is ws odd ∙ then_next (front_checked ws) (then both over) e),
            then_place both over (most_words + 1)
                (omega (arith, tail_place f ws at, tail_end ws f at, near ws e))
                (omega (arith, over_place (at + end after_network f (drop at ws)) (length ws) odd, tail_end ws f at, near ws e)),
          )
      | no e ↦ omega (arith, ap (λ (v : Verdict). v.place) (checked_is ws odd ∙ then_first (front_checked ws) (then both over) e), front_place ws)
    ]
