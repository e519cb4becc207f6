-- Count 4 means Level 1: with level 1 among its words a file is the same, one word longer. The sizes are judged alike, the level earns
-- nothing, and all that follows is judged one word later. Assumes nothing.
use mathlib.Core.Path.{◌≡◌, refl, sym, ap, ap₂, ◌∙◌}
use mathlib.Core.Bool.{Bool, true, false, cond, ◌||◌}
use mathlib.Core.List.{List, [], ◌∷◌, ◌++◌}
use Prim.Native.Nat.{ℕ, suc, ◌+◌, ◌≤◌, ◌<◌}
use native.Mathlib.Decide.{dec_le, dec_lt, ℕ_discrete}
use native.Mathlib.Nat.{lt_of_not-le}
use native.Mathlib.Numerals.{add-one}
use native.Mathlib.Omega.{arith}
use borrow.Author.Tests.{le-leb, lt-leb, lt-ltb, le-ltb}
use lib.Dec.{ltb}
use lib.ListN.{length, length-append}
use Rattle.verdict.specs.Verdict.{Verdict, verdict, done, then}
use Rattle.section.specs.Walk.{seek, left_over}
use Rattle.section.specs.Section.{section_earns, earned, meaning, judged_from, whole, lifted}
use Rattle.section.proofs.Walk.{then_first, then_next, le_of_not_lt, seek_missing, seek_fault, seek_next, seek_none, seek_append}
use Rattle.areas.specs.Areas.{sizes_faults, sizes_in, areas_section}
use Rattle.network.specs.Network.{areas_only}
use Rattle.network.specs.Check.{blocks_section}
use Rattle.file.specs.File.{File, network_part, after_network, file_sections, no_file, file_in, file_checked}
use Rattle.file.specs.Sound.{one_later, LevelOne}
use Rattle.file.proofs.Longer.{walk_same, walk_place}

-- ---- a refusal one word later
later_past : (number place : ℕ) → 5 < place → one_later (verdict number place) ≡ verdict number (suc place)
later_past number place l =
    ap (λ (b : Bool). cond b (verdict number place) (verdict number (place + 1))) (lt-leb place 5 l) ∙ ap (verdict number) (add-one place)

later_front : (v : Verdict) → v.place ≤ 5 → one_later v ≡ v
later_front v l = ap (λ (b : Bool). cond b v (verdict v.number (v.place + 1))) (le-leb v.place 5 l)

later_number : (v : Verdict) → (one_later v).number ≡ v.number
later_number v = elim (dec_le v.place 5) [
  | yes l ↦ ap (λ (x : Verdict). x.number) (later_front v l)
  | no l ↦ ap (λ (x : Verdict). x.number) (later_past v.number v.place (lt_of_not-le l))
]

later_then : (v w : Verdict) → then (one_later v) (one_later w) ≡ one_later (then v w)
later_then v w = elim (ℕ_discrete v.number 0) [
  | yes z ↦ then_next (one_later v) (one_later w) (later_number v ∙ z) ∙ ap one_later (sym (then_next v w z))
  | no z ↦ then_first (one_later v) (one_later w) (λ e. z (sym (later_number v) ∙ e)) ∙ ap one_later (sym (then_first v w z))
]

seek_later : (fs : List ℕ) (size i : ℕ) → 5 ≤ i → seek fs (suc size) (suc i) ≡ one_later (seek fs size i)
seek_later [] size i l = seek_none (suc size) (suc i) ∙ ap one_later (sym (seek_none size i))
seek_later (f ∷ fs) size i l = elim (dec_lt i size) [
  | yes h ↦ elim (ℕ_discrete f 0) [
    | yes z ↦ seek_next (suc size) f fs (suc i) (omega arith) z ∙ seek_later fs size (suc i) (omega arith) ∙ ap one_later (sym (seek_next size f fs i h z))
    | no z ↦
        seek_fault (suc size) f fs (suc i) (omega arith) z
        ∙ sym (later_past f (suc i) (omega arith))
        ∙ ap one_later (sym (seek_fault size f fs i h z))
  ]
  | no h ↦
      let u = le_of_not_lt h in
      seek_missing (suc size) f fs (suc i) (omega arith) ∙ sym (later_past 1 (suc i) (omega arith)) ∙ ap one_later (sym (seek_missing size f fs i u))
]

over_later : (last size : ℕ) (odd : Bool) → 5 ≤ last → left_over (suc last) (suc size) odd ≡ one_later (left_over last size odd)
over_later last size odd l =
    ap (λ (b : Bool). cond (b || odd) (verdict 11 (suc (suc last))) done) same ∙ go (ltb last size || odd)
  where
    same : ltb (suc last) (suc size) ≡ ltb last size
    same = elim (dec_lt last size) [
      | yes h ↦ lt-ltb (suc last) (suc size) (omega arith) ∙ sym (lt-ltb last size h)
      | no h ↦ let u = le_of_not_lt h in le-ltb (suc last) (suc size) (omega arith) ∙ sym (le-ltb last size u)
    ]

    go : (b : Bool) → cond b (verdict 11 (suc (suc last))) done ≡ one_later (cond b (verdict 11 (suc last)) done)
    go true = sym (later_past 11 (suc last) (omega arith))
    go false = refl

-- ---- the sections after the areas, which are the same
module _ (coils discretes inputs holding : ℕ) (rest : List ℕ) where
  abbrev short : List ℕ
  short = 4 ∷ coils ∷ discretes ∷ inputs ∷ holding ∷ rest

  abbrev long : List ℕ
  long = 5 ∷ coils ∷ discretes ∷ inputs ∷ holding ∷ 1 ∷ rest

  -- what the count and the sizes earn, and what follows
  abbrev sized : List ℕ
  sized = section_earns areas_section (sizes_in 4 []) short

  begun : File
  begun = record { network = areas_only (sizes_in 4 (coils ∷ discretes ∷ inputs ∷ holding ∷ [])); image = []; run = 0 }

  follows : List ℕ
  follows = earned (lifted network_part blocks_section ∷ after_network) begun rest

  short_earned : earned file_sections no_file short ≡ sized ++ follows
  unfolding earned section_earns areas_section sizes_faults follows begun
  short_earned = refl

  long_earned : earned file_sections no_file long ≡ sized ++ 0 ∷ follows
  unfolding earned section_earns areas_section sizes_faults follows begun
  long_earned = refl

  same_file : file_in long ≡ file_in short
  unfolding file_in meaning section_earns areas_section sizes_faults
  same_file = refl

  -- ---- the verdict: the sizes, then what follows, then what is left over
  sized_long : length sized ≡ 5
  unfolding section_earns areas_section sizes_faults
  sized_long = refl

  first_of_all : Verdict
  first_of_all = seek sized (length short) 0

  sizes_place : first_of_all.place ≤ 5
  unfolding first_of_all
  sizes_place = omega (arith, walk_place sized (length short) 0, sized_long)

  next : Verdict
  next = seek follows (length short) 5

  short_judged : seek (earned file_sections no_file short) (length short) 0 ≡ then first_of_all next
  unfolding first_of_all next
  short_judged =
      ap (λ (fs : List ℕ). seek fs (length short) 0) short_earned
      ∙ seek_append (length short) sized follows 0
      ∙ ap (λ (k : ℕ). then (seek sized (length short) 0) (seek follows (length short) k)) (omega (arith, sized_long))

  long_judged : seek (earned file_sections no_file long) (length long) 0 ≡ one_later (then first_of_all next)
  unfolding first_of_all next
  long_judged =
      ap (λ (fs : List ℕ). seek fs (length long) 0) long_earned
      ∙ seek_append (length long) sized (0 ∷ follows) 0
      ∙ ap₂ then
      (walk_same sized (length long) (length short) 0 (omega (arith, sized_long)) (omega (arith, sized_long)) ∙ sym (later_front first_of_all sizes_place))
      (ap (seek (0 ∷ follows) (length long)) five
      ∙ seek_next (length long) 0 follows 5 (omega arith) refl
      ∙ seek_later follows (length short) 5 (omega arith))
      ∙ later_then first_of_all next
    where
      five : 0 + length sized ≡ 5
      five = omega (arith, sized_long)

  same_refusal : (odd : Bool) → file_checked long odd ≡ one_later (file_checked short odd)
  unfolding file_checked whole judged_from
  same_refusal odd =
      let last : ℕ = length (earned file_sections no_file short) in
      let more : length (earned file_sections no_file long) ≡ suc last = ap length long_earned ∙ grown ∙ ap (λ (fs : List ℕ). suc (length fs)) (sym short_earned) in
      let late : 5 ≤ last = omega (arith, ap length short_earned, length-append sized follows, sized_long) in
      ap₂ (λ (v : Verdict) (k : ℕ). then v (left_over k (length long) odd)) long_judged more
      ∙ ap (then (one_later (then first_of_all next))) (over_later last (length short) odd late)
      ∙ later_then (then first_of_all next) (left_over last (length short) odd)
      ∙ ap (λ (v : Verdict). one_later (then v (left_over last (length short) odd))) (sym short_judged)
    where
      grown : length (sized ++ 0 ∷ follows) ≡ suc (length (sized ++ follows))
      grown = length-append sized (0 ∷ follows) ∙ omega (arith, length-append sized follows)

pub level_one : LevelOne
level_one coils discretes inputs holding rest odd =
    (same_file coils discretes inputs holding rest, same_refusal coils discretes inputs holding rest odd)
