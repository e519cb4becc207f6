-- The calls one after the other: what is still to be printed from a visit on is what a call puts and what is then still to be printed; and
-- a call that has room goes on. Assumes nothing.
use mathlib.Core.Path.{◌≡◌, refl, sym, ap, ap₂, ◌∙◌, subst}
use mathlib.Core.Bool.{Bool, true, false, cond, ◌&&◌}
use mathlib.Core.List.{List, [], ◌++◌, append_assoc, append-nil}
use Prim.Native.Nat.{ℕ, ◌+◌, ◌-◌, ◌≤◌, ◌<◌}
use native.Mathlib.Decide.{ℕ_discrete}
use native.Mathlib.Omega.{arith}
use borrow.Author.Tests.{le-leb, lt-leb, leb-true, eq-eqb, ne_eqb, eqb-true}
use lib.Dec.{leb, eqb}
use lib.ListN.{length, take, drop, length-append, length-drop, replicate, length-replicate}
use lib.Seq.{take-append_seam}
use Rattle.verdict.specs.Promise.{LeavesTwo}
use Rattle.verdict.specs.Verdict.{Verdict, verdict, done}
use Rattle.network.specs.Network.{Network, block_count}
use Rattle.file.specs.File.{File, table_words, file_in, file_checked}
use Rattle.file.specs.Sound.{SoundFile}
use Rattle.file.proofs.Accepted.{accepts_files}
use Rattle.text.specs.Text.{head_line, end_line, longest_line}
use Rattle.text.proofs.Laying.{head_few}
use Rattle.run.specs.Visits.{visits_state, visits_lines}
use Rattle.run.specs.Bench.{visit_count, file_text}
use Rattle.run.specs.Page.{Went, least_room, many, state_words, first_line, next_visit, page, run_verdict, run_lines, went, run_went, run_state, run_text}
use Rattle.run.specs.Calls.{Pages, PagesArePrinted, NeverStuck}
use Rattle.run.specs.Calls.Pages.{no_more, one_more}
use Rattle.run.proofs.Visiting.{lines_join}
use Rattle.run.proofs.Fitting.{fits_few, fits_some}
use Rattle.run.proofs.ByScans.{run_by_scans}

-- ---- how many visits: no more than are left, and with the least room at least one of them
module _ (f : File) (state : List ℕ) (from room : ℕ) where
  first_short : (a : Bool) → length (cond a (head_line (block_count f.network) (table_words f)) []) ≤ longest_line
  first_short true = head_few (block_count f.network) (table_words f)
  first_short false = omega arith

  pub many_few : many f state from room ≤ visit_count f - from
  many_few = fits_few f.network from (visit_count f - from) state (room - longest_line - length (first_line f from))

  pub many_some : least_room ≤ room → 1 ≤ visit_count f - from → 1 ≤ many f state from room
  many_some l u =
      fits_some f.network from (visit_count f - from) state (room - longest_line - length (first_line f from)) (omega (arith, l, first_short (eqb from 0))) u

-- ---- where to go on
module _ (f : File) where
  pub next_done : (next : ℕ) → next ≡ visit_count f → next_visit f next ≡ next + 1
  next_done next e = ap (λ (a : Bool). cond a (next + 1) next) (eq-eqb next (visit_count f) e)

  pub next_open : (next : ℕ) → (next ≡ visit_count f → ⊥) → next_visit f next ≡ next
  next_open next h = ap (λ (a : Bool). cond a (next + 1) next) (ne_eqb next (visit_count f) h)

module _ (f : File) where
  abbrev net : Network
  net = f.network

  -- what is still to be printed from a visit on
  abbrev the_rest : List ℕ → ℕ → List ℕ
  the_rest state from = first_line f from ++ visits_lines net from (visit_count f - from) state ++ end_line f.run

  pub left_text : List ℕ → ℕ → List ℕ
  left_text state from = cond (leb from (visit_count f)) (the_rest state from) []

  left_some : (state : List ℕ) (from : ℕ) → from ≤ visit_count f → left_text state from ≡ the_rest state from
  unfolding left_text
  left_some state from l = ap (λ (a : Bool). cond a (the_rest state from) []) (le-leb from (visit_count f) l)

  pub left_none : (state : List ℕ) (from : ℕ) → visit_count f < from → left_text state from ≡ []
  unfolding left_text
  left_none state from l = ap (λ (a : Bool). cond a (the_rest state from) []) (lt-leb from (visit_count f) l)

  -- from visit 0 on
  pub left_first : (state : List ℕ) → left_text state 0 ≡ head_line (block_count net) (table_words f) ++ visits_lines net 0 (visit_count f) state ++ end_line f.run
  left_first state =
      let n : visit_count f - 0 ≡ visit_count f = omega arith in
      left_some state 0 (omega arith) ∙ ap (λ (k : ℕ). first_line f 0 ++ visits_lines net 0 k state ++ end_line f.run) n

  -- after the first visit there is no first line
  no_first : (from : ℕ) → 0 < from → first_line f from ≡ []
  no_first from l = ap (λ (a : Bool). cond a (head_line (block_count net) (table_words f)) []) (ne_eqb from 0 (λ e. omega arith))

  -- a call's lines, then what is left after them
  page_left : (state : List ℕ) (from m : ℕ) → from ≤ visit_count f → m ≤ visit_count f - from → (1 ≤ visit_count f - from → 1 ≤ m)
      → run_lines f state from m ++ left_text (visits_state net from m state) (next_visit f (from + m)) ≡ left_text state from
  unfolding run_lines
  page_left state from m high few some = elim (ℕ_discrete (from + m) (visit_count f)) [
    | yes e ↦
        let n : m ≡ visit_count f - from = omega arith in
        ap₂ (λ (x y : List ℕ). (first_line f from ++ visits_lines net from m state ++ x) ++ y)
        (ap (λ (a : Bool). cond a (end_line f.run) []) (eq-eqb (from + m) (visit_count f) e))
        (left_none (visits_state net from m state) (next_visit f (from + m)) (omega (arith, next_done f (from + m) e, e)))
        ∙ append-nil (first_line f from ++ visits_lines net from m state ++ end_line f.run)
        ∙ ap (λ (k : ℕ). first_line f from ++ visits_lines net from k state ++ end_line f.run) n
        ∙ sym (left_some state from high)
    | no e ↦
        let more : List ℕ = visits_lines net (from + m) (visit_count f - (from + m)) (visits_state net from m state) in
        let below : from + m ≤ visit_count f = omega arith in
        let rest : 1 ≤ m = some (omega (arith, e)) in
        let n : m + (visit_count f - (from + m)) ≡ visit_count f - from = omega arith in
        ap₂ (λ (x y : List ℕ). (first_line f from ++ visits_lines net from m state ++ x) ++ y)
        (ap (λ (a : Bool). cond a (end_line f.run) []) (ne_eqb (from + m) (visit_count f) e))
        (ap (left_text (visits_state net from m state)) (next_open f (from + m) e)
        ∙ left_some (visits_state net from m state) (from + m) below ∙ ap (λ (x : List ℕ). x ++ more ++ end_line f.run) (no_first (from + m) (omega (arith, rest))))
        ∙ ap (λ (x : List ℕ). x ++ (more ++ end_line f.run)) (append-nil (first_line f from ++ visits_lines net from m state))
        ∙ sym (append_assoc (first_line f from ++ visits_lines net from m state) more (end_line f.run))
        ∙ ap (λ (x : List ℕ). x ++ end_line f.run) (append_assoc (first_line f from) (visits_lines net from m state) more)
        ∙ ap (λ (x : List ℕ). first_line f from ++ x ++ end_line f.run) (sym (lines_join net from m state (visit_count f - (from + m))) ∙ ap (λ (k : ℕ). visits_lines net from k state) n)
        ∙ sym (left_some state from high)
  ]

-- ---- a call by its verdict
pub by_tests : (ws : List ℕ) (size from room : ℕ) (fine long high enough : Bool) → eqb (file_checked ws false).number 0 ≡ fine → eqb size (state_words (file_in ws)) ≡ long → leb from (visit_count (file_in ws)) ≡ high
    → leb least_room room ≡ enough → run_verdict ws size from room ≡ cond fine (cond (long && (high && enough)) done (verdict 12 0)) (file_checked ws false)
unfolding run_verdict
by_tests ws size from room fine long high enough a b c d i = cond (a i) (cond (b i && (c i && d i)) done (verdict 12 0)) (file_checked ws false)

passed : (b c d : Bool) → (cond (b && (c && d)) done (verdict 12 0)).number ≡ 0 → (c ≡ true) × (d ≡ true)
passed true true true q = (refl, refl)
passed true true false q = absurd (omega arith)
passed true false d q = absurd (omega arith)
passed false c d q = absurd (omega arith)

module _ (ws : List ℕ) (fine : (file_checked ws false).number ≡ 0) where
  abbrev f : File
  f = file_in ws

  sound : SoundFile ws false
  sound = (accepts_files ws false).0 fine

  -- a call that is not refused is asked for one of the file's visits, or for the end, and has the least room
  goes : (state : List ℕ) (from : ℕ) (text : List ℕ) → (run_verdict ws (length state) from (length text)).number ≡ 0 → (from ≤ visit_count f) × (least_room ≤ length text)
  goes state from text h =
      let p = passed (eqb (length state) (state_words f)) (leb from (visit_count f)) (leb least_room (length text))
      (sym (ap (λ (v : Verdict). v.number) (by_tests ws (length state) from (length text) true _ _ _ (eq-eqb (file_checked ws false).number 0 fine) refl refl refl)) ∙ h) in
      (leb-true from (visit_count f) p.0, leb-true least_room (length text) p.1)

  -- one call, and the calls after it
  module _ (state : List ℕ) (from : ℕ) (text : List ℕ) {left after rest : List ℕ} {r : Went}
      (s : LeavesTwo (run_went ws state from (length text)) (run_state ws state from (length text)) (run_text ws state from text) r left after)
      (then : rest ≡ left_text f left r.next) where
    abbrev m : ℕ
    m = many f state from (length text)

    lines : List ℕ
    lines = page ws state from (length text)

    one_call : (a : Bool) → eqb (run_verdict ws (length state) from (length text)).number 0 ≡ a → take r.bytes after ++ rest ≡ left_text f state from
    unfolding run_went run_state run_text lines
    one_call true e =
        let g = goes state from text (eqb-true (run_verdict ws (length state) from (length text)).number 0 e) in
        let answer : r ≡ went done (next_visit f (from + m)) (length lines) =
        s.answers ∙ ap (λ (a : Bool). cond a (went done (next_visit f (from + m)) (length lines)) (went (run_verdict ws (length state) from (length text)) from 0)) e in
        let there : left ≡ visits_state f.network from m state = s.leaves_one ∙ ap (λ (a : Bool). cond a (visits_state f.network from m state) state) e in
        let put : after ≡ lines ++ drop (length lines) text = s.leaves_other ∙ ap (λ (a : Bool). cond a (lines ++ drop (length lines) text) text) e in
        ap₂ (λ (k : ℕ) (x : List ℕ). take k x ++ rest) (ap (λ (w : Went). w.bytes) answer) put
        ∙ ap₂ ◌++◌ (take-append_seam lines (drop (length lines) text)) (then ∙ ap₂ (left_text f) there (ap (λ (w : Went). w.next) answer))
        ∙ page_left f state from m g.0 (many_few f state from (length text)) (many_some f state from (length text) g.1)
    one_call false e =
        let v : Verdict = run_verdict ws (length state) from (length text) in
        let answer : r ≡ went v from 0 = s.answers ∙ ap (λ (a : Bool). cond a (went done (next_visit f (from + m)) (length lines)) (went v from 0)) e in
        let there : left ≡ state = s.leaves_one ∙ ap (λ (a : Bool). cond a (visits_state f.network from m state) state) e in
        ap (λ (k : ℕ). take k after ++ rest) (ap (λ (w : Went). w.bytes) answer) ∙ then ∙ ap₂ (left_text f) there (ap (λ (w : Went). w.next) answer)

  all_pages : {state : List ℕ} {from : ℕ} {out : List ℕ} → Pages ws state from out → out ≡ left_text f state from
  all_pages {state} {from} (no_more h) = sym (left_none f state from h)
  all_pages {state} {from} (one_more text s more) = one_call state from text s (all_pages more) (eqb (run_verdict ws (length state) from (length text)).number 0) refl

  -- a call puts the first of what is left
  pub page_first : (state : List ℕ) (from : ℕ) (text : List ℕ) {left after : List ℕ} {r : Went} → LeavesTwo (run_went ws state from (length text)) (run_state ws state from (length text)) (run_text ws state from text) r left after
      → take r.bytes after ++ left_text f left r.next ≡ left_text f state from
  page_first state from text s = one_call state from text s refl (eqb (run_verdict ws (length state) from (length text)).number 0) refl

  -- from visit 0 on it is all, whatever stands after the image
  pub all_left : (packs : List ℕ) → length packs ≡ block_count f.network → left_text f (f.image ++ packs) 0 ≡ file_text f
  unfolding file_text
  all_left packs l =
      let n : visit_count f - 0 ≡ visit_count f = omega arith in
      let by = run_by_scans f.network sound.file.network f.image in
      left_some f (f.image ++ packs) 0 (omega arith)
      ∙ ap (λ (k : ℕ). first_line f 0 ++ visits_lines f.network 0 k (f.image ++ packs) ++ end_line f.run) n
      ∙ ap (λ (x : List ℕ). first_line f 0 ++ x ++ end_line f.run)
      (by packs sound.file.image l f.run
      ∙ sym (by (replicate (block_count f.network) 0) sound.file.image (length-replicate (block_count f.network) 0) f.run))

pub pages_are_printed : PagesArePrinted
pages_are_printed ws fine packs l out p = all_pages ws fine p ∙ all_left ws fine packs l

-- ---- with the least room a call goes on
pub never_stuck : NeverStuck
unfolding run_went
never_stuck ws fine state long from high room l = (ap (λ (v : Verdict). v.number) taken, subst (λ (w : Went). from < w.next) (sym goes_on) further)
  where
    f : File
    f = file_in ws

    m : ℕ
    m = many f state from room

    taken : run_verdict ws (length state) from room ≡ done
    taken =
        by_tests ws (length state) from room true true true true (eq-eqb (file_checked ws false).number 0 fine) (eq-eqb (length state) (state_words f) long)
        (le-leb from (visit_count f) high) (le-leb least_room room l)

    goes_on : run_went ws state from room ≡ went done (next_visit f (from + m)) (length (page ws state from room))
    goes_on = ap (λ (v : Verdict). cond (eqb v.number 0) (went done (next_visit f (from + m)) (length (page ws state from room))) (went v from 0)) taken

    further : from < next_visit f (from + m)
    further = elim (ℕ_discrete (from + m) (visit_count f)) [
      | yes e ↦ omega (arith, next_done f (from + m) e)
      | no e ↦ omega (arith, next_open f (from + m) e, many_some f state from room l (omega (arith, e, high, many_few f state from room)))
    ]

-- ---- what the program may rely on

-- with the least room a call goes further
pub goes_further : (ws : List ℕ) → (file_checked ws false).number ≡ 0 → (state : List ℕ) → length state ≡ state_words (file_in ws) → (from : ℕ) → from ≤ visit_count (file_in ws)
    → (room : ℕ) → least_room ≤ room → {r : Went} → r ≡ run_went ws state from room → from < r.next
goes_further ws fine state long from high room l e =
    subst (λ (w : Went). from < w.next) (sym e) (never_stuck ws fine state long from high room l).1

-- what a call puts is in its buffer
pub bytes_fit : (ws state : List ℕ) (from : ℕ) (text : List ℕ) {r : Went} {after : List ℕ} → r ≡ run_went ws state from (length text) → after ≡ run_text ws state from text
    → length after ≡ length text → r.bytes ≤ length text
unfolding run_went run_text
bytes_fit ws state from text {r} {after} e put long = go (eqb (run_verdict ws (length state) from (length text)).number 0) refl
  where
    lines : List ℕ
    lines = page ws state from (length text)

    next : ℕ
    next = next_visit (file_in ws) (from + many (file_in ws) state from (length text))

    go : (a : Bool) → eqb (run_verdict ws (length state) from (length text)).number 0 ≡ a → r.bytes ≤ length text
    go true q =
        let bytes : r.bytes ≡ length lines =
        ap (λ (w : Went). w.bytes) (e ∙ ap (λ (a : Bool). cond a (went done next (length lines)) (went (run_verdict ws (length state) from (length text)) from 0)) q) in
        let all : after ≡ lines ++ drop (length lines) text = put ∙ ap (λ (a : Bool). cond a (lines ++ drop (length lines) text) text) q in
        omega (arith, bytes, ap length all, length-append lines (drop (length lines) text), length-drop (length lines) text, long)
    go false q =
        let bytes : r.bytes ≡ 0 =
        ap (λ (w : Went). w.bytes) (e ∙ ap (λ (a : Bool). cond a (went done next (length lines)) (went (run_verdict ws (length state) from (length text)) from 0)) q) in
        omega (arith, bytes)
