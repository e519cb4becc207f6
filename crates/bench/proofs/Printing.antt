-- What the calls of a run put, one after the other, and what is put where a write fails.
use Rattle.std.proofs.Common.{refl, arith, ◌≡◌, ℕ, ◌+◌, ◌<◌, ◌≤◌, ◌∙◌, Bool, false, List, ◌++◌, length, take, sym, ap, subst, length-append, append-nil}
use Rattle.std.specs.Prelude.{Option, cond, Result, Ok, Err, IsOk}
use Rattle.std.specs.Io.KnownBytes.{Appends}
use Rattle.std.proofs.KnownBytes.{Appends-trans, Appends-nil}
use Rattle.std.proofs.Math.Seq.{take-append-add, take-append-le}
use Rattle.verdict.specs.Lists.{Words}
use borrow.Author.Tests.{eq-eqb}
use Rattle.verdict.specs.declared.Refusal.{Refusal}
use Rattle.verdict.specs.Promise.{LeavesTwo}
use Rattle.verdict.specs.Verdict.{done}
use Rattle.verdict.proofs.Said.{no_zero}
use Rattle.network.specs.Network.{block_count}
use Rattle.file.specs.File.{file_in, file_checked}
use Rattle.run.specs.Bench.{visit_count, file_text}
use Rattle.run.specs.declared.Page.{Page}
use Rattle.run.specs.Page.{Went, least_room, many, state_words, next_visit, page, went, went_from, run_verdict, run_went, run_state, run_text}
use Rattle.run.proofs.Paging.{left_text, left_first, left_none, page_first, all_left, never_stuck}
use Rattle.bench.specs.Known.{AppendsFront, text_on}

-- ---- the same bytes
pub appends_same : (a b : Option (List ℕ)) {xs ys : List ℕ} → xs ≡ ys → Appends a b xs → Appends a b ys
appends_same a b same p = subst (Appends a b) same p

pub begins_same : (a b : Option (List ℕ)) {xs ys : List ℕ} → xs ≡ ys → AppendsFront a b xs → AppendsFront a b ys
begins_same a b same p = subst (AppendsFront a b) same p

pub nothing_yet : (a : Option (List ℕ)) (text : List ℕ) → AppendsFront a a text
nothing_yet a text = (0, omega arith, Appends-nil a)

-- a beginning of what comes after the bytes that are there
pub begins_after : (a b c : Option (List ℕ)) (there part rest : List ℕ) {text : List ℕ} → there ++ (part ++ rest) ≡ text → Appends a b there → AppendsFront b c part → AppendsFront a c text
begins_after a b c there part rest {text} all p q =
    let n = q.0 in
    let front : take (length there + n) text ≡ there ++ take n part =
    ap (take (length there + n)) (sym all) ∙ take-append-add there (part ++ rest) n ∙ ap (λ (x : List ℕ). there ++ x) (take-append-le n part rest q.1) in
    (length there + n, omega (arith, q.1, sym (ap length all), length-append there (part ++ rest), length-append part rest), subst (Appends a c) (sym front) (Appends-trans a b c _ _ p q.2))

-- ---- the calls of a run
-- one of a run that has begun, with the least room, is not refused

pub never_refused : (ws : Words) → (file_checked ws false).number ≡ 0 → (state : List ℕ) → length state ≡ state_words (file_in ws) → (from : ℕ) → from ≤ visit_count (file_in ws)
    → (room : ℕ) → least_room ≤ room → (r : Result Page Refusal) → went_from from r ≡ run_went ws state from room → IsOk r
unfolding run_went
never_refused ws fine state long from high room enough (Ok page) e = refl
never_refused ws fine state long from high room enough (Err refusal) e =
    absurd
    (no_zero refusal.fault
    (ap (λ (w : Went). w.verdict.number) e
    ∙ ap (λ (a : Bool). (cond a (went done (next_visit (file_in ws) (from + many (file_in ws) state from room)) (length (page ws state from room))) (went (run_verdict ws (length state) from room) from 0)).verdict.number)
    (eq-eqb (run_verdict ws (length state) from room).number 0 (never_stuck ws fine state long from high room enough).0)))

-- what its page says
pub page_says : (ws state : List ℕ) (from room : ℕ) {r : Result Page Refusal} {p : Page} → r ≡ Ok p → went_from from r ≡ run_went ws state from room → went done p.next p.bytes ≡ run_went ws state from room
page_says ws state from room is e = ap (went_from from) (sym is) ∙ e

pub page_leaves : (ws state left text after : List ℕ) (from : ℕ) {r : Result Page Refusal} {p : Page} → r ≡ Ok p → went_from from r ≡ run_went ws state from (length text)
    → left ≡ run_state ws state from (length text) → after ≡ run_text ws state from text
    → LeavesTwo (run_went ws state from (length text)) (run_state ws state from (length text)) (run_text ws state from text) (went done p.next p.bytes) left after
page_leaves ws state left text after from is e s t = record { answers = page_says ws state from (length text) is e; leaves_one = s; leaves_other = t }

-- what they have put, with what is left, is what is put from visit 0 on
abbrev pub Going : Words → List ℕ → List ℕ → ℕ → List ℕ → Type 0
Going ws first state next there = there ++ left_text (file_in ws) state next ≡ left_text (file_in ws) first 0

module _ (ws : Words) (first state : List ℕ) (next : ℕ) (there : List ℕ) (going : Going ws first state next there) where
  -- the next call
  pub goes_on : (file_checked ws false).number ≡ 0 → (text : List ℕ) {left after : List ℕ} {r : Went}
      → LeavesTwo (run_went ws state next (length text)) (run_state ws state next (length text)) (run_text ws state next text) r left after
      → there ++ (take r.bytes after ++ left_text (file_in ws) left r.next) ≡ left_text (file_in ws) first 0
  goes_on fine text s = ap (λ (x : List ℕ). there ++ x) (page_first ws fine state next text s) ∙ going

  -- past the last visit
  pub all_there : visit_count (file_in ws) < next → there ≡ text_on (file_in ws) first
  all_there past = sym (append-nil there) ∙ ap (λ (x : List ℕ). there ++ x) (sym (left_none (file_in ws) state next past)) ∙ going ∙ left_first (file_in ws) first

pub text_of_file : (ws : Words) → (file_checked ws false).number ≡ 0 → (packs : List ℕ) → length packs ≡ block_count (file_in ws).network → text_on (file_in ws) ((file_in ws).image ++ packs) ≡ file_text (file_in ws)
text_of_file ws fine packs many = sym (left_first (file_in ws) ((file_in ws).image ++ packs)) ∙ all_left ws fine packs many
