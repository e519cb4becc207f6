-- The code's tests of a file say what its words earn.
use Rattle.std.proofs.Common.{◌≡◌, ℕ, ◌+◌, ◌<◌, ◌≤◌, List, [], ◌∷◌, refl, sym, ap, ap₂, ◌∙◌, arith, Bool, true, false}
use Rattle.std.specs.Prelude.{suc, cond, ltb, eqb, ◌||◌, Result, Ok, Err, None, length, drop, replicate}
use native.Mathlib.Decide.{dec_lt, dec_le}
use native.Mathlib.Nat.{add-zero, lt_of_not-le}
use native.Mathlib.Numerals.{add-one}
use borrow.Author.Tests.{lt-ltb, le-ltb}
use Rattle.verdict.specs.declared.Fault.TheVariants.{Missing, Limit, LeftOver}
use Rattle.verdict.specs.declared.Refusal.{Refusal}
use Rattle.verdict.specs.Verdict.{Verdict, verdict, done, then, refusal, numbered, said_by, fault_number, and_then}
use Rattle.verdict.proofs.Said.{stops, goes_on, value_is, done_is, says}
use Rattle.section.specs.Limit.{counted, counted_test}
use Rattle.section.specs.Walk.{word, first_of, seek, at_word, reached, left_over}
use Rattle.section.specs.Section.{section_earns, section_spells}
use Rattle.section.proofs.Reaching.{step_at, step_last, counted_number}
use Rattle.section.proofs.Walk.{le_of_not_lt, seek_missing, then_assoc}
use Rattle.section.proofs.Words.{word_here, rest_from, all_there, some_missing}
use Rattle.table.specs.Table.{total}
use Rattle.areas.proofs.Laws.{areas_few}
use Rattle.network.specs.declared.checker.Opened.{Opened}
use Rattle.network.specs.Network.{Network}
use Rattle.network.specs.Check.{network_in, network_end, front_checked, opened_value, leading}
use Rattle.network.specs.Steps.{front_tested}
use Rattle.network.proofs.Good.{front_good}
use Rattle.network.proofs.Networks.{count_is as blocks_count, end_is}
use Rattle.network.proofs.Steps.{front_said}
use Rattle.file.specs.declared.checker.OpenedFile.{OpenedFile}
use Rattle.file.specs.File.{File, table_words, image_section, most_scans, run_section, opened_file, opened_file_value, last_end, largest_table}
use Rattle.file.specs.Steps.{count_test, image_tested, run_tested, tail_tested, file_by, file_tested}
use Rattle.file.proofs.Files.{judged_at, tail_at, begun_file, checked_is, both_judged, tail_end, network_is, run_is}

-- one answer, then another
chain : {A B : Type 0} (r : Result A Refusal) (k : A → Result B Refusal) (v w : Verdict) (x : A) (y : B) → numbered r ≡ said_by v x
    → numbered (k x) ≡ said_by w y → numbered (and_then r k) ≡ said_by (then v w) y
chain (Ok a) k v w x y e f = goes_on a v w x (k a) y e (ap (λ q. numbered (k q)) (value_is a v x e) ∙ f)
chain (Err r) k v w x y e f = stops r v w x y e

count_number : (b : Bool) → fault_number (count_test b) ≡ cond b 0 2
count_number true = refl
count_number false = refl

module _ (ws : List ℕ) (f : File) (at : ℕ) where
  there_said : at < length ws → numbered (cond (ltb (length ws) (at + 1 + table_words f)) (Err (refusal Missing (length ws + 1))) (Ok (tt {0})))
      ≡ said_by (seek (replicate (table_words f) 0) (length ws) (at + 1)) (tt {0})
  there_said l = elim (dec_le (at + 1 + table_words f) (length ws)) [
    | yes u ↦
        ap (λ (b : Bool). numbered (cond b (Err (refusal Missing (length ws + 1))) (Ok tt))) (le-ltb (length ws) (at + 1 + table_words f) u)
        ∙ ap (λ (v : Verdict). said_by v tt) (sym (all_there (length ws) (table_words f) (at + 1) u))
    | no h ↦
        let cut : length ws < at + 1 + table_words f = lt_of_not-le h in
        ap (λ (b : Bool). numbered (cond b (Err (refusal Missing (length ws + 1))) (Ok tt))) (lt-ltb (length ws) (at + 1 + table_words f) cut)
        ∙ says (refusal Missing (length ws + 1)) (seek (replicate (table_words f) 0) (length ws) (at + 1)) tt
        (ap (verdict 1) (add-one (length ws)) ∙ sym (some_missing (length ws) (table_words f) (at + 1) (omega (arith, l)) cut))
  ]

  image_by : numbered (image_tested ws at (table_words f)) ≡ said_by (seek (cond (eqb (word ws at) (table_words f)) 0 2 ∷ replicate (table_words f) 0) (length ws) at) (tt {0})
  image_by = elim (dec_lt at (length ws)) [
    | yes l ↦
        let size : ℕ = length ws in
        let b : Bool = eqb (word ws at) (table_words f) in
        ap (λ (i : ℕ). numbered (and_then (reached (count_test b) size i) (λ (_ : Unit). cond (ltb size (at + 1 + table_words f)) (Err (refusal Missing (size + 1))) (Ok tt)))) (sym (add-zero at))
        ∙ step_at (count_test b) _ (cond b 0 2) (replicate (table_words f) 0) size at 0 tt (count_number b) (λ x e. there_said l)
        ∙ ap (λ (i : ℕ). said_by (seek (cond b 0 2 ∷ replicate (table_words f) 0) size i) tt) (add-zero at)
    | no h ↦
        let size : ℕ = length ws in
        let b : Bool = eqb (word ws at) (table_words f) in
        ap (λ (c : Bool). numbered (and_then (cond c (at_word (count_test b) (at + 1)) (Err (refusal Missing (at + 1)))) (λ (_ : Unit). cond (ltb size (at + 1 + table_words f)) (Err (refusal Missing (size + 1))) (Ok tt)))) (le-ltb at size (le_of_not_lt h))
        ∙ says (refusal Missing (at + 1)) (seek (cond b 0 2 ∷ replicate (table_words f) 0) size at) tt
        (ap (verdict 1) (add-one at) ∙ sym (seek_missing size (cond b 0 2) (replicate (table_words f) 0) at (le_of_not_lt h)))
  ]

  image_said : numbered (image_tested ws at (table_words f)) ≡ said_by (judged_at image_section f ws at) (tt {0})
  unfolding section_earns image_section
  image_said =
      image_by
      ∙ ap (λ (w : ℕ). said_by (seek (cond (eqb w (table_words f)) 0 2 ∷ replicate (table_words f) 0) (length ws) at) tt) (word_here ws at)

  run_said : numbered (run_tested ws at) ≡ said_by (judged_at run_section f ws at) (tt {0})
  unfolding section_earns run_section
  run_said =
      let size : ℕ = length ws in
      let b : Bool = eqb (word ws at) 1 in
      let scans : ℕ = word ws (at + 1) in
      ap (λ (i : ℕ). numbered (and_then (reached (count_test b) size i) (λ (_ : Unit). reached (counted_test most_scans scans Limit) size (at + 1)))) (sym (add-zero at))
      ∙ step_at (count_test b) _ (cond b 0 2) (counted most_scans scans 3 ∷ []) size at 0 tt (count_number b)
      (λ x e. step_last (counted_test most_scans scans Limit) (counted most_scans scans 3) size (at + 1) (counted_number most_scans scans Limit))
      ∙ ap (λ (i : ℕ). said_by (seek (cond b 0 2 ∷ counted most_scans scans 3 ∷ []) size i) tt) (add-zero at)
      ∙ ap₂ (λ (w n : ℕ). said_by (seek (cond (eqb w 1) 0 2 ∷ counted most_scans n 3 ∷ []) size at) tt) (word_here ws at)
      (word_here ws (at + 1) ∙ ap first_of (rest_from ws at 1))

over_said : (b : Bool) (n : ℕ) → numbered (cond b (Err (refusal LeftOver (n + 1))) (Ok (tt {0}))) ≡ said_by (cond b (verdict 11 (suc n)) done) (tt {0})
over_said true n = λ i. record { verdict = verdict 11 (add-one n i); value = None }
over_said false n = refl

module _ (ws : List ℕ) (f : File) (at : ℕ) (odd : Bool) where
  tail_said : numbered (tail_tested ws at (table_words f) odd) ≡ said_by (tail_at f ws at odd) (tt {0})
  tail_said =
      let g : File = section_spells image_section f (drop at ws) in
      let next : ℕ = at + 1 + table_words f in
      let over : ℕ → Verdict = λ k. left_over k (length ws) odd in
      chain (image_tested ws at (table_words f)) _ (judged_at image_section f ws at) (then (judged_at run_section g ws next) (over (next + 2))) tt tt (image_said ws f at)
      (chain (run_tested ws next) _ (judged_at run_section g ws next) (over (next + 2)) tt tt (run_said ws g next)
      (over_said (ltb (next + 2) (length ws) || odd) (next + 2)))
      ∙ ap (λ (v : Verdict). said_by v tt)
      (sym (then_assoc (judged_at image_section f ws at) (judged_at run_section g ws next) (over (next + 2)))
      ∙ ap₂ (λ (v : Verdict) (k : ℕ). then v (over k)) (sym (both_judged ws f at)) (sym (tail_end ws f at)))

-- ---- the network at the front, then the rest
pub near : (o : Opened) (ws : List ℕ) → Ok o ≡ front_tested ws → (o.next ≤ last_end) × (total o.sizes ≤ largest_table)
near o ws e =
    let said : numbered (Ok o) ≡ leading ws = ap numbered e ∙ front_said ws in
    let value = value_is o (front_checked ws) (opened_value ws) said in
    let good = (front_good ws (ap (λ (v : Verdict). v.number) (done_is o (front_checked ws) (opened_value ws) said))).1 in (
      omega (arith, ap (λ (x : Opened). x.next) value, end_is ws, blocks_count ws, areas_few ws, good.few),
      omega (arith, ap (λ (x : Opened). total x.sizes) value, good.areas.coils, good.areas.discretes, good.areas.inputs, good.areas.holding),
    )

module _ (ws : List ℕ) (odd : Bool) where
  value_same : file_by ws (opened_value ws) ≡ opened_file_value ws
  value_same = λ i. record {
    network = opened_value ws;
    image = network_end ws + 1;
    words = ap (λ (net : Network). total net.sizes) (sym (network_is ws)) i;
    scans = sym (run_is ws) i;
  }

  pub file_said : numbered (file_tested ws odd) ≡ opened_file ws odd
  file_said =
      let o : Opened = opened_value ws in
      chain (front_tested ws) _ (front_checked ws) (tail_at (begun_file ws) ws (network_end ws) odd) o (file_by ws o) (front_said ws) by_tail
      ∙ ap₂ (λ (v : Verdict) (f : OpenedFile). said_by v f) (sym (checked_is ws odd)) value_same
    where
      by_tail : numbered (and_then (tail_tested ws (network_end ws) (total (network_in ws).sizes) odd) (λ (_ : Unit). Ok (file_by ws (opened_value ws))))
          ≡ said_by (tail_at (begun_file ws) ws (network_end ws) odd) (file_by ws (opened_value ws))
      by_tail =
          by (tail_tested ws (network_end ws) (total (network_in ws).sizes) odd) (tail_at (begun_file ws) ws (network_end ws) odd) (tail_said ws (begun_file ws) (network_end ws) odd)
        where
          by : (r : Result Unit Refusal) (v : Verdict) → numbered r ≡ said_by v (tt {0})
              → numbered (and_then r (λ (_ : Unit). Ok (file_by ws (opened_value ws)))) ≡ said_by v (file_by ws (opened_value ws))
          by (Ok x) v e = ap (λ (u : Verdict). said_by u (file_by ws (opened_value ws))) (sym (done_is x v tt e))
          by (Err r) v e = says r v (file_by ws (opened_value ws)) (ap (λ s. s.verdict) e)
