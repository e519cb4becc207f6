-- `bench::answer` meets its contract: a refusal's place is a word, an accepted file begins its run on a state of its own, and the start
-- refuses as the check does.
use Rattle.std.proofs.Common.{rules, arith, ◌≡◌, ◌≤◌, ◌+◌, ◌*◌, ◌∙◌, ℕ, Bool, List, ◌++◌, cond, length, take, replicate, refl, sym, ap, ap₂, length-take-le}
use Rattle.std.specs.Prelude.{Ok, Err}
use borrow.Author.Tests.{eq-eqb, ne_eqb}
use lib.ListN.{length-replicate}
use Rattle.verdict.specs.declared.Refusal.{Refusal}
use Rattle.verdict.specs.Verdict.{Verdict, number_of, verdict, Said, numbered}
use Rattle.verdict.proofs.Said.{no_zero}
use Rattle.text.specs.Text.{refusal_line}
use Rattle.verdict.specs.Promise.{Leaves}
use Rattle.file.specs.declared.checker.OpenedFile.{OpenedFile}
use Rattle.file.specs.File.{file_in, file_checked}
use Rattle.file.specs.Start.{started, start_table}
use Rattle.run.specs.Bench.{words_text}
use Rattle.run.specs.Calls.{most_state}
use Rattle.run.proofs.Begun.{began, zero_number, verdict_is, place_small, accepted_even, words_are_its, scans_are_its, count_is_its, few_blocks, state_fits}
use Rattle.run.proofs.Front.{refused_text, accepted_text}
use Rattle.bench.specs.Known.{text_on}
use Rattle.bench.specs.End.{end_of}
use Rattle.bench.specs.declared.{End.TheVariants.Written, End.TheVariants.Refused}
use Rattle.bench.proofs.Printing.{appends_same, begins_same, text_of_file}
use Rattle.bench.proofs.answer.Goals as goal

-- the table has room for any file's state
room : most_state ≤ length {A = ℕ} (replicate 10895 1)
room = omega (arith, length-replicate {A = ℕ} 10895 1)

-- what the start answers and leaves
start_leaves : {answer said : Said OpenedFile} {left table : List ℕ} → answer ≡ said → left ≡ table → Leaves said table answer left
start_leaves e l = record { answers = e; leaves = l }

-- ---- words that are refused
module _ (ws : List ℕ) (odd : Bool) (table : List ℕ) (enough : most_state ≤ length table) (r : Refusal) {begun : List ℕ} (h : Leaves (started ws odd (length table)) (start_table ws odd table) (numbered (Err r)) begun) where
  checked : verdict (number_of r.fault) r.place ≡ file_checked ws odd
  checked = verdict_is ws odd table enough h

  bad : (file_checked ws odd).number ≡ 0 → ⊥
  bad zero = no_zero r.fault (ap (λ (v : Verdict). v.number) checked ∙ zero)

  line_is : refusal_line (verdict (number_of r.fault) r.place) ≡ words_text ws odd
  line_is = ap refusal_line checked ∙ sym (refused_text ws odd bad)

  end_refused : Refused ≡ end_of ws odd
  end_refused = sym (ap (λ (b : Bool). cond b Written Refused) (ne_eqb (file_checked ws odd).number 0 bad))

-- ---- words that are accepted: what the run prints on the state that the start leaves is the words' text
module _ (ws : List ℕ) (odd : Bool) (table : List ℕ) (enough : most_state ≤ length table) (f : OpenedFile) {begun : List ℕ} (h : Leaves (started ws odd (length table)) (start_table ws odd table) (numbered (Ok f)) begun) where
  text_of : (size : ℕ) → size ≡ f.network.count → text_on (file_in ws) (take (f.words + size) begun) ≡ words_text ws odd
  text_of size is =
      let zero = zero_number ws odd table enough h refl in
      let (packs, many, state) = began ws odd table enough h refl in
      let same : take (f.words + size) begun ≡ (file_in ws).image ++ packs = ap (λ (n : ℕ). take (f.words + n) begun) is ∙ state in
      ap (text_on (file_in ws)) same ∙ text_of_file ws (accepted_even ws odd table enough h refl) packs many ∙ sym (accepted_text ws odd zero)

  end_written : Written ≡ end_of ws odd
  end_written = sym (ap (λ (b : Bool). cond b Written Refused) (eq-eqb (file_checked ws odd).number 0 (zero_number ws odd table enough h refl)))

pub refuse-requires : goal.refuse-requires
refuse-requires g c = place_small _ _ _ room (start_leaves c.in-Err.ensures.answer c.in-Err.ensures.table)

pub returns-in-Err-clause-end : goal.returns-in-Err-clause-end
returns-in-Err-clause-end g c = end_refused _ _ _ room c.in-Err.refusal (start_leaves c.in-Err.ensures.answer c.in-Err.ensures.table)

pub returns-in-Err-clause-text : goal.returns-in-Err-clause-text
returns-in-Err-clause-text g c =
    appends_same _ _ (line_is _ _ _ room c.in-Err.refusal (start_leaves c.in-Err.ensures.answer c.in-Err.ensures.table)) c.in_ok-refuse-in-Err.ensures.text

pub returns-in_err-refuse-in-Err-clause-text : goal.returns-in_err-refuse-in-Err-clause-text
returns-in_err-refuse-in-Err-clause-text g c =
    let begun = begins_same _ _ (line_is _ _ _ room c.in-Err.refusal (start_leaves c.in-Err.ensures.answer c.in-Err.ensures.table)) c.in_err-refuse-in-Err.ensures.text.0 in
    search rules

pub overflow_add-table : goal.overflow_add-table
overflow_add-table g c =
    let h = start_leaves c.in-Ok.ensures.answer c.in-Ok.ensures.table in
    omega (arith, state_fits _ _ _ room h refl, few_blocks _ _ _ room h refl, c.count-count.ensures, length-replicate {A = ℕ} 10895 1)

pub slice_bounds-table-end : goal.slice_bounds-table-end
slice_bounds-table-end g c =
    let fits = state_fits _ _ _ room (start_leaves c.in-Ok.ensures.answer c.in-Ok.ensures.table) refl in
    omega (arith, fits, c.count-count.ensures, c.start.auto.table)

pub slice_bounds-run-end : goal.slice_bounds-run-end
slice_bounds-run-end g c =
    let fits = state_fits _ _ _ room (start_leaves c.in-Ok.ensures.answer c.in-Ok.ensures.table) refl in
    sym (length-take-le _ _ (omega (arith, fits, c.count-count.ensures, c.start.auto.table)))

pub invariant_of-run : goal.invariant_of-run
invariant_of-run g c =
    let h = start_leaves c.in-Ok.ensures.answer c.in-Ok.ensures.table in
    let counted = c.count-count.ensures ∙ count_is_its _ _ _ room h refl in
    let fits = state_fits _ _ _ room h refl in
    record {
      begun = record {
        accepted = accepted_even _ _ _ room h refl;
        exact = length-take-le _ _ (omega (arith, fits, c.count-count.ensures, c.start.auto.table)) ∙ ap₂ ◌+◌ (words_are_its _ _ _ room h refl) counted;
        all_visits = ap₂ ◌*◌ (scans_are_its _ _ _ room h refl) counted;
      };
    }

pub returns-clause-end : goal.returns-clause-end
returns-clause-end g c = end_written _ _ _ room c.in-Ok.file (start_leaves c.in-Ok.ensures.answer c.in-Ok.ensures.table)

pub returns-clause-text : goal.returns-clause-text
returns-clause-text g c =
    appends_same _ _ (text_of _ _ _ room c.in-Ok.file (start_leaves c.in-Ok.ensures.answer c.in-Ok.ensures.table) c.count-count.result c.count-count.ensures) c.in_ok-print_all.ensures.text

pub returns-in_err-print_all-clause-text : goal.returns-in_err-print_all-clause-text
returns-in_err-print_all-clause-text g c =
    let begun = begins_same _ _ (text_of _ _ _ room c.in-Ok.file (start_leaves c.in-Ok.ensures.answer c.in-Ok.ensures.table) c.count-count.result c.count-count.ensures) c.in_err-print_all.ensures.text.0 in
    search rules
