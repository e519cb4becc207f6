-- The code's tests of a network say what its words earn.
use Rattle.std.proofs.Common.{◌≡◌, ℕ, ◌+◌, ◌-◌, ◌*◌, ◌<◌, ◌≤◌, List, [], refl, sym, ap, ap₂, ◌∙◌, arith, Bool, true, false}
use Rattle.std.specs.Prelude.{cond, zero, suc, ltb, leb, ◌||◌, Result, Ok, Err, None, length, drop}
use Rattle.verdict.specs.declared.Refusal.{Refusal}
use Rattle.verdict.specs.Verdict.{Verdict, verdict, done, refusal, numbered, said_by, fault_number, and_then}
use Rattle.table.specs.declared.sizes.Sizes.{Sizes}
use Rattle.record.specs.Record.{record_words, block_in}
use Rattle.rules.specs.Judge.{tested}
use Rattle.network.specs.declared.checker.Opened.{Opened}
use Rattle.network.specs.Check.{most_blocks, block_faults, front_checked, checked, opened_value}
use Rattle.network.proofs.Networks.{areas_earn, records_at, earned_is, blocks_earn, sizes_is, count_is, end_is, over, checked_is}
use Rattle.verdict.specs.declared.Fault.TheVariants.{LeftOver}
use Rattle.verdict.proofs.Said.{stops, goes_on, value_is}
use Rattle.section.specs.Walk.{word, seek, left_over}
use Rattle.section.specs.Section.{records_earn, judged_from}
use Rattle.section.proofs.Words.{rest_from}
use Rattle.section.proofs.Reaching.{step_at, step_run, step_none}
use Rattle.areas.specs.Areas.{sizes_of, areas_end, areas_tested}
use Rattle.areas.proofs.Laws.{areas_alone, areas_long}
use Rattle.areas.proofs.Tested.{areas_said}
use Rattle.rules.specs.Fault.{faults}
use Rattle.rules.proofs.Faults.{faults_long}
use Rattle.rules.proofs.Tested.{tested_says}
use native.Mathlib.Nat.{add-zero}
use native.Mathlib.Numerals.{add-one}
use mathlib.Core.List.{append-nil}
use Rattle.network.specs.Steps.{records_tested, few_test, opened_by, front_tested, whole_tested}

-- one record, then the others; and none
module _ (z : Sizes) (ws : List ℕ) (from j : ℕ) where
  by_left : (n m : ℕ) → m ≡ suc n → records_tested z ws from j m
      ≡ and_then (tested z j (block_in (drop (from + record_words * j) ws)) (from + record_words * j) (length ws)) (λ (_ : Unit). records_tested z ws from (j + 1) n)
  unfolding records_tested
  by_left n m e = ap (records_tested z ws from j) e

  pub one_record : (n : ℕ) → j < n → records_tested z ws from j (n - j)
      ≡ and_then (tested z j (block_in (drop (from + record_words * j) ws)) (from + record_words * j) (length ws)) (λ (_ : Unit). records_tested z ws from (j + 1) (n - (j + 1)))
  one_record n l = by_left (n - (j + 1)) (n - j) (omega arith)

  pub no_record : (n : ℕ) → n ≤ j → records_tested z ws from j (n - j) ≡ Ok (tt {0})
  unfolding records_tested
  no_record n l = let e : n - j ≡ 0 = omega arith in ap (records_tested z ws from j) e

-- what the records earn
module _ (z : Sizes) (ws : List ℕ) (from : ℕ) where
  records_said : (n j : ℕ) → numbered (records_tested z ws from j n)
      ≡ said_by (seek (records_earn record_words (block_faults z) j n (drop (from + record_words * j) ws)) (length ws) (from + record_words * j)) (tt {0})
  unfolding records_tested records_earn block_faults
  records_said zero j = step_none (length ws) (from + record_words * j) tt
  records_said (suc n) j =
      let i : ℕ = from + record_words * j in
      let next : from + record_words * (j + 1) ≡ i + record_words = omega arith in
      step_run (tested z j (block_in (drop i ws)) i (length ws)) (λ (_ : Unit). records_tested z ws from (j + 1) n) (faults z j (block_in (drop i ws))) _
      (length ws) i (from + record_words * (j + 1)) tt tt (tested_says z j (block_in (drop i ws)) i (length ws))
      (omega (arith, faults_long z j (block_in (drop i ws))))
      (records_said n (j + 1)
      ∙ ap₂ (λ (k : ℕ) (l : List ℕ). said_by (seek (records_earn record_words (block_faults z) k n l) (length ws) (from + record_words * (j + 1))) tt)
      (add-one j) (ap (λ (k : ℕ). drop k ws) next ∙ rest_from ws i record_words))

few_earns : (b : Bool) → fault_number (few_test b) ≡ cond b 0 2
few_earns true = refl
few_earns false = refl

module _ (ws : List ℕ) where
  value_same : opened_by ws (sizes_of ws) ≡ opened_value ws
  value_same = λ i. record { sizes = sym (sizes_is ws) i; count = sym (count_is ws) i; next = sym (end_is ws) i }

  records_all : numbered (records_tested (sizes_of ws) ws (areas_end ws + 1) 0 (word ws (areas_end ws))) ≡ said_by (seek (records_at ws) (length ws) (areas_end ws + 1)) (tt {0})
  records_all =
      records_said (sizes_of ws) ws (areas_end ws + 1) (word ws (areas_end ws)) 0
      ∙ ap (λ (i : ℕ). said_by (seek (records_earn record_words (block_faults (sizes_of ws)) 0 (word ws (areas_end ws)) (drop i ws)) (length ws) i) tt) (add-zero (areas_end ws + 1))

  pub front_said : numbered (front_tested ws) ≡ said_by (front_checked ws) (opened_value ws)
  unfolding front_checked judged_from
  front_said =
      let size = length ws in
      let y = opened_by ws (sizes_of ws) in
      step_run (areas_tested ws) _ (areas_earn ws) _ size 0 (areas_end ws) (sizes_of ws) y
      (areas_said ws ∙ ap (λ (v : Verdict). said_by v (sizes_of ws)) (sym (areas_alone ws))) (omega (arith, areas_long ws))
      (step_at (few_test (leb (word ws (areas_end ws)) most_blocks)) _ (cond (leb (word ws (areas_end ws)) most_blocks) 0 2) (records_at ws) size (areas_end ws) 0 y
      (few_earns (leb (word ws (areas_end ws)) most_blocks))
      (λ x p.
      step_run _ (λ (_ : Unit). Ok y) (records_at ws) [] size (areas_end ws + 1) (areas_end ws + 1 + length (records_at ws)) tt y records_all refl (step_none size _ y)
      ∙ ap (λ (l : List ℕ). said_by (seek l size (areas_end ws + 1)) y) (append-nil (records_at ws)))
      ∙ ap₂ (λ (i : ℕ) (l : List ℕ). said_by (seek l size i) y) (add-zero (areas_end ws))
      (sym (append-nil _ ∙ blocks_earn ws)))
      ∙ ap₂ (λ (l : List ℕ) (o : Opened). said_by (seek l size 0) o) (sym (earned_is ws)) value_same

  over_said : (b : Bool) (n : ℕ) (o : Opened) → numbered (cond b (Err (refusal LeftOver (n + 1))) (Ok o)) ≡ said_by (cond (b || false) (verdict 11 (suc n)) done) o
  over_said true n o = λ i. record { verdict = verdict 11 (add-one n i); value = None }
  over_said false n o = refl

  pub whole_said : numbered (whole_tested ws) ≡ said_by (checked ws) (opened_value ws)
  whole_said = by (front_tested ws) front_said
    where
      by : (r : Result Opened Refusal) → numbered r ≡ said_by (front_checked ws) (opened_value ws)
          → numbered (and_then r (λ (o : Opened). cond (ltb o.next (length ws)) (Err (refusal LeftOver (o.next + 1))) (Ok o))) ≡ said_by (checked ws) (opened_value ws)
      by (Ok o) e =
          goes_on o _ (over ws) _ _ _ e
          (over_said (ltb o.next (length ws)) o.next o
          ∙ ap (λ (q : Opened). said_by (left_over q.next (length ws) false) q) (value_is o (front_checked ws) (opened_value ws) e))
          ∙ ap (λ (v : Verdict). said_by v (opened_value ws)) (sym (checked_is ws))
      by (Err r) e = stops r _ _ _ _ e ∙ ap (λ (v : Verdict). said_by v (opened_value ws)) (sym (checked_is ws))
