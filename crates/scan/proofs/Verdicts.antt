-- The laws of a scan's verdict: each refusal keeps the table and the outputs, and what is not refused is scanned. `o` is the network's
-- opening.
use mathlib.Core.Path.{◌≡◌, refl, sym, ap, ◌∙◌}
use mathlib.Core.Bool.{Bool, true, false, cond, ◌&&◌}
use mathlib.Core.List.{List}
use Prim.Native.Nat.{ℕ}
use lib.Dec.{eqb, leb}
use lib.ListN.{length}
use Rattle.std.specs.Prelude.{Result, Ok, Err}
use Rattle.verdict.specs.declared.Fault.TheVariants.{Call}
use Rattle.verdict.specs.declared.Refusal.{Refusal}
use Rattle.verdict.proofs.Said.{no_zero, refused_is, done_is, value_is, says, stops}
use Rattle.network.specs.declared.checker.Opened.{Opened}
use Rattle.table.specs.Table.{total}
use Rattle.network.specs.Network.{block_count}
use Rattle.verdict.specs.Verdict.{Verdict, verdict, done, then, number_of, refusal, numbered, said_by}
use Rattle.network.specs.Check.{opened_value, checked, network_in}
use Rattle.scan.specs.Scan.{scan_verdict, scan_table, scan_packed}
use Rattle.scan.specs.Inner.{AllReady, AllRan, fit_test}
use Rattle.scan.proofs.Kept.{checks, exact_table, enough, done_table, done_outputs, table_kept, numbers_kept}

-- the verdict by its tests
pub by_tests : (ws : List ℕ) (size room : ℕ) (fine long enough : Bool) → eqb (checked ws).number 0 ≡ fine → eqb size (total (network_in ws).sizes) ≡ long → leb (block_count (network_in ws)) room ≡ enough
    → scan_verdict ws size room ≡ cond fine (cond (long && enough) done (verdict 12 0)) (checked ws)
unfolding scan_verdict
by_tests ws size room fine long enough p q r i = cond (p i) (cond (q i && r i) done (verdict 12 0)) (checked ws)

-- ---- whether words are admitted, with a table of so many words and a list of so many entries
module _ (ws : List ℕ) (size room : ℕ) where
  pub words_refused : (r : Refusal) → numbered (Err r) ≡ said_by (checked ws) (opened_value ws) → numbered (Err r) ≡ said_by (scan_verdict ws size room) (opened_value ws)
  unfolding scan_verdict
  words_refused r e = stops r (checked ws) _ (opened_value ws) (opened_value ws) e

  module _ (o : Opened) (e : numbered (Ok o) ≡ said_by (checked ws) (opened_value ws)) where
    -- the test goes by the network
    here : o ≡ opened_value ws
    here = value_is o (checked ws) (opened_value ws) e

    fits : Bool
    fits = eqb size (total (network_in ws).sizes) && leb (block_count (network_in ws)) room

    test_is : fit_test o size room ≡ cond fits (Ok tt) (Err (refusal Call 0))
    unfolding fits
    test_is = ap (λ (x : Opened). fit_test x size room) here

    verdict_is : scan_verdict ws size room ≡ cond fits done (verdict 12 0)
    unfolding scan_verdict fits
    verdict_is = ap (λ (v : Verdict). then v (cond fits done (verdict 12 0))) (done_is o (checked ws) (opened_value ws) e)

    pub call_refused : (r : Refusal) → Err r ≡ fit_test o size room → numbered (Err r) ≡ said_by (scan_verdict ws size room) (opened_value ws)
    call_refused r q = says r (scan_verdict ws size room) (opened_value ws) (go fits (q ∙ test_is) ∙ sym verdict_is)
      where
        go : (b : Bool) → ◌≡◌ {A = Result Unit Refusal} (Err r) (cond b (Ok tt) (Err (refusal Call 0))) → verdict (number_of r.fault) r.place ≡ cond b done (verdict 12 0)
        go true p = let z : ◌≡◌ {A = Result Unit Refusal} (Err r) (Ok tt) = p in cc
        go false p = ap (λ (x : Result Unit Refusal). (numbered x).verdict) p

    pub taken : Ok (tt {0}) ≡ fit_test o size room → numbered (Ok o) ≡ said_by (scan_verdict ws size room) (opened_value ws)
    taken q = ap (λ (x : Opened). numbered (Ok x)) here ∙ ap (λ (v : Verdict). said_by v (opened_value ws)) (go fits (q ∙ test_is) ∙ sym verdict_is)
      where
        go : (b : Bool) → ◌≡◌ {A = Result Unit Refusal} (Ok tt) (cond b (Ok tt) (Err (refusal Call 0))) → done ≡ cond b done (verdict 12 0)
        go true p = refl
        go false p = let z : ◌≡◌ {A = Result Unit Refusal} (Ok tt) (Err (refusal Call 0)) = p in cc

pub ruleset admitting = (words_refused, call_refused, taken)

-- ---- what is left
module _ (ws t outputs : List ℕ) where
  -- a refusal
  module _ (r : Refusal) (e : numbered (Err r) ≡ said_by (scan_verdict ws (length t) (length outputs)) (opened_value ws)) where
    refused : (scan_verdict ws (length t) (length outputs)).number ≡ 0 → ⊥
    refused q =
        no_zero r.fault
        (sym (ap (λ (v : Verdict). v.number) (refused_is r (scan_verdict ws (length t) (length outputs)) (opened_value ws) e)) ∙ q)

    pub refusal_said : numbered (Err r) ≡ said_by (scan_verdict ws (length t) (length outputs)) (tt {0})
    refusal_said =
        says r (scan_verdict ws (length t) (length outputs)) tt
        (sym (refused_is r (scan_verdict ws (length t) (length outputs)) (opened_value ws) e))

    pub same_table : t ≡ scan_table ws t (length outputs)
    same_table = sym (table_kept ws t (length outputs) refused)

    pub same_outputs : outputs ≡ scan_packed ws t outputs
    same_outputs = sym (numbers_kept ws t outputs refused)

  -- what is not refused
  module _ (o : Opened) (e : numbered (Ok o) ≡ said_by (scan_verdict ws (length t) (length outputs)) (opened_value ws)) where
    not_refused : scan_verdict ws (length t) (length outputs) ≡ done
    not_refused = done_is o (scan_verdict ws (length t) (length outputs)) (opened_value ws) e

    zero_number : (scan_verdict ws (length t) (length outputs)).number ≡ 0
    zero_number = ap (λ (v : Verdict). v.number) not_refused

    pub all_ready : AllReady ws o t outputs
    all_ready = record {
      opens = value_is o (scan_verdict ws (length t) (length outputs)) (opened_value ws) e;
      accepted = checks ws t (length outputs) zero_number;
      exact = exact_table ws t (length outputs) zero_number;
      room = enough ws t (length outputs) zero_number;
    }

    pub done_said : numbered (Ok (tt {0})) ≡ said_by (scan_verdict ws (length t) (length outputs)) (tt {0})
    done_said = rw not_refused refl

    module _ {table packs : List ℕ} (s : AllRan (network_in ws) t outputs table packs) where
      pub table_done : table ≡ scan_table ws t (length outputs)
      table_done = s.table_after ∙ sym (done_table ws t (length outputs) zero_number)

      pub outputs_done : packs ≡ scan_packed ws t outputs
      outputs_done = s.outputs_after ∙ sym (done_outputs ws t outputs zero_number)

pub ruleset answering = (refusal_said, same_table, same_outputs, done_said)
