-- A refusal changes nothing: with a refusal for its answer, `run` leaves the state and the buffer as they were. Assumes nothing.
use mathlib.Core.Path.{◌≡◌, refl, ap, ◌∙◌}
use mathlib.Core.Bool.{Bool, cond}
use mathlib.Core.List.{List, ◌++◌}
use Prim.Native.Nat.{ℕ, ◌+◌}
use borrow.Author.Tests.{eq-eqb, ne_eqb}
use lib.ListN.{length, drop}
use Rattle.verdict.specs.Promise.{Keeps}
use Rattle.std.specs.Prelude.{Result, Ok, Err}
use Rattle.verdict.specs.declared.Refusal.{Refusal}
use Rattle.verdict.specs.Verdict.{done, numbered}
use Rattle.verdict.proofs.Said.{no_zero}
use Rattle.run.specs.declared.Page.{Page}
use Rattle.file.specs.File.{file_in}
use Rattle.run.specs.Visits.{visits_state}
use Rattle.run.specs.Page.{Went, many, next_visit, page, run_verdict, went, run_went, went_from, run_state, run_text}
use Rattle.run.proofs.run.Reads as run_reads

-- a run whose answer refuses is one whose verdict does
module _ (ws state : List ℕ) (from : ℕ) where
  bad : (room : ℕ) → ((run_went ws state from room).verdict.number ≡ 0 → ⊥) → (run_verdict ws (length state) from room).number ≡ 0 → ⊥
  unfolding run_went
  bad room h e =
      h
      (ap (λ (b : Bool). (cond b (went done (next_visit (file_in ws) (from + many (file_in ws) state from room)) (length (page ws state from room))) (went (run_verdict ws (length state) from room) from 0)).verdict.number)
      (eq-eqb (run_verdict ws (length state) from room).number 0 e))

  state_kept : (room : ℕ) → ((run_went ws state from room).verdict.number ≡ 0 → ⊥) → run_state ws state from room ≡ state
  unfolding run_state
  state_kept room h =
      ap (λ (b : Bool). cond b (visits_state (file_in ws).network from (many (file_in ws) state from room) state) state) (ne_eqb (run_verdict ws (length state) from room).number 0 (bad room h))

  text_kept : (text : List ℕ) → ((run_went ws state from (length text)).verdict.number ≡ 0 → ⊥) → run_text ws state from text ≡ text
  unfolding run_text
  text_kept text h =
      ap (λ (b : Bool). cond b (page ws state from (length text) ++ drop (length (page ws state from (length text))) text) text)
      (ne_eqb (run_verdict ws (length state) from (length text)).number 0 (bad (length text) h))

-- what a refusal says has a number
refuses : (from : ℕ) (x : Result Page Refusal) {w : Went} → went_from from x ≡ w → ((numbered x).verdict.number ≡ 0 → ⊥) → w.verdict.number ≡ 0 → ⊥
refuses from (Ok p) e h q = h refl
refuses from (Err r) e h q = no_zero r.fault (ap (λ (v : Went). v.verdict.number) e ∙ q)

pub run_keeps_state : Keeps run_reads.Post (λ κs r. (numbered r).verdict.number ≡ 0 → ⊥) (λ κs a. a.1.0.now) (λ κs s. s.1.0.now)
run_keeps_state κs a x s p h = p.1.0 ∙ state_kept _ _ _ _ (refuses _ x p.0 h)

pub run_keeps_text : Keeps run_reads.Post (λ κs r. (numbered r).verdict.number ≡ 0 → ⊥) (λ κs a. a.1.1.1.0.now) (λ κs s. s.1.1.1.0.now)
run_keeps_text κs a x s p h = p.1.1 ∙ text_kept _ _ _ _ (refuses _ x p.0 h)
