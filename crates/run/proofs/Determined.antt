-- Two results that the public function's contract allows are equal, and so is what they leave in a lent buffer: what two answers say is the
-- same, and so they are the same.
use mathlib.Core.Path.{◌≡◌, sym, ap, ◌∙◌}
use Prim.Native.Nat.{ℕ}
use Rattle.std.specs.Prelude.{Result, Ok, Err}
use Rattle.verdict.specs.declared.{Refusal.Refusal}
use Rattle.verdict.specs.Promise.{DecidesBoth}
use Rattle.verdict.proofs.Said.{no_zero, fault_once}
use Rattle.run.specs.declared.Page.{Page}
use Rattle.run.specs.Page.{Went, went_from}
use Rattle.run.proofs.run.Reads as run_reads

pub went_once : (from : ℕ) (x y : Result Page Refusal) → went_from from x ≡ went_from from y → x ≡ y
went_once from (Ok p) (Ok q) e = ap Ok (λ i. record { next = (ap (λ (w : Went). w.next) e) i; bytes = (ap (λ (w : Went). w.bytes) e) i })
went_once from (Ok p) (Err r) e = absurd (no_zero r.fault (sym (ap (λ (w : Went). w.verdict.number) e)))
went_once from (Err r) (Ok p) e = absurd (no_zero r.fault (ap (λ (w : Went). w.verdict.number) e))
went_once from (Err r) (Err s) e =
    ap Err
    (λ i. record {
      fault = fault_once r.fault s.fault (ap (λ (w : Went). w.verdict.number) e) i;
      place = (ap (λ (w : Went). w.verdict.place) e) i;
    })

pub run_and_state : DecidesBoth run_reads.Post (λ κs s. s.1.0.now)
run_and_state κs a x y s t p q = (went_once _ x y (p.0 ∙ sym q.0), p.1.0 ∙ sym q.1.0)

pub run_and_text : DecidesBoth run_reads.Post (λ κs s. s.1.1.1.0.now)
run_and_text κs a x y s t p q = (went_once _ x y (p.0 ∙ sym q.0), p.1.1 ∙ sym q.1.1)
