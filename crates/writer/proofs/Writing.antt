-- The laws of the record writer. Assumes nothing.
use mathlib.Core.Path.{◌≡◌, refl, sym, ap, ap₂, ◌∙◌}
use mathlib.Core.Bool.{Bool, true, false, cond, ◌&&◌}
use mathlib.Core.List.{List}
use Prim.Native.Nat.{ℕ, ◌-◌}
use native.Mathlib.Omega.{arith}
use borrow.Author.Tests.{eq-eqb, ne_eqb, eqb-true}
use lib.Dec.{leb, eqb}
use lib.ListN.{length}
use Rattle.std.specs.Prelude.{Result, Ok, Err}
use Rattle.verdict.specs.declared.Fault.TheVariants.{Limit, Call}
use Rattle.verdict.specs.declared.Refusal.{Refusal}
use Rattle.verdict.specs.Verdict.{Verdict, verdict, done, then, refusal, numbered, said_by, and_then}
use Rattle.verdict.proofs.Said.{no_zero, stops, goes_on, done_is, refused_is}
use Rattle.section.proofs.Walk.{then_next, then_zero}
use Rattle.table.specs.declared.sizes.Sizes.{Sizes}
use Rattle.table.specs.Table.{allowed}
use Rattle.record.specs.declared.Block.{Block}
use Rattle.record.specs.Record.{record_words, spelled}
use Rattle.rules.specs.Fault.{judged}
use Rattle.rules.specs.Judge.{tested}
use Rattle.rules.proofs.Tested.{tested_says}
use Rattle.network.specs.Check.{most_blocks}
use Rattle.writer.specs.Writer.{write_verdict, write_buffer, write_tested}

-- ---- what the code tests is what the verdict says
module _ (size : ℕ) where
  long_said : (b : Bool) → numbered {A = Unit} (cond b (Ok tt) (Err (refusal Call 0))) ≡ said_by (cond b done (verdict 12 0)) (tt {0})
  long_said true = refl
  long_said false = refl

  words_said : (r : Result Unit Refusal) (v : Verdict) → numbered r ≡ said_by v (tt {0})
      → numbered (and_then r (λ (_ : Unit). cond (eqb size record_words) (Ok (tt {0})) (Err (refusal Call 0)))) ≡ said_by (then v (cond (eqb size record_words) done (verdict 12 0))) (tt {0})
  words_said (Ok x) v e = goes_on x v _ tt _ tt e (long_said (eqb size record_words))
  words_said (Err r) v e = stops r v _ tt tt e

  by_flags : (fits counted : Bool) (rest : Result Unit Refusal) (v : Verdict) → numbered rest ≡ said_by v (tt {0})
      → numbered (cond fits (cond counted rest (Err (refusal Call 0))) (Err (refusal Limit 0)))
      ≡ said_by (then (cond fits done (verdict 3 0)) (then (cond counted done (verdict 12 0)) v)) (tt {0})
  by_flags true true rest v e = e
  by_flags true false rest v e = refl
  by_flags false counted rest v e = refl

pub write_said : (z : Sizes) (k : ℕ) (b : Block) (size : ℕ) → numbered (write_tested z k b size) ≡ said_by (write_verdict z k b size) (tt {0})
unfolding write_verdict
write_said z k b size =
    by_flags size (allowed z) (leb 1 k && leb k most_blocks) _ _
    (words_said size (tested z (k - 1) b 0 record_words) (judged z (k - 1) b 0 record_words) (tested_says z (k - 1) b 0 record_words))

-- ---- the buffer
module _ (z : Sizes) (k : ℕ) (b : Block) (l : List ℕ) where
  pub write_done : allowed z ≡ true → (leb 1 k && leb k most_blocks) ≡ true → (judged z (k - 1) b 0 record_words).number ≡ 0 → length l ≡ record_words → write_verdict z k b (length l) ≡ done
  unfolding write_verdict
  write_done e f h n =
      let words : Verdict = judged z (k - 1) b 0 record_words in
      ap₂ (λ (x y : Bool). then (cond x done (verdict 3 0)) (then (cond y done (verdict 12 0)) (then words (cond (eqb (length l) record_words) done (verdict 12 0))))) e f
      ∙ then_next words (cond (eqb (length l) record_words) done (verdict 12 0)) h
      ∙ ap (λ (x : Bool). cond x done (verdict 12 0)) (eq-eqb (length l) record_words n)

  pub buffer_kept : ((write_verdict z k b (length l)).number ≡ 0 → ⊥) → write_buffer z k b l ≡ l
  unfolding write_buffer
  buffer_kept h = ap (λ (x : Bool). cond x (spelled b) l) (ne_eqb (write_verdict z k b (length l)).number 0 h)

  pub buffer_written : (write_verdict z k b (length l)).number ≡ 0 → write_buffer z k b l ≡ spelled b
  unfolding write_buffer
  buffer_written e = ap (λ (x : Bool). cond x (spelled b) l) (eq-eqb (write_verdict z k b (length l)).number 0 e)

  pub refused_kept : (r : Refusal) → Err r ≡ write_tested z k b (length l) → l ≡ write_buffer z k b l
  refused_kept r e =
      let is = refused_is r (write_verdict z k b (length l)) tt (ap numbered e ∙ write_said z k b (length l)) in
      sym (buffer_kept (λ q. no_zero r.fault (ap (λ (v : Verdict). v.number) (sym is) ∙ q)))

  accepted : Ok tt ≡ write_tested z k b (length l) → (write_verdict z k b (length l)).number ≡ 0
  accepted e = ap (λ (v : Verdict). v.number) (done_is tt (write_verdict z k b (length l)) tt (ap numbered e ∙ write_said z k b (length l)))

  pub taken_written : Ok tt ≡ write_tested z k b (length l) → spelled b ≡ write_buffer z k b l
  taken_written e = sym (buffer_written (accepted e))

  pub buffer_long : Ok tt ≡ write_tested z k b (length l) → length l ≡ 15
  unfolding write_verdict
  buffer_long e =
      let words : Verdict = judged z (k - 1) b 0 record_words in
      let last : Verdict = cond (eqb (length l) record_words) done (verdict 12 0) in
      let counted : Verdict = cond (leb 1 k && leb k most_blocks) done (verdict 12 0) in
      let sizes : Verdict = cond (allowed z) done (verdict 3 0) in
      by (eqb (length l) record_words) refl (then_zero words last (then_zero counted (then words last) (then_zero sizes (then counted (then words last)) (accepted e)).1).1).1
    where
      by : (x : Bool) → eqb (length l) record_words ≡ x → (cond (eqb (length l) record_words) done (verdict 12 0)).number ≡ 0 → length l ≡ 15
      by true p q = eqb-true (length l) record_words p
      by false p q = let z : (cond false done (verdict 12 0)).number ≡ 0 = ap (λ (y : Bool). (cond y done (verdict 12 0)).number) (sym p) ∙ q in absurd (omega (arith, z))
