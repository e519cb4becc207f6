-- The laws of a start: the refusals in their order, and the image at the front of the table. Assumes nothing.
use mathlib.Core.Path.{◌≡◌, sym, ap, ap₂, ◌∙◌}
use mathlib.Core.Bool.{Bool, true, false, cond}
use mathlib.Core.List.{List, ◌++◌}
use Prim.Native.Nat.{ℕ, ◌+◌, ◌≤◌, ◌<◌}
use native.Mathlib.Omega.{arith}
use borrow.Author.Tests.{eq-eqb, ne_eqb, le-leb, lt-leb}
use lib.Dec.{leb, eqb}
use lib.ListN.{length, take, drop}
use lib.Seq.{take_at}
use Rattle.std.specs.Prelude.{Ok, Err}
use Rattle.verdict.specs.declared.Fault.TheVariants.{Call}
use Rattle.verdict.specs.declared.Refusal.{Refusal}
use Rattle.verdict.specs.Verdict.{Verdict, number_of, refusal, verdict, done, numbered}
use Rattle.verdict.proofs.Said.{no_zero, refused_is, done_is, value_is, says}
use Rattle.section.proofs.Walk.{then_first, then_next, then_zero}
use Rattle.table.specs.Table.{total}
use Rattle.network.specs.Network.{Network}
use Rattle.network.specs.Check.{network_in}
use Rattle.file.specs.declared.checker.OpenedFile.{OpenedFile}
use Rattle.file.specs.File.{table_words, file_in, file_checked, opened_file_value, opened_file_with, opened_file}
use Rattle.file.specs.Start.{start_verdict, started, start_table, ImageFirst}
use Rattle.file.proofs.Accepted.{accepts_files, accepted_done, long}
use Rattle.file.proofs.Files.{network_is, image_is}

-- ---- the answer and the table, by the refusals in their order
module _ (ws : List ℕ) (odd : Bool) (t : List ℕ) where
  abbrev room : Bool
  room = leb (table_words (file_in ws)) (length t)

  fine_by : (b : Bool) → (file_checked ws odd).number ≡ 0 → room ≡ b → start_verdict ws odd (length t) ≡ cond b done (verdict 12 0)
  unfolding start_verdict
  fine_by b e r = then_next (file_checked ws odd) (cond room done (verdict 12 0)) e ∙ ap (λ (x : Bool). cond x done (verdict 12 0)) r

  -- a refusal leaves the table alone
  pub table_kept : ((start_verdict ws odd (length t)).number ≡ 0 → ⊥) → start_table ws odd t ≡ t
  unfolding start_table
  table_kept h = ap (λ (b : Bool). cond b ((file_in ws).image ++ drop (table_words (file_in ws)) t) t) (ne_eqb (start_verdict ws odd (length t)).number 0 h)

  refused_as : (r : Refusal) → start_verdict ws odd (length t) ≡ verdict (number_of r.fault) r.place
      → (numbered (Err r) ≡ started ws odd (length t)) × (t ≡ start_table ws odd t)
  refused_as r e = (
    says r (start_verdict ws odd (length t)) (opened_file_value ws) (sym e),
    sym (table_kept (λ q. no_zero r.fault (sym (ap (λ (v : Verdict). v.number) e) ∙ q))),
  )

  -- the check's refusal
  pub start_refused : (r : Refusal) → numbered (Err r) ≡ opened_file ws odd → (numbered (Err r) ≡ started ws odd (length t)) × (t ≡ start_table ws odd t)
  unfolding start_verdict
  start_refused r e =
      let is = refused_is r (file_checked ws odd) (opened_file_value ws) e in
      refused_as r (then_first (file_checked ws odd) (cond room done (verdict 12 0)) (λ q. no_zero r.fault (sym (ap (λ (v : Verdict). v.number) is) ∙ q)) ∙ is)

  module _ (f : OpenedFile) (e : numbered (Ok f) ≡ opened_file ws odd) where
    value : f ≡ opened_file_value ws
    value = value_is f (file_checked ws odd) (opened_file_value ws) e

    words_is : f.words ≡ table_words (file_in ws)
    words_is = ap (λ (x : OpenedFile). x.words) value

    same_table : table_words (file_in ws) ≡ total (network_in ws).sizes
    same_table = ap (λ (net : Network). total net.sizes) (network_is ws)

    fine : (file_checked ws odd).number ≡ 0
    fine = ap (λ (v : Verdict). v.number) (done_is f (file_checked ws odd) (opened_file_value ws) e)

    pub start_short : length t < f.words → (numbered {A = OpenedFile} (Err (refusal Call 0)) ≡ started ws odd (length t)) × (t ≡ start_table ws odd t)
    start_short s = refused_as (refusal Call 0) (fine_by false fine (lt-leb (table_words (file_in ws)) (length t) (omega (arith, s, words_is))))

    -- the image lies in the words
    pub image_there : f.image + f.words ≤ length ws
    image_there = omega (arith, ap (λ (x : OpenedFile). x.image) value, words_is, same_table, long ws odd fine)

    pub start_done : f.words ≤ length t
        → (numbered (Ok f) ≡ started ws odd (length t)) × (take f.words (drop f.image ws) ++ drop f.words t ≡ start_table ws odd t)
    unfolding start_table
    start_done u =
        let taken : start_verdict ws odd (length t) ≡ done =
        fine_by true fine (le-leb (table_words (file_in ws)) (length t) (omega (arith, u, words_is))) in
        let image : take f.words (drop f.image ws) ≡ (file_in ws).image =
        ap₂ (λ (n k : ℕ). take n (drop k ws)) (words_is ∙ same_table) (ap (λ (x : OpenedFile). x.image) value) ∙ sym (image_is ws) in (
          e ∙ ap (opened_file_with ws) (accepted_done ws odd fine ∙ sym taken),
          ap₂ (λ (x : List ℕ) (n : ℕ). x ++ drop n t) image words_is
              ∙ sym (ap (λ (v : Verdict). cond (eqb v.number 0) ((file_in ws).image ++ drop (table_words (file_in ws)) t) t) taken),
        )

pub image_first : ImageFirst
unfolding start_table start_verdict
image_first ws odd t e =
    let fine : (file_checked ws odd).number ≡ 0 = (then_zero (file_checked ws odd) (cond (leb (table_words (file_in ws)) (length t)) done (verdict 12 0)) e).0 in
    ap (take (table_words (file_in ws))) (ap (λ (b : Bool). cond b ((file_in ws).image ++ drop (table_words (file_in ws)) t) t) (eq-eqb (start_verdict ws odd (length t)).number 0 e))
    ∙ take_at (file_in ws).image (drop (table_words (file_in ws)) t) (table_words (file_in ws)) ((accepts_files ws odd).0 fine).file.image
