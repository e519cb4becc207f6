-- The laws of a reader that was opened on lent words. Assumes nothing.
use mathlib.Core.Path.{◌≡◌, ap, ◌∙◌, sym}
use mathlib.Core.Bool.{Bool, cond}
use mathlib.Core.List.{List}
use Prim.Native.Nat.{ℕ, ◌-◌}
use borrow.Author.Tests.{ne_eqb}
use denote.Ref.{Bor}
use lib.ListN.{length, drop}
use Rattle.std.specs.Prelude.{Result, Ok, Err, Some, None}
use Rattle.verdict.specs.declared.Refusal.{Refusal}
use Rattle.verdict.specs.Verdict.{Verdict, then, said_by, numbered}
use Rattle.verdict.proofs.Said.{stops, done_is, value_is}
use Rattle.section.proofs.Walk.{then_first}
use Rattle.record.specs.declared.Block.{Block}
use Rattle.record.specs.Record.{block_in}
use Rattle.network.specs.declared.checker.Opened.{Opened}
use Rattle.network.specs.Check.{checked, opened_value, opened, record_start, read_verdict, read_at, read}
use Rattle.reader.specs.Reader.{read_by, GivesRecord, GivesRefusal}

module _ (ws : List ℕ) (k : ℕ) where
  abbrev given : Verdict
  given = read_verdict (opened_value ws) k (length ws)

  abbrev block : Block
  block = block_in (drop (record_start ws (k - 1)) ws)

  pub read_is : (found : Result Opened Refusal) → numbered found ≡ opened ws → read_by ws found k ≡ read ws k
  unfolding read_at
  read_is (Ok o) e =
      ap (λ (x : Opened). read_at ws x k) (value_is o (checked ws) (opened_value ws) e)
      ∙ ap (λ (v : Verdict). said_by (then v given) block) (sym (done_is o (checked ws) (opened_value ws) e))
  read_is (Err r) e = stops r (checked ws) given (opened_value ws) block e

  pub read_refused : ((checked ws).number ≡ 0 → ⊥) → read ws k ≡ record { verdict = checked ws; value = None }
  read_refused h =
      ap (λ (v : Verdict). said_by v block) (then_first (checked ws) given h)
      ∙ ap (λ (b : Bool). record { verdict = checked ws; value = cond b (Some block) None }) (ne_eqb (checked ws).number 0 h)

pub gives_record : GivesRecord
gives_record lent reader k on = ap (λ (s : Bor (List ℕ)). read_by s.now reader.found k) on.holds ∙ read_is lent.now k reader.found on.knows

pub gives_refusal : GivesRefusal
gives_refusal lent reader k on h = gives_record lent reader k on ∙ read_refused lent.now k h
