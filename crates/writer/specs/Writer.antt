-- The record writer, which puts one record into 15 lent words. Assumes nothing.
use Rattle.std.specs.Prelude.{ℕ, ◌-◌, cond, ◌&&◌, leb, eqb, length, Result, Ok, Err}
use Rattle.verdict.specs.Lists.{Words}
use Rattle.verdict.specs.declared.Fault.TheVariants.{Limit, Call}
use Rattle.verdict.specs.declared.Refusal.{Refusal}
use Rattle.verdict.specs.Verdict.{Verdict, verdict, done, then, refusal, and_then}
use Rattle.table.specs.declared.sizes.Sizes.{Sizes}
use Rattle.table.specs.Table.{allowed}
use Rattle.record.specs.declared.Block.{Block}
use Rattle.record.specs.Record.{record_words, spelled}
use Rattle.rules.specs.Fault.{judged}
use Rattle.rules.specs.Judge.{tested}
use Rattle.network.specs.Check.{most_blocks}

-- the sizes (3, place 0), then k against 1 to 128 (12), then the 15 words, then the buffer, which has so many words (12)
unfoldable pub write_verdict : Sizes → ℕ → Block → ℕ → Verdict
write_verdict z k b size =
    then (cond (allowed z) done (verdict 3 0))
    (then (cond (leb 1 k && leb k most_blocks) done (verdict 12 0))
    (then (judged z (k - 1) b 0 record_words) (cond (eqb size record_words) done (verdict 12 0))))

unfoldable pub write_buffer : Sizes → ℕ → Block → Words → Words
write_buffer z k b buffer = cond (eqb (write_verdict z k b (length buffer)).number 0) (spelled b) buffer

-- the same as the code tests it
abbrev pub write_tested : Sizes → ℕ → Block → ℕ → Result Unit Refusal
write_tested z k b size =
    cond (allowed z)
    (cond (leb 1 k && leb k most_blocks)
    (and_then (tested z (k - 1) b 0 record_words) (λ (_ : Unit). cond (eqb size record_words) (Ok tt) (Err (refusal Call 0))))
    (Err (refusal Call 0)))
    (Err (refusal Limit 0))
