-- `writer::write_record` meets its contract: a refusal leaves the buffer alone, and where there is none the record is written.
use mathlib.Core.Path.{sym, ap, ◌∙◌}
use lib.ListN.{length}
use Rattle.verdict.specs.Verdict.{numbered}
use Rattle.writer.proofs.Writing.{write_said, refused_kept, taken_written}
use Rattle.writer.proofs.write_record.Goals as goal

pub returns-in_err-test-clause-buffer : goal.returns-in_err-test-clause-buffer
returns-in_err-test-clause-buffer c = refused_kept _ _ _ _ c.in_err-test.field-0.0 (sym c.in_err-test.was ∙ c.test.ensures)

pub returns-clause-answer : goal.returns-clause-answer
returns-clause-answer c =
    let x = c.args in
    ap numbered (sym c.in_ok-test.was ∙ c.test.ensures) ∙ write_said x.sizes x.k x.block (length x.buffer.now)

pub returns-clause-buffer : goal.returns-clause-buffer
returns-clause-buffer c = c.spell.ensures ∙ taken_written _ _ _ _ (sym c.in_ok-test.was ∙ c.test.ensures)
