-- `file::starting::start` meets its contract: the check, then the table's length, then the image is put. Assumes nothing.
use mathlib.Core.Path.{sym, ap, ◌∙◌}
use Rattle.verdict.specs.Verdict.{numbered}
use Rattle.std.specs.Prelude.{Err}
use Rattle.file.specs.declared.checker.OpenedFile.{OpenedFile}
use Rattle.file.proofs.Starts.{start_refused, start_short, image_there, start_done}
use Rattle.file.proofs.starting.start.Goals as goal

pub returns-in_err-file-clause-table : goal.returns-in_err-file-clause-table
returns-in_err-file-clause-table c =
    let x = c.args in
    (start_refused x.words.now x.odd x.table.now c.in_err-file.field-0.0 (ap numbered (sym c.in_err-file.was) ∙ c.check.ensures)).1

pub returns-then-table-file-clause-answer : goal.returns-then-table-file-clause-answer
returns-then-table-file-clause-answer c =
    let x = c.args in
    ap (λ r. numbered {A = OpenedFile} (Err r)) c.at.ensures
    ∙ (start_short x.words.now x.odd x.table.now c.in_ok-file.file (ap numbered (sym c.in_ok-file.was) ∙ c.check.ensures) c.if-table-file.true).0

pub returns-then-table-file-clause-table : goal.returns-then-table-file-clause-table
returns-then-table-file-clause-table c =
    let x = c.args in
    (start_short x.words.now x.odd x.table.now c.in_ok-file.file (ap numbered (sym c.in_ok-file.was) ∙ c.check.ensures) c.if-table-file.true).1

pub put_image-requires : goal.put_image-requires
put_image-requires c =
    let x = c.args in
    (image_there x.words.now x.odd x.table.now c.in_ok-file.file (ap numbered (sym c.in_ok-file.was) ∙ c.check.ensures), c.if-table-file.false)

pub returns-clause-table : goal.returns-clause-table
returns-clause-table c =
    let x = c.args in
    c.put_image.ensures
    ∙ (start_done x.words.now x.odd x.table.now c.in_ok-file.file (ap numbered (sym c.in_ok-file.was) ∙ c.check.ensures) c.if-table-file.false).1
