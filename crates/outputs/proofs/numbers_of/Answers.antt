-- `outputs::numbers_of` meets its contract: a list of at most 128 entries is judged as a longer one.
use Rattle.std.proofs.Common.{◌∙◌}
use Rattle.outputs.proofs.Recording.{same_table, count_told, spelled}
use Rattle.outputs.proofs.numbers_of.Goals as goal

pub returns-in_err-scan_packed-clause-table : goal.returns-in_err-scan_packed-clause-table
returns-in_err-scan_packed-clause-table c =
    let x = c.args in
    c.scan_packed.ensures.table ∙ same_table x.words.now x.table.now x.room c.min-room.result c.min-room.ensures x.numbers.now c.told-numbers

pub returns-in_err-scan_packed-clause-numbers : goal.returns-in_err-scan_packed-clause-numbers
returns-in_err-scan_packed-clause-numbers c =
    let x = c.args in
    spelled x.words.now x.table.now x.room c.min-room.result c.min-room.ensures x.numbers.now c.told-numbers _ c.scan_packed.ensures.outputs

pub returns-clause-answer : goal.returns-clause-answer
returns-clause-answer c =
    let x = c.args in
    count_told x.words.now x.table.now x.room c.min-room.result c.min-room.ensures x.numbers.now c.told-numbers c.block_count.result c.block_count.ensures
    c.in_ok-scan_packed.ensures.answer

pub returns-clause-table : goal.returns-clause-table
returns-clause-table c =
    let x = c.args in
    c.scan_packed.ensures.table ∙ same_table x.words.now x.table.now x.room c.min-room.result c.min-room.ensures x.numbers.now c.told-numbers

pub returns-clause-numbers : goal.returns-clause-numbers
returns-clause-numbers c =
    let x = c.args in
    spelled x.words.now x.table.now x.room c.min-room.result c.min-room.ensures x.numbers.now c.told-numbers _ c.scan_packed.ensures.outputs
