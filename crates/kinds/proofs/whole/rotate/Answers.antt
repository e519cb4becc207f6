-- `kinds::whole::rotate` meets its contract.
use Rattle.std.proofs.Common.{rules, ◌≡◌}
use Rattle.std.specs.Prelude.{Err}
use Rattle.blocks.proofs.Doing.{is_off, is_on}
use Rattle.kinds.proofs.Wholes.{rotates_off, rotates_on, rotates_refused}
use Rattle.kinds.proofs.whole.rotate.Goals as goal

pub returns-then-not-on : goal.returns-then-not-on
returns-then-not-on c =
    let x = c.args in
    rotates_off x.table.now x.s x.d x.n x.on (is_off x.on.top c.if-not-on.true) c.in_ok-fault.ensures _ c.plain.ensures

pub returns-in_err-left : goal.returns-in_err-left
returns-in_err-left c =
    let x = c.args in
    let h = c.in_err-left.ensures in
    let is : c.from_residual-in_err-left.result ≡ Err c.in_err-left.field-0.0 = search rules in
    rotates_refused x.table.now x.s x.d x.n x.on _ _ is h.answer _ h.table

pub returns : goal.returns
returns c =
    let x = c.args in
    let h = c.in_ok-left.ensures in
    rotates_on x.table.now x.s x.d x.n x.on (is_on x.on.top c.if-not-on.false) _ h.answer _ h.table _ c.plain-2.ensures
