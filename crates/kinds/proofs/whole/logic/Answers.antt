-- `kinds::whole::logic` meets its contract.
use Rattle.std.proofs.Common.{rules, ◌≡◌}
use Rattle.std.specs.Prelude.{Err}
use Rattle.blocks.proofs.Doing.{is_off, is_on}
use Rattle.kinds.proofs.Wholes.{combines_off, combines_on, combines_refused}
use Rattle.kinds.proofs.whole.logic.Goals as goal

pub returns-then-not-on : goal.returns-then-not-on
returns-then-not-on c =
    let x = c.args in
    combines_off x.operation x.table.now x.s x.d x.n x.on (is_off x.on.top c.if-not-on.true) c.in_ok-fault.ensures _ c.plain.ensures

pub returns-in_err-combine : goal.returns-in_err-combine
returns-in_err-combine c =
    let x = c.args in
    let h = c.in_err-combine.ensures in
    let is : c.from_residual-in_err-combine.result ≡ Err c.in_err-combine.field-0.0 = search rules in
    combines_refused x.operation x.table.now x.s x.d x.n x.on _ _ is h.answer _ h.table

pub returns : goal.returns
returns c =
    let x = c.args in
    let h = c.in_ok-combine.ensures in
    combines_on x.operation x.table.now x.s x.d x.n x.on (is_on x.on.top c.if-not-on.false) h.answer _ h.table _ c.plain-2.ensures
