-- `pointed::mbit::modify` meets its contract: the bit is put, then the pointer as read is written, advanced.
use Rattle.blocks.proofs.Doing.{is_off, is_on}
use Rattle.pointed.specs.Places.{place_node, place_word}
use Rattle.pointed.proofs.Stepping.{modifies_off, modifies_over, modifies_on}
use Rattle.pointed.proofs.mbit.modify.Goals as goal

pub returns-then-not-on : goal.returns-then-not-on
returns-then-not-on c =
    let x = c.args in
    modifies_off (place_node x.pointer.now) (place_word x.pointer.now) x.d x.n x.on x.table.now c.in_ok-pointed_fault.ensures (is_off x.on.top c.if-not-on.true) _ c.plain.ensures

pub returns-then-size-at : goal.returns-then-size-at
returns-then-size-at c =
    let x = c.args in
    modifies_over (place_node x.pointer.now) (place_word x.pointer.now) x.d x.n x.on x.table.now c.in_ok-pointed_fault.ensures _ c.value-at.ensures (is_on x.on.top c.if-not-on.false)
    c.if-size-at.true _ c.plain-then-size-at.ensures

pub returns : goal.returns
returns c =
    let x = c.args in
    modifies_on (place_node x.pointer.now) (place_word x.pointer.now) x.d x.n x.on x.table.now c.in_ok-pointed_fault.ensures _ c.value-at.ensures (is_on x.on.top c.if-not-on.false)
    c.if-size-at.false _ c.is_taken-increase.ensures _ c.next.ensures _ _ c.put_at.ensures c.put_held.ensures _ c.plain-2.ensures
