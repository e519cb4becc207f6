-- `pointed::sens::sense` meets its contract: a reset comes first, then the bit is read, then the pointer is written.
use mathlib.Core.Path.{◌≡◌, refl}
use mathlib.Core.Bool.{true, false}
use native.Mathlib.Omega.{arith}
use Rattle.pointed.specs.Places.{place_node, place_word}
use Rattle.pointed.proofs.Stepping.{senses_off, senses_over, senses_on}
use Rattle.pointed.proofs.sens.sense.Goals as goal

pub returns-then-not-on : goal.returns-then-not-on
returns-then-not-on c =
    let x = c.args in
    let off : x.on.top ≡ false = grind arith in
    senses_off (place_node x.pointer.now) (place_word x.pointer.now) x.s x.n x.on x.table.now c.in_ok-pointed_fault.ensures _ c.value-at.ensures _ c.is_taken-reset.ensures _ c.set_to-begun.ensures
    off _ c.put_held.ensures _ c.plain.ensures

pub returns-then-size-begun : goal.returns-then-size-begun
returns-then-size-begun c =
    let x = c.args in
    let top : x.on.top ≡ true = grind arith in
    senses_over (place_node x.pointer.now) (place_word x.pointer.now) x.s x.n x.on x.table.now c.in_ok-pointed_fault.ensures _ c.value-at.ensures _ c.is_taken-reset.ensures _ c.set_to-begun.ensures
    top c.if-size-begun.true _ c.plain-then-size-begun.ensures

pub returns : goal.returns
returns c =
    let x = c.args in
    let top : x.on.top ≡ true = grind arith in
    senses_on (place_node x.pointer.now) (place_word x.pointer.now) x.s x.n x.on x.table.now c.in_ok-pointed_fault.ensures _ c.value-at.ensures _ c.is_taken-reset.ensures _ c.set_to-begun.ensures
    top c.if-size-begun.false _ c.is_taken-increase.ensures _ refl _ c.next.ensures _ c.put_held-2.ensures
    _ c.bit-sensed.ensures _ c.plain-2.ensures
