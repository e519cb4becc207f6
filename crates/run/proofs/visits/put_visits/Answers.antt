-- `run::visits::put_visits` meets its contract. The loop keeps what holds after some visits.
use mathlib.Core.Path.{refl}
use mathlib.Core.Logic.{inl, inr}
use Rattle.plan.specs.Plan.{no_steps}
use Rattle.run.proofs.Going.{none_made, is_row, row_made, all_made, made_of, none_at_all}
use Rattle.run.proofs.Running.{few_blocks, same_visits, is_ahead}
use Rattle.run.proofs.visits.put_visits.Goals as goal

pub returns-then-all-from : goal.returns-then-all-from
returns-then-all-from c =
    let x = c.args in
    made_of (same_visits c.requires.0 c.count-count.ensures refl) (none_at_all _ x.state.now x.from _ x.text.now x.at c.if-all-from.true c.requires.1 refl refl)

pub labels_of-labels-requires : goal.labels_of-labels-requires
labels_of-labels-requires c = few_blocks c.requires.0 c.count-count.ensures refl

pub loop-visit-init : goal.loop-visit-init
unfolding no_steps
loop-visit-init c =
    none_made
    (is_ahead c.requires.0 c.count-count.ensures refl c.if-all-from.false c.requires.1 c.put_plan.ensures.steps c.labels_of-labels.ensures.1 c.labels_of-labels.ensures.0)

pub loop-visit-preserved : goal.loop-visit-preserved
loop-visit-preserved c =
    let g = c.loop-visit.invariant in
    let turn = c.turn_of-turn.ensures in
    let many = c.min-many.ensures in
    let end = c.min-end.ensures in
    let more = c.loop-visit-test.true in
    let room = c.if-room-next-ge-VISIT_ROOM.true in
    row_made g turn many end more room (c.put_blocks-next.ensures _ (is_row g turn many end more room))

pub returns-else-room-next-ge-VISIT_ROOM : goal.returns-else-room-next-ge-VISIT_ROOM
returns-else-room-next-ge-VISIT_ROOM c =
    made_of (same_visits c.requires.0 c.count-count.ensures refl) (all_made c.loop-visit.invariant (inr c.if-room-next-ge-VISIT_ROOM.false) refl refl)

pub returns-after-loop-visit : goal.returns-after-loop-visit
returns-after-loop-visit c =
    made_of (same_visits c.requires.0 c.count-count.ensures refl) (all_made c.loop-visit.invariant (inl c.loop-visit-test.false) refl refl)
