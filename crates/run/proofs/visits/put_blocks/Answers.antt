-- `run::visits::put_blocks` meets its contract. The loop keeps what holds when block k + 1 is next. Assumes nothing.
use Rattle.run.proofs.Turns.{row_start, row_text_long, row_state_long, is_turnable, row_step, row_done}
use Rattle.run.proofs.visits.put_blocks.Goals as goal

pub loop-k-init : goal.loop-k-init
loop-k-init c = row_start c.requires c.label-label.ensures

pub visit_and_put-next-requires : goal.visit_and_put-next-requires
visit_and_put-next-requires c = is_turnable c.loop-k.invariant c.loop-k-test.true

pub loop-k-preserved : goal.loop-k-preserved
loop-k-preserved c = row_step c.loop-k.invariant c.loop-k-test.true c.visit_and_put-next.ensures

pub shape_of-state : goal.shape_of-state
shape_of-state c = row_state_long c.loop-k.invariant

pub shape_of-text : goal.shape_of-text
shape_of-text c = row_text_long c.loop-k.invariant

pub returns : goal.returns
returns c = row_done c.loop-k.invariant c.loop-k-test.false
