-- `run::visit::visit` meets its contract: work, coils and outputs are those of the visit of the network for which the step is.
-- Assumes nothing.
use Rattle.run.proofs.Following.{is_working, all_spotted, visit_done}
use Rattle.run.proofs.visit.visit.Goals as goal

pub work-out-requires : goal.work-out-requires
work-out-requires c = is_working c.requires.stepped

pub put_spots-requires : goal.put_spots-requires
put_spots-requires c = all_spotted c.requires.stepped _ c.work-out.auto.state

pub returns : goal.returns
returns c =
    λ net s.
    visit_done s c.work-out.ensures.state c.work-out.auto.state (λ k. (c.slice_known-2-1.given k).fits) c.work-out.ensures.answer
    c.put_spots.ensures c.packed.ensures
