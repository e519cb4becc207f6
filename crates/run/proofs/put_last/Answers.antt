-- `run::put_last` meets its contract. Assumes nothing.
use Rattle.run.proofs.Running.{no_last, a_last}
use Rattle.run.proofs.put_last.Goals as goal

pub returns-then-next-visits : goal.returns-then-next-visits
returns-then-next-visits c = let x = c.args in no_last x.text.now x.at x.next x.visits x.scans c.requires c.if-next-visits.true

pub returns : goal.returns
returns c = let x = c.args in a_last x.text.now x.at x.next x.visits x.scans c.requires c.if-next-visits.false c.put_end.ensures.answer c.put_end.ensures.text
