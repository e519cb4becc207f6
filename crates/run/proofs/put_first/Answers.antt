-- `run::put_first` meets its contract. Assumes nothing.
use Rattle.run.proofs.Running.{no_first, a_first}
use Rattle.run.proofs.put_first.Goals as goal

pub returns-then-from-ne0 : goal.returns-then-from-ne0
returns-then-from-ne0 c = let x = c.args in no_first x.text.now x.from x.count x.table c.requires c.if-from-ne0.true

pub returns : goal.returns
returns c = let x = c.args in a_first x.text.now x.from x.count x.table c.requires c.if-from-ne0.false c.put_head.ensures.answer c.put_head.ensures.text
