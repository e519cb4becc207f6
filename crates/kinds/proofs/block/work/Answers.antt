-- `kinds::block::work` meets its contract: its kind is the one that its number stands for.
use mathlib.Core.Path.{sym}
use Rattle.kinds.proofs.ByKind.{answers_as, leaves_as}
use Rattle.kinds.proofs.block.work.Goals as goal

pub returns-clause-answer : goal.returns-clause-answer
returns-clause-answer c = let x = c.args in answers_as x.one x.table.now x.on c.in-Ok.kind _ _ (sym c.in-Ok.ensures) c.work_of.ensures

pub returns-clause-table : goal.returns-clause-table
returns-clause-table c = let x = c.args in leaves_as x.one x.table.now x.on c.in-Ok.kind _ _ (sym c.in-Ok.ensures) c.work_of.ensures
