-- `kinds::block::work_of` meets its contract: MBIT and SENS do with their node's pointer what they do with the node.
use Rattle.blocks.specs.Answer.{worked}
use Rattle.kinds.proofs.Places.{modify_does, sense_does}
use Rattle.kinds.proofs.block.work_of.Goals as goal

pub returns-in-Mbit : goal.returns-in-Mbit
returns-in-Mbit c =
    let x = c.args in
    modify_does x.one x.on x.table.now x.kind _ c.of.ensures (worked c.modify.result) _ c.in-Mbit.is c.modify.ensures

pub returns-in-Sens : goal.returns-in-Sens
returns-in-Sens c =
    let x = c.args in
    sense_does x.one x.on x.table.now x.kind _ c.of-in-Sens.ensures (worked c.sense.result) _ c.in-Sens.is c.sense.ensures
