use Rattle.std.proofs.Common.{rules}
use Rattle.bench.proofs.Known.{appends_rest}
use Rattle.bench.proofs.write_whole.Goals as goal

pub loop-at-preserved : goal.loop-at-preserved
loop-at-preserved g c = (search rules, appends_rest _ _ _ _ _ _ c.loop-at.invariant.1 c.in_ok-more.ensures.bytes)
