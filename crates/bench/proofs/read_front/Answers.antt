use Rattle.std.proofs.Common.{rules}
use Rattle.bench.proofs.Known.{consumes_rest}
use Rattle.bench.proofs.read_front.Goals as goal

pub loop-count-preserved : goal.loop-count-preserved
loop-count-preserved g c =
    (search rules, search rules, consumes_rest _ _ _ _ _ _ _ _ c.loop-count.invariant.1 (search rules) c.loop-count.invariant.2 (search rules))
