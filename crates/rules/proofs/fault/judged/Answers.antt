-- `rules::fault::judged` meets its contract: where all 15 words are there, it does not matter how many follow.
use Rattle.std.proofs.Common.{ap, ◌∙◌}
use Rattle.verdict.specs.Verdict.{numbered}
use Rattle.rules.proofs.Tested.{tested_says, tested_there}
use Rattle.rules.proofs.fault.judged.Goals as goal

pub returns-then-end-size-clause-number : goal.returns-then-end-size-clause-number
returns-then-end-size-clause-number c =
    let x = c.args in
    ap numbered (c.test.ensures ∙ tested_there x.sizes x.earlier x.block x.at x.size c.if-end-size.true)
    ∙ tested_says x.sizes x.earlier x.block x.at x.size
