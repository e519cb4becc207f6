-- `bench::bench` meets its contract: the words that were read decide what is printed.
use Rattle.std.proofs.Common.{rules}
use Rattle.bench.proofs.Reading.{text_is, end_is, ends_so, prints_so, begins_so, begins_none}
use Rattle.bench.proofs.bench.Goals as goal

pub returns-clause-end : goal.returns-clause-end
returns-clause-end g c =
    let read = g.R.Read.remaining in
    ends_so c.answer.result (read c.args.input.now) _ c.answer.ensures.end (end_is (read c.args.input.now) _ c.in_ok-given.ensures.front)

pub returns-clause-whole : goal.returns-clause-whole
returns-clause-whole g c =
    let read = g.R.Read.remaining in
    prints_so c.answer.result (read c.args.input.now) _ _ _ c.answer.ensures.text (text_is (read c.args.input.now) _ c.in_ok-given.ensures.front)

pub returns-clause-begun : goal.returns-clause-begun
returns-clause-begun g c =
    let read = g.R.Read.remaining in
    begins_so c.answer.result (read c.args.input.now) _ _ _ c.answer.ensures.text (text_is (read c.args.input.now) _ c.in_ok-given.ensures.front)

pub returns-in_err-given-clause-begun : goal.returns-in_err-given-clause-begun
returns-in_err-given-clause-begun g c =
    let begun = begins_none (g.R.Read.remaining c.args.input.now) (g.W.Write.contents c.args.output.now) in
    search rules
