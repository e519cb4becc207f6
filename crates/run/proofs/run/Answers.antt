-- `run::run` meets its contract: the tests in their order, then the visits.
use mathlib.Core.Path.{ap, ◌∙◌}
use native.Mathlib.Omega.{arith}
use Rattle.std.specs.Prelude.{Err}
use Rattle.verdict.specs.declared.Fault.TheVariants.{Call}
use Rattle.verdict.specs.Verdict.{refusal}
use Rattle.run.specs.Page.{went_from}
use Rattle.run.proofs.Running.{Answers, bad_file, bad_call, state_small, answered}
use Rattle.run.proofs.run.Goals as goal
use Rattle.run.proofs.run.Goals.{After-at}

-- the file's refusal
pub returns-in_err-file-clause-state : goal.returns-in_err-file-clause-state
returns-in_err-file-clause-state c = let x = c.args in (bad_file x.words.now x.state.now x.from x.text.now _ c.in_err-file.ensures).1

pub returns-in_err-file-clause-text : goal.returns-in_err-file-clause-text
returns-in_err-file-clause-text c = let x = c.args in (bad_file x.words.now x.state.now x.from x.text.now _ c.in_err-file.ensures).2

pub overflow_add-file : goal.overflow_add-file
overflow_add-file c = let x = c.args in omega (arith, state_small x.words.now x.state.now x.from x.text.now _ c.in_ok-file.ensures c.count-count.ensures)

-- the call's
refused : (c : After-at) → let x = c.args in Answers x.words.now x.state.now x.from x.text.now (Err (refusal Call 0)) x.state.now x.text.now
refused c = let x = c.args in bad_call x.words.now x.state.now x.from x.text.now _ c.in_ok-file.ensures c.count-count.ensures c.then-state-file.either

pub returns-then-state-file-clause-answer : goal.returns-then-state-file-clause-answer
returns-then-state-file-clause-answer c = ap (λ r. went_from c.args.from (Err r)) c.at.ensures ∙ (refused (goal.at.returns-then-state-file-clause-answer c).After-at).0

pub returns-then-state-file-clause-state : goal.returns-then-state-file-clause-state
returns-then-state-file-clause-state c = (refused (goal.at.returns-then-state-file-clause-state c).After-at).1

pub returns-then-state-file-clause-text : goal.returns-then-state-file-clause-text
returns-then-state-file-clause-text c = (refused (goal.at.returns-then-state-file-clause-text c).After-at).2

-- the page
pub returns-clause-answer : goal.returns-clause-answer
returns-clause-answer c =
    let x = c.args in
    (answered x.words.now x.state.now x.from x.text.now _ c.in_ok-file.ensures c.count-count.ensures c.if-state-file.false c.if-visits-from.false c.if-text-lt-LEAST_ROOM.false c.put_page.ensures).0

pub returns-clause-state : goal.returns-clause-state
returns-clause-state c =
    let x = c.args in
    (answered x.words.now x.state.now x.from x.text.now _ c.in_ok-file.ensures c.count-count.ensures c.if-state-file.false c.if-visits-from.false c.if-text-lt-LEAST_ROOM.false c.put_page.ensures).1

pub returns-clause-text : goal.returns-clause-text
returns-clause-text c =
    let x = c.args in
    (answered x.words.now x.state.now x.from x.text.now _ c.in_ok-file.ensures c.count-count.ensures c.if-state-file.false c.if-visits-from.false c.if-text-lt-LEAST_ROOM.false c.put_page.ensures).2
