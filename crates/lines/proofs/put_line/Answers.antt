use Rattle.std.proofs.Common.{arith, sym, ◌≡◌, ◌∙◌, true, length}
use Rattle.verdict.specs.Promise.{Leaves}
use Rattle.text.specs.Text.{line_fits, place_after, laid}
use Rattle.text.proofs.Putting.{put_long}
use Rattle.text.proofs.Laying.{room_left, put_laid}
use Rattle.lines.specs.Tail.{tailed_line}
use Rattle.lines.proofs.Pieces.{tailed_put}
use Rattle.lines.proofs.put_line.Goals as goal
use Rattle.lines.proofs.put_line.Goals.{Else-not-line_fits, After-put_tail}

fitting : (c : Else-not-line_fits) → let x = c.args in line_fits (length x.text.now) x.at ≡ true
fitting c = sym c.line_fits.ensures ∙ c.if-not-line_fits.false

laid_line : (c : After-put_tail) → let x = c.args in
    line_fits (length x.text.now) x.at ≡ true
    → Leaves (place_after x.at (tailed_line x.scan x.block x.out x.tail) x.text.now) (laid x.at (tailed_line x.scan x.block x.out x.tail) x.text.now) c.put_tail.result c.put_tail.new.text
laid_line c e =
    let x = c.args in
    put_laid e (tailed_put x.scan x.block x.out x.tail c.put_front-next.ensures c.put_tail.ensures)

pub put_front-next-requires : goal.put_front-next-requires
put_front-next-requires c = omega (arith, room_left (length c.args.text.now) c.args.at (fitting (goal.at.put_front-next-requires c).Else-not-line_fits))

pub put_tail-requires : goal.put_tail-requires
put_tail-requires c =
    let p = c.put_front-next.ensures in
    omega (arith, room_left (length c.args.text.now) c.args.at (fitting (goal.at.put_tail-requires c).Else-not-line_fits), p.few, p.reaches, put_long p)

pub returns-clause-answer : goal.returns-clause-answer
returns-clause-answer c = (laid_line (goal.at.returns-clause-answer c).After-put_tail (fitting (goal.at.returns-clause-answer c).Else-not-line_fits)).answers

pub returns-clause-text : goal.returns-clause-text
returns-clause-text c = (laid_line (goal.at.returns-clause-text c).After-put_tail (fitting (goal.at.returns-clause-text c).Else-not-line_fits)).leaves
