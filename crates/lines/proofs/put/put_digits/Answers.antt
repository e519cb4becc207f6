use Rattle.lines.proofs.Pieces.{no_digits, digit_more, digits_put}
use Rattle.lines.proofs.put.put_digits.Goals as goal

pub loop-i-init : goal.loop-i-init
loop-i-init g c = no_digits g.row.N c.args.n c.args.at c.args.text.now c.requires.1

pub loop-i-preserved : goal.loop-i-preserved
loop-i-preserved g c = digit_more g.row.N c.args.n c.args.at c.loop-i.i c.loop-i.rest c.args.text.now c.loop-i.text c.loop-i-test.true c.loop-i.auto.i c.loop-i.invariant

pub returns : goal.returns
returns g c = digits_put g.row.N c.args.n c.args.at c.loop-i.i c.loop-i.rest c.args.text.now c.loop-i.text c.loop-i-test.false c.requires.0 c.loop-i.invariant
