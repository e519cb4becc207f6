use Rattle.lines.proofs.Pieces.{Digits}
use Rattle.lines.proofs.put.put_digits.Given as goal

abbrev pub invariant-loop-i : goal.invariant-loop-i
invariant-loop-i g l = Digits g.row.N l.i l.n l.rest l.at l.fn.text l.text
