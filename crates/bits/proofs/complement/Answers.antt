-- `bits::complement` meets its contract: it turns each bit. Assumes nothing.
use native.Mathlib.Omega.{arith}
use Rattle.bits.proofs.complement.Goals as goal
use Rattle.bits.proofs.Laws.{word_of, complement_of}

pub returns : goal.returns
returns c = word_of _ _ (omega arith) (λ i h. complement_of c.args.a i c.ranges.a.fits h)
