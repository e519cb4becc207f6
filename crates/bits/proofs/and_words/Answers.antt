-- `bits::and_words` meets its contract: the operation on the words is the operation on each bit. Assumes nothing.
use lib.Bits.{and_lt}
use Rattle.bits.proofs.and_words.Goals as goal
use Rattle.bits.proofs.Laws.{word_of, and_of}

pub returns : goal.returns
returns c =
    word_of _ _ (and_lt 16 c.args.a c.args.b c.ranges.a.fits c.ranges.b.fits) (and_of c.args.a c.args.b)
