-- `bits::or_words` meets its contract: the operation on the words is the operation on each bit. Assumes nothing.
use lib.Bits.{or_lt}
use Rattle.bits.proofs.or_words.Goals as goal
use Rattle.bits.proofs.Laws.{word_of, or_of}

pub returns : goal.returns
returns c =
    word_of _ _ (or_lt 16 c.args.a c.args.b c.ranges.a.fits c.ranges.b.fits) (or_of c.args.a c.args.b)
