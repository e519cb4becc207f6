-- `bits::xor_words` meets its contract: the operation on the words is the operation on each bit. Assumes nothing.
use lib.Bits.{xor_lt}
use Rattle.bits.proofs.xor_words.Goals as goal
use Rattle.bits.proofs.Laws.{word_of, xor_of}

pub returns : goal.returns
returns c =
    word_of _ _ (xor_lt 16 c.args.a c.args.b c.ranges.a.fits c.ranges.b.fits) (xor_of c.args.a c.args.b)
