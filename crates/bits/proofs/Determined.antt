-- Two results that a public function's contract allows are equal: each contract is one equation for the answer.
-- Assumes nothing.
use mathlib.Core.Path.{sym, ◌∙◌}
use Rattle.verdict.specs.Promise.{Decides}
use Rattle.bits.proofs.and_words.Reads as and_words_reads
use Rattle.bits.proofs.or_words.Reads as or_words_reads
use Rattle.bits.proofs.xor_words.Reads as xor_words_reads
use Rattle.bits.proofs.complement.Reads as complement_reads
use Rattle.bits.proofs.move_right.Reads as move_right_reads
use Rattle.bits.proofs.move_left.Reads as move_left_reads
use Rattle.bits.proofs.bit_at.Reads as bit_at_reads
use Rattle.bits.proofs.put_bit.Reads as put_bit_reads

pub and_words : Decides and_words_reads.Post
and_words κs a x y s t p q = p ∙ sym q

pub or_words : Decides or_words_reads.Post
or_words κs a x y s t p q = p ∙ sym q

pub xor_words : Decides xor_words_reads.Post
xor_words κs a x y s t p q = p ∙ sym q

pub complement : Decides complement_reads.Post
complement κs a x y s t p q = p ∙ sym q

pub move_right : Decides move_right_reads.Post
move_right κs a x y s t p q = p ∙ sym q

pub move_left : Decides move_left_reads.Post
move_left κs a x y s t p q = p ∙ sym q

pub bit_at : Decides bit_at_reads.Post
bit_at κs a x y s t p q = p ∙ sym q

pub put_bit : Decides put_bit_reads.Post
put_bit κs a x y s t p q = p ∙ sym q
