-- Two results that a public function's contract allows are equal: each contract is one equation for the answer, or for what it says,
-- and two answers that say the same are the same. Assumes nothing.
use mathlib.Core.Path.{sym, ◌∙◌}
use Rattle.verdict.specs.Promise.{Decides}
use Rattle.verdict.proofs.Said.{numbered_once}
use Rattle.network.proofs.checker.block_count.Reads as block_count_reads
use Rattle.network.proofs.checker.check.Reads as check_reads
use Rattle.network.proofs.checker.end.Reads as end_reads
use Rattle.network.proofs.checker.leading.Reads as leading_reads
use Rattle.network.proofs.checker.opening.Reads as opening_reads
use Rattle.network.proofs.checker.Opened.sizes.Reads as opened_sizes_reads
use Rattle.network.proofs.checker.Opened.count.Reads as opened_count_reads
use Rattle.network.proofs.checker.Opened.next.Reads as opened_next_reads
use Rattle.network.proofs.reading.record_at.Reads as record_at_reads

pub block_count : Decides block_count_reads.Post
block_count κs a x y s t p q = p ∙ sym q

pub check : Decides check_reads.Post
check κs a x y s t p q = numbered_once x y (p ∙ sym q)

pub end : Decides end_reads.Post
end κs a x y s t p q = p ∙ sym q

pub leading : Decides leading_reads.Post
leading κs a x y s t p q = p.0 ∙ sym q.0

pub opening : Decides opening_reads.Post
opening κs a x y s t p q = numbered_once x y (p ∙ sym q)

pub record_at : Decides record_at_reads.Post
record_at κs a x y s t p q = numbered_once x y (p ∙ sym q)

pub opened_sizes : Decides opened_sizes_reads.Post
opened_sizes κs a x y s t p q = p ∙ sym q

pub opened_count : Decides opened_count_reads.Post
opened_count κs a x y s t p q = p ∙ sym q

pub opened_next : Decides opened_next_reads.Post
opened_next κs a x y s t p q = p ∙ sym q
