-- Two results that a public function's contract allows are equal: each contract is one equation for the answer. Of the part that
-- `matrix` shows, the words are decided; that they are the caller's own is what returning a part of the lent slice means. Assumes
-- nothing.
use mathlib.Core.Path.{sym, ◌∙◌}
use Rattle.verdict.specs.Promise.{Decides, DecidesWords}
use Rattle.table.proofs.part.matrix.Reads as matrix_reads
use Rattle.table.proofs.part.start.Reads as start_reads
use Rattle.table.proofs.part.total.Reads as total_reads
use Rattle.table.proofs.sizes.allowed.Reads as allowed_reads
use Rattle.table.proofs.Areas.{area_once}
use Rattle.table.proofs.area.Area.holds.Reads as area_holds_reads
use Rattle.table.proofs.area.AreaTryFromU16.try_from.Reads as area_reads
use Rattle.table.proofs.sizes.reference_fault.Reads as reference_fault_reads
use Rattle.verdict.proofs.Said.{fault_number_once}

pub matrix : DecidesWords matrix_reads.Post (λ κs r. r.now)
matrix κs a x y s t p q = p ∙ sym q

pub start : Decides start_reads.Post
start κs a x y s t p q = p ∙ sym q

pub total : Decides total_reads.Post
total κs a x y s t p q = p ∙ sym q

pub allowed : Decides allowed_reads.Post
allowed κs a x y s t p q = p ∙ sym q

pub reference_fault : Decides reference_fault_reads.Post
reference_fault κs a x y s t p q = fault_number_once x y (p ∙ sym q)

pub area_holds : Decides area_holds_reads.Post
area_holds κs a x y s t p q = p.0 ∙ sym q.0

pub area_from : Decides area_reads.Post
area_from κs a x y s t p q = area_once _ x y p q
