-- Two results that a public function's contract allows are equal: each contract is one equation for what the answer says, and two answers
-- that say the same are the same.
use mathlib.Core.Path.{sym, ◌∙◌}
use Rattle.verdict.specs.Promise.{Decides}
use Rattle.verdict.proofs.Said.{fault_number_once}
use Rattle.runs.proofs.fault.Reads as fault_reads
use Rattle.runs.proofs.fault_at.Reads as fault_at_reads

pub fault : Decides fault_reads.Post
fault κs a x y s t p q = fault_number_once x y (p ∙ sym q)

pub fault_at : Decides fault_at_reads.Post
fault_at κs a x y s t p q = fault_number_once x y (p ∙ sym q)
