-- Two results that the contract of `scan_packed` allows are equal, and so is what they leave in the table and in the outputs: it is one
-- equation for what the answer says and one for each lent buffer.
use mathlib.Core.Path.{sym, ◌∙◌}
use Rattle.verdict.specs.Promise.{DecidesBoth}
use Rattle.verdict.proofs.Said.{numbered_once}
use Rattle.scan.proofs.scan_packed.Reads as packed_reads

pub packed_and_table : DecidesBoth packed_reads.Post (λ κs s. s.1.0.now)
packed_and_table κs a x y s t p q = (numbered_once x y (p.0 ∙ sym q.0), p.1.0 ∙ sym q.1.0)

pub packed_and_outputs : DecidesBoth packed_reads.Post (λ κs s. s.1.1.0.now)
packed_and_outputs κs a x y s t p q = (numbered_once x y (p.0 ∙ sym q.0), p.1.1 ∙ sym q.1.1)
