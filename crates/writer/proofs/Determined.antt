-- Two results that the public function's contract allows are equal, and so is what they leave in the lent buffer: its contract is one
-- equation for what the answer says and one for the buffer, and two answers that say the same are the same. Assumes nothing.
use mathlib.Core.Path.{sym, ◌∙◌}
use Rattle.verdict.specs.Promise.{DecidesBoth}
use Rattle.verdict.proofs.Said.{numbered_once}
use Rattle.writer.proofs.write_record.Reads as write_record_reads

pub write_record : DecidesBoth write_record_reads.Post (λ κs s. s.1.1.1.0.now)
write_record κs a x y s t p q = (numbered_once x y (p.0 ∙ sym q.0), p.1 ∙ sym q.1)
