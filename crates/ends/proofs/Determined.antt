-- Two results that a public function's contract allows are equal, and so is the buffer that they leave: each contract is one
-- equation for the answer and one for the buffer.
use mathlib.Core.Path.{sym, ◌∙◌}
use Rattle.verdict.specs.Promise.{DecidesBoth}
use Rattle.ends.proofs.put_head.Reads as put_head_reads
use Rattle.ends.proofs.put_end.Reads as put_end_reads
use Rattle.ends.proofs.put_refusal.Reads as put_refusal_reads

pub put_head : DecidesBoth put_head_reads.Post (λ κs s. s.0.now)
put_head κs a x y s t p q = (p.0 ∙ sym q.0, p.1 ∙ sym q.1)

pub put_end : DecidesBoth put_end_reads.Post (λ κs s. s.0.now)
put_end κs a x y s t p q = (p.0 ∙ sym q.0, p.1 ∙ sym q.1)

pub put_refusal : DecidesBoth put_refusal_reads.Post (λ κs s. s.0.now)
put_refusal κs a x y s t p q = (p.0 ∙ sym q.0, p.1 ∙ sym q.1)
