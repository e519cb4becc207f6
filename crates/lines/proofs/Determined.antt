-- Two results that a public function's contract allows are equal, and so is the buffer that they leave: each contract is one
-- equation for the answer and one for the buffer.
use mathlib.Core.Path.{sym, ◌∙◌}
use Rattle.verdict.specs.Promise.{DecidesBoth}
use Rattle.lines.proofs.put_compare_line.Reads as put_compare_line_reads
use Rattle.lines.proofs.put_plain_line.Reads as put_plain_line_reads
use Rattle.lines.proofs.put_pointed_line.Reads as put_pointed_line_reads

pub put_plain_line : DecidesBoth put_plain_line_reads.Post (λ κs s. s.0.now)
put_plain_line κs a x y s t p q = (p.0 ∙ sym q.0, p.1 ∙ sym q.1)

pub put_pointed_line : DecidesBoth put_pointed_line_reads.Post (λ κs s. s.0.now)
put_pointed_line κs a x y s t p q = (p.0 ∙ sym q.0, p.1 ∙ sym q.1)

pub put_compare_line : DecidesBoth put_compare_line_reads.Post (λ κs s. s.0.now)
put_compare_line κs a x y s t p q = (p.0 ∙ sym q.0, p.1 ∙ sym q.1)
