-- Two results that a public function's contract allows are equal: each contract is one equation for the answer.
use mathlib.Core.Path.{sym, ◌∙◌}
use Rattle.verdict.specs.Promise.{Decides}
use Rattle.text.proofs.line_fits.Reads as line_fits_reads
use Rattle.text.proofs.label.Reads as label_reads

pub line_fits : Decides line_fits_reads.Post
line_fits κs a x y s t p q = p ∙ sym q

pub label : Decides label_reads.Post
label κs a x y s t p q = p ∙ sym q
