-- Two results that the public function's contract allows are equal: the contract is one equation for the answer.
use mathlib.Core.Path.{sym, ◌∙◌}
use Rattle.verdict.specs.Promise.{Decides}
use Rattle.inputs.proofs.power_on.Reads as power_on_reads

pub power_on : Decides power_on_reads.Post
power_on κs a x y s t p q = p ∙ sym q
