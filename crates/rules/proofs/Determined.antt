-- Two results that a public function's contract allows are equal: each contract is one equation for the answer. Assumes nothing.
use mathlib.Core.Path.{◌≡◌, sym, ◌∙◌}
use denote.Ref.{Bor}
use Rattle.verdict.specs.Promise.{Decides}
use Rattle.rules.specs.declared.rules.Rule.{Rule}
use Rattle.rules.proofs.codes.KindTryFromU16.try_from.Reads as kind_reads
use Rattle.rules.proofs.codes.ClassTryFromU16.try_from.Reads as class_reads
use Rattle.rules.proofs.codes.SourceTryFromU16.try_from.Reads as source_reads
use Rattle.rules.proofs.fault.judged.Reads as judged_reads
use Rattle.rules.proofs.rules.rule_of.Reads as rule_of_reads
use Rattle.rules.proofs.rules.Classes.allows.Reads as allows_reads

pub judged : Decides judged_reads.Post
judged κs a x y s t p q = p.0 ∙ sym q.0

pub allows : Decides allows_reads.Post
allows κs a x y s t p q = p ∙ sym q

-- of an answer that is a reference into the constant table, the row
pub rule_of : (κs : _) (a : _) (x y : Bor Rule) (s t : _) → rule_of_reads.Post κs a x s → rule_of_reads.Post κs a y t → x.now ≡ y.now
rule_of κs a x y s t p q = p ∙ sym q

pub kind_from : Decides kind_reads.Post
kind_from κs a x y s t p q = p ∙ sym q

pub class_from : Decides class_reads.Post
class_from κs a x y s t p q = p ∙ sym q

pub source_from : Decides source_reads.Post
source_from κs a x y s t p q = p ∙ sym q
