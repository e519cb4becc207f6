-- Two results that a public function's contract allows are equal: each contract is one equation for the answer. Assumes nothing.
use mathlib.Core.Path.{sym, ◌∙◌}
use denote.RattleType.{RattleType}
use denote.Param.Laws.{Laws, IsCopy}
use mir.Syntax.{Dict}
use Rattle.std.specs.declared.clone.Clone.{Ghosts}
use Rattle.verdict.specs.Promise.{Decides}
use Rattle.section.proofs.count.Reads as count_reads
use Rattle.section.proofs.limit.counted.Reads as counted_reads
use Rattle.section.proofs.limit.up_to.Reads as up_to_reads
use Rattle.section.proofs.reach.Reads as reach_reads
use Rattle.section.proofs.word.Reads as word_reads

pub count : Decides count_reads.Post
count κs a x y s t p q = p.0 ∙ sym q.0

pub word : Decides word_reads.Post
word κs a x y s t p q = p ∙ sym q

-- at any type of what a test gives, or of what stands for a refusal
module _ (T : RattleType) (laws : Laws T) (copied : IsCopy T) (cloned : Ghosts T.Denot) (calls : Dict) where
  pub counted : Decides (counted_reads.Post T laws copied cloned calls)
  counted κs a x y s t p q = p ∙ sym q

  pub up_to : Decides (up_to_reads.Post T laws copied cloned calls)
  up_to κs a x y s t p q = p ∙ sym q

  pub reach : Decides (reach_reads.Post T laws copied cloned calls)
  reach κs a x y s t p q = p ∙ sym q
