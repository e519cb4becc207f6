-- What a work with the indexes of its words worked out earns and does.
use Rattle.std.specs.Prelude.{ℕ, eqb, length, None}
use Rattle.std.proofs.Math.Option.{none}
use Rattle.verdict.specs.Lists.{Table}
use Rattle.runs.specs.Run.{fault, unless}
use Rattle.bits.specs.Bit.{longest_whole}
use Rattle.blocks.specs.declared.Power.{Power}
use Rattle.blocks.specs.View.{pointer_at}
use Rattle.blocks.specs.Effect.{Effect, idle}
use Rattle.blocks.specs.Work.{effect_put, outputs}
use Rattle.blocks.specs.Answer.{Worked, finished, refused}
use Rattle.pointed.specs.Call.{compare_fault, pointed_fault, pointer_from, compared_at, modified_at, sensed_at}
use Rattle.pointed.specs.Places.{place_node, place_word}
use Rattle.kinds.specs.Inner.{combined_at, rotated_at}
use Rattle.kinds.specs.declared.task.Work.{Work}
use Rattle.kinds.specs.declared.task.Work.TheVariants.{Combine, Compare, Modify, Sense, Rotate, Unknown}

-- the refusal that n words earn in a table of so many; 4 for no kind, whatever they are
abbrev pub task_fault : Work → ℕ → ℕ → ℕ
task_fault (Combine operation s d) n words = fault longest_whole words n s d
task_fault (Compare s p) n words = compare_fault words n s p
task_fault (Modify p d) n words = pointed_fault words (place_node p) (place_word p) n d
task_fault (Sense p s) n words = pointed_fault words (place_node p) (place_word p) n s
task_fault (Rotate s d) n words = fault longest_whole words n s d
task_fault Unknown n words = 4

abbrev pub task_effect : Work → ℕ → Table → Power → Effect
task_effect (Combine operation s d) n t on = combined_at operation t s d n on
task_effect (Compare s p) n t on = compared_at (pointer_from None p t) t s p n on
task_effect (Modify p d) n t on = modified_at (eqb (place_node p).class 4) (pointer_at (place_node p) (place_word p) t) t d n on
task_effect (Sense p s) n t on = sensed_at (eqb (place_node p).class 4) (pointer_at (place_node p) (place_word p) t) t s n on
task_effect (Rotate s d) n t on = rotated_at t s n on
task_effect Unknown n t on = idle none

-- where its matrix goes, and its pointer
abbrev pub task_matrix : Work → ℕ
task_matrix (Combine operation s d) = d
task_matrix (Compare s p) = p
task_matrix (Modify p d) = d
task_matrix (Sense p s) = s
task_matrix (Rotate s d) = d
task_matrix Unknown = 0

abbrev pub task_pointer : Work → ℕ
task_pointer (Combine operation s d) = s
task_pointer (Compare s p) = p
task_pointer (Modify p d) = place_word p
task_pointer (Sense p s) = place_word p
task_pointer (Rotate s d) = s
task_pointer Unknown = 0

-- what the call of n words answers, and the table that it leaves
abbrev pub task_answer : Work → ℕ → Table → Power → Worked
task_answer w n t on = unless (task_fault w n (length t)) (finished (outputs on (task_effect w n t on))) (refused (task_fault w n (length t)))

abbrev pub task_table : Work → ℕ → Table → Power → Table
task_table w n t on = unless (task_fault w n (length t)) (effect_put (task_matrix w) n (task_pointer w) (task_effect w n t on) t) t
