-- A block's work by the indexes of its nodes' first words, for a table of any length, and the refusals of the call that does it:
-- 4 for a kind that is none of the eight, 5 for a length that the kind does not take, 8 for a run
-- or a pointer's register outside the table, at place 0. And the pointer that a block shows. Assumes nothing.
use Rattle.std.specs.Prelude.{ℕ, cond, length}
use Rattle.verdict.specs.Lists.{Table}
use Rattle.runs.specs.Run.{fault, unless}
use Rattle.bits.specs.Bit.{longest_whole}
use Rattle.rules.specs.Rules.{kind}
use Rattle.blocks.specs.declared.{Power.Power, Located.Located}
use Rattle.blocks.specs.Kind.{Kind, kind_of, has_pointer}
use Rattle.blocks.specs.Kind.Kind.{AND, OR, XOR, COMP, CMPR, MBIT, SENS, BROT}
use Rattle.blocks.specs.View.{pointer_at, seen_by}
use Rattle.blocks.specs.Effect.{Effect, effect_of}
use Rattle.blocks.specs.Work.{pointer_node, matrix_put, change_put, effect_put, effect_as, outputs}
use Rattle.blocks.specs.Answer.{Worked, finished, refused}
use Rattle.pointed.specs.Call.{compare_fault, pointed_fault}

-- ---- refusals

-- what a block of a kind earns in a table of so many words: the number of the refusal, or 0
unfoldable pub kind_fault : Kind → Located → ℕ → ℕ
kind_fault AND one words = fault longest_whole words one.block.n one.top one.middle
kind_fault OR one words = fault longest_whole words one.block.n one.top one.middle
kind_fault XOR one words = fault longest_whole words one.block.n one.top one.middle
kind_fault COMP one words = fault longest_whole words one.block.n one.top one.middle
kind_fault CMPR one words = compare_fault words one.block.n one.top one.middle
kind_fault MBIT one words = pointed_fault words one.block.top one.top one.block.n one.middle
kind_fault SENS one words = pointed_fault words one.block.top one.top one.block.n one.middle
kind_fault BROT one words = fault longest_whole words one.block.n one.top one.middle

unfoldable pub work_fault : Located → ℕ → ℕ
unfolding kind_of kind_fault
work_fault one words = cond (kind one.block.kind) (kind_fault (kind_of one.block.kind) one words) 4

-- ---- the answer, and the table that is left

-- the index of the pointer's word: CMPR's stands before its matrix
abbrev pub pointer_word : Kind → Located → ℕ
pointer_word CMPR one = one.middle
pointer_word AND one = one.top
pointer_word OR one = one.top
pointer_word XOR one = one.top
pointer_word COMP one = one.top
pointer_word MBIT one = one.top
pointer_word SENS one = one.top
pointer_word BROT one = one.top

-- what the block is to do, with so much power on its inputs
abbrev pub effect_here : Located → Table → Power → Effect
effect_here one t on = effect_as (kind_of one.block.kind) one.block (seen_by (kind_of one.block.kind) one t) on

unfoldable pub work_answer : Located → Table → Power → Worked
unfolding kind_of seen_by effect_of work_fault
work_answer one t on = unless (work_fault one (length t)) (finished (outputs on (effect_here one t on))) (refused (work_fault one (length t)))

unfoldable pub work_table : Located → Table → Power → Table
unfolding kind_of seen_by effect_of matrix_put change_put work_fault
work_table one t on =
    unless (work_fault one (length t)) (effect_put one.middle one.block.n (pointer_word (kind_of one.block.kind) one) (effect_here one t on) t) t

-- ---- the pointer that a block shows

-- a constant itself, or the register's content, 0 where that is outside the table; 0 for a kind without one
unfoldable pub pointer_shown : Located → Table → ℕ
unfolding kind_of
pointer_shown one t =
    cond (has_pointer one.block.kind)
    (pointer_at (pointer_node (kind_of one.block.kind) one.block) (pointer_word (kind_of one.block.kind) one) t) 0
