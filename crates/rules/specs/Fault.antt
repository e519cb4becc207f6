-- The refusal that each word of a record earns when it is reached, 0 for none. Every test
-- of a record, by whichever tool, goes by these. Assumes nothing.
use Rattle.std.specs.Prelude.{ℕ, ◌+◌, ◌*◌, Bool, cond, List, [], ◌∷◌, leb, eqb}
use Rattle.verdict.specs.Verdict.{Verdict}
use Rattle.section.specs.Limit.{counted, up_to}
use Rattle.section.specs.Walk.{seek}
use Rattle.level.specs.Level.{at_level, most_constant}
use Rattle.table.specs.declared.sizes.Sizes.{Sizes}
use Rattle.table.specs.Table.{reference_fault}
use Rattle.record.specs.declared.{Node.Node, Input.Input, Block.Block}
use Rattle.rules.specs.declared.rules.Classes.{Classes}
use Rattle.rules.specs.Rules.{rule, allows}

-- how long a block of a kind may be, and how high a constant: as the level has it
abbrev pub length_in : Sizes → ℕ → ℕ
length_in z k = at_level (rule k).most z.level

abbrev pub constant_in : Sizes → ℕ
constant_in z = at_level most_constant z.level

-- 6: class not allowed in that node
unfoldable pub class_fault : Classes → ℕ → ℕ
unfolding allows
class_fault c class = cond (allows c class) 0 6

-- 6: constant over the level's greatest; else as for a reference to so many words
unfoldable pub number_fault : Sizes → Node → ℕ → ℕ
unfolding reference_fault at_level
number_fault z node words =
    cond (eqb node.class 9) (up_to (constant_in z) node.number 6) (reference_fault z node.class node.number words)

-- 9: number not 0 for codes 0 and 1; contact 0 or past its area; block 0 or not one of the earlier ones
unfoldable pub input_fault : Sizes → ℕ → Input → ℕ
input_fault z earlier input =
    cond (leb input.code 1) (up_to 0 input.number 9)
    (cond (leb input.code 3) (counted (16 * z.coils) input.number 9)
    (cond (leb input.code 5) (counted (16 * z.discretes) input.number 9)
    (counted earlier input.number 9)))

-- how many words the top node refers to: a pointer is one register
abbrev pub top_words : Bool → ℕ → ℕ
top_words pointer n = cond pointer 1 n

-- What the 15 words of a record earn, in their order, where so many blocks are earlier: kind not 1 to 8 (4); n out of range
-- for the kind at this level (5); class (6) and number (6, 7, 8) of the top node, then of the middle node; unknown code (9) and number (9)
-- of each input; coil past its area (10), 0 for none.
unfoldable pub faults : Sizes → ℕ → Block → List ℕ
unfolding rule at_level class_fault number_fault input_fault
faults z earlier b =
    counted 8 b.kind 4 ∷ counted (length_in z b.kind) b.n 5
    ∷ class_fault (rule b.kind).top b.top.class ∷ number_fault z b.top (top_words (rule b.kind).pointer b.n)
    ∷ class_fault (rule b.kind).middle b.middle.class ∷ number_fault z b.middle (b.n + (rule b.kind).extra)
    ∷ up_to 8 b.inputs.top.code 9 ∷ input_fault z earlier b.inputs.top
    ∷ up_to 8 b.inputs.middle.code 9 ∷ input_fault z earlier b.inputs.middle
    ∷ up_to 8 b.inputs.bottom.code 9 ∷ input_fault z earlier b.inputs.bottom
    ∷ up_to (16 * z.coils) b.coils.top 10 ∷ up_to (16 * z.coils) b.coils.middle 10 ∷ up_to (16 * z.coils) b.coils.bottom 10
    ∷ []

-- the first refusal among them, where the words stand from an index on among so many words
abbrev pub judged : Sizes → ℕ → Block → ℕ → ℕ → Verdict
judged z earlier b at size = seek (faults z earlier b) size at
