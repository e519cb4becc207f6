-- What the contracts of the crate's own functions cite: AND, OR, XOR, COMP and BROT on the words of a table, by their indexes, and the
-- work of a block of a kind.
use Rattle.std.specs.Prelude.{ℕ, cond, [], eqb, length, Option, Some, None}
use Rattle.verdict.specs.Lists.{Table}
use Rattle.record.specs.declared.Node.{Node}
use Rattle.matrix.specs.declared.logic.Operation.{Operation}
use Rattle.runs.specs.Run.{run}
use Rattle.blocks.specs.declared.{Power.Power, Located.Located}
use Rattle.blocks.specs.Kind.{Kind}
use Rattle.blocks.specs.View.{seen, seen_by}
use Rattle.blocks.specs.Effect.{Effect, logic, rotate}
use Rattle.blocks.specs.Work.{effect_as}
use Rattle.blocks.specs.Answer.{Worked, Does}
use Rattle.kinds.specs.Call.{kind_fault, pointer_word}

abbrev pub combined_at : Operation → Table → ℕ → ℕ → ℕ → Power → Effect
combined_at operation t s d n on = logic operation n (seen (run t s n) (run t d n) 0) on

abbrev pub rotated_at : Table → ℕ → ℕ → Power → Effect
rotated_at t s n on = rotate n (seen (run t s n) [] 0) on

-- what a block of a kind earns, answers and leaves
abbrev pub DoesAs : Kind → Located → Power → Table → Worked → Table → Type 0
DoesAs kind one on t r table =
    Does (kind_fault kind one (length t)) on (effect_as kind one.block (seen_by kind one t) on) one.middle one.block.n (pointer_word kind one) t r table

-- the constant that a node gives, if it gives one
abbrev pub constant_at : Node → Option ℕ
constant_at node = cond (eqb node.class 9) (Some node.number) None
