-- CMPR, MBIT and SENS on the words of a table, by their indexes: what each earns, the number of the
-- refusal or 0, and what it is to do. Assumes nothing.
use Rattle.std.specs.Prelude.{ℕ, ◌+◌, Bool, cond, ◌||◌, [], eqb, ltb, get_or, Option, Some, None}
use Rattle.verdict.specs.Lists.{Table}
use Rattle.runs.specs.Run.{run, fault, unless}
use Rattle.bits.specs.Bit.{longest_whole, longest}
use Rattle.record.specs.declared.Node.{Node}
use Rattle.blocks.specs.declared.Power.{Power}
use Rattle.blocks.specs.View.{seen}
use Rattle.blocks.specs.Effect.{Effect, compare, modify, sense}

-- CMPR: the pointer's register at p, then the runs of n words from s on and after the register
abbrev pub compare_fault : ℕ → ℕ → ℕ → ℕ → ℕ
compare_fault words n s p = cond (ltb p words) (fault longest_whole words n s (p + 1)) 8

-- MBIT and SENS: the run of n words from d on, then the pointer's register, unless the pointer is a constant
abbrev pub pointed_fault : ℕ → Node → ℕ → ℕ → ℕ → ℕ
pointed_fault words node register n d =
    unless (fault longest words n d d) (cond (eqb node.class 9 || ltb register words) 0 8) (fault longest words n d d)

-- CMPR's pointer: the constant that is given, or else the content of the register at p, 0 where that is outside the table
abbrev pub pointer_from : Option ℕ → ℕ → Table → ℕ
pointer_from (Some value) p t = value
pointer_from None p t = get_or t p 0

-- CMPR: the n words from s on against the n words after the pointer's register at p; MBIT: the n words from d on; SENS: from s on. The pointer
-- is `at`
abbrev pub compared_at : ℕ → Table → ℕ → ℕ → ℕ → Power → Effect
compared_at at t s p n on = compare n (seen (run t s n) (run t (p + 1) n) at) on

abbrev pub modified_at : Bool → ℕ → Table → ℕ → ℕ → Power → Effect
modified_at held at t d n on = modify held n (seen [] (run t d n) at) on

abbrev pub sensed_at : Bool → ℕ → Table → ℕ → ℕ → Power → Effect
sensed_at held at t s n on = sense held n (seen (run t s n) [] at) on
