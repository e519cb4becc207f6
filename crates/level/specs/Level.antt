-- The levels of a machine, 1 and 2, and the limits that go by them. Every limit that a level changes stands
-- here; no other definition has a case for the level. Assumes nothing.
use Rattle.std.specs.Prelude.{ℕ, cond, eqb}
use Rattle.bits.specs.Bit.{longest_whole, longest}
use Rattle.level.specs.declared.ByLevel.{ByLevel}

-- the highest level
abbrev pub most_level : ℕ
most_level = 2

-- a limit at a level; at another level nothing is allowed
unfoldable pub at_level : ByLevel → ℕ → ℕ
at_level limit level = cond (eqb level 1) limit.one (cond (eqb level 2) limit.two 0)

-- a limit that is the same at both
abbrev pub at_both : ℕ → ByLevel
at_both n = record { one = n; two = n }

-- the greatest length, in words, of a matrix that a block works on as a whole (AND to BROT), and of one in which it works on
-- single bits (MBIT, SENS) or that is asked for
abbrev pub whole_length : ByLevel
whole_length = at_both longest_whole

abbrev pub single_length : ByLevel
single_length = record { one = 255; two = longest }

-- the greatest constant
abbrev pub most_constant : ByLevel
most_constant = record { one = 999; two = 9600 }
