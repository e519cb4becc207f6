-- What is done to one word, said of its bits. Assumes nothing.
use Rattle.std.specs.Prelude.{ℕ, ◌+◌, ◌-◌, Bool, cond, eqb}
use Rattle.bits.specs.Bit.{of}

-- moved one to the right (bit 1 into 2): the last bit of the word before it enters at 1
abbrev pub rightward : ℕ → ℕ → ℕ → Bool
rightward before w p = cond (eqb p 1) (of before 16) (of w (p - 1))

-- moved one to the left (bit 2 into 1): the first bit of the word after it enters at 16
abbrev pub leftward : ℕ → ℕ → ℕ → Bool
leftward w after p = cond (eqb p 16) (of after 1) (of w (p + 1))

-- with the bit at one position put on or off
abbrev pub put : ℕ → ℕ → Bool → ℕ → Bool
put w p on q = cond (eqb q p) on (of w q)
