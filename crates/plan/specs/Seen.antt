-- What a look sees in a run's state, whose table has so many words, and what a spot puts there.
use Rattle.std.specs.Prelude.{ℕ, ◌+◌, ◌-◌, ◌≤◌, ◌<◌, Bool, cond, List, eqb, get_or, set, Option, Some, None}
use Rattle.std.specs.Int.Bits.{bit_and, bit_or}
use Rattle.plan.specs.declared.{Look.Look, Spot.Spot, Output.Output}
use Rattle.plan.specs.declared.Look.TheVariants.{Fixed, Contact, Earlier}
use Rattle.plan.specs.declared.Output.TheVariants.{Top, Middle, Bottom}

-- the bit of an output in its block's word
abbrev pub output_mask : Output → ℕ
output_mask Top = 1
output_mask Middle = 2
output_mask Bottom = 4

-- power always or never; where the word at the index, masked, is the wanted one; where an earlier block's output is on
abbrev pub sees : List ℕ → ℕ → Look → Bool
sees s size (Fixed on) = on
sees s size (Contact at mask wanted) = eqb (bit_and (get_or s at 0) mask) wanted
sees s size (Earlier block output) = eqb (bit_and (get_or s (size + block) 0) (output_mask output)) (output_mask output)

-- that it looks into a state of so many words
abbrev pub look_inside : ℕ → ℕ → Look → Type 0
look_inside words size (Fixed on) = size ≤ words
look_inside words size (Contact at mask wanted) = at < words
look_inside words size (Earlier block output) = size + block < words

-- a word with the mask's bits put
abbrev pub masked : ℕ → ℕ → Bool → ℕ
masked w m on = cond on (bit_or w m) (bit_and w (65535 - m))

-- a state with a spot put on or off
abbrev pub spot_put : List ℕ → Option Spot → Bool → List ℕ
spot_put s None on = s
spot_put s (Some p) on = set s p.at (masked (get_or s p.at 0) p.mask on)

-- that it lies in a state of so many words
abbrev pub spot_inside : ℕ → Option Spot → Type 0
spot_inside words None = 0 ≤ words
spot_inside words (Some p) = p.at < words
