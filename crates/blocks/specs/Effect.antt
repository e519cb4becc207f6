-- What a block is to write, its two lower outputs and its count, by its kind's rule: from
-- what it has read and the power on its inputs. Assumes nothing.
use Rattle.std.specs.Prelude.{ℕ, ◌-◌, ◌*◌, Bool, true, false, cond, ◌&&◌, eqb, ltb}
use Rattle.std.proofs.Math.Option.{Option, none, some}
use Rattle.verdict.specs.Lists.{Matrix}
use Rattle.bits.specs.Bit.{bit, matrix}
use Rattle.matrix.specs.declared.{logic.Operation.Operation, logic.Operation.TheVariants.And, logic.Operation.TheVariants.Or, logic.Operation.TheVariants.Xor, logic.Operation.TheVariants.Comp}
use Rattle.pointer.specs.declared.Pointer.{Pointer}
use Rattle.matrix.specs.Logic.{combined}
use Rattle.search.specs.Search.{first, first_differing}
use Rattle.matrix.specs.Move.{leaving, moved}
use Rattle.pointer.specs.Pointer.{reset, in_range, advanced}
use Rattle.blocks.specs.declared.Power.{Power}
use Rattle.blocks.specs.Kind.{Kind}
use Rattle.blocks.specs.Kind.Kind.{AND, OR, XOR, COMP, CMPR, MBIT, SENS, BROT}
use Rattle.blocks.specs.View.{View}

-- what happens to the destination: it stays, its words become a matrix, or the bit at one position is put on or off and every other
-- bit stays
pub data Change : Type 0 where
  stays : Change
  becomes : Matrix → Change
  puts : ℕ → Bool → Change

-- what happens to the destination; what the pointer becomes, none where it stays; the middle and the bottom output; how many bit pairs
-- were examined
pub record Effect : Type 0 where
  pub destination : Change
  pub pointer : Option ℕ
  pub middle : Bool
  pub bottom : Bool
  pub count : ℕ

-- no kind but CMPR examines pairs
abbrev pub effect : Change → Option ℕ → Bool → Bool → Effect
effect destination pointer middle bottom =
    record { destination = destination; pointer = pointer; middle = middle; bottom = bottom; count = 0 }

-- nothing is done but that the pointer becomes what a reset makes of it
abbrev pub idle : Option ℕ → Effect
idle pointer = effect stays pointer false false

-- a pointer into a matrix of n words
abbrev pub into : ℕ → ℕ → Pointer
into n at = record { at = at; size = 16 * n }

-- AND, OR, XOR, COMP: the destination's bit becomes the operation on both matrices' bits
unfoldable pub logic : Operation → ℕ → View → Power → Effect
unfolding combined
logic operation n v on =
    cond on.top
    (effect (becomes (matrix n (λ p. combined operation (bit v.source p) (bit v.destination p)))) none false false)
    (idle none)

-- CMPR. Power on the middle input sets the pointer to 0 first, with or without power on top.
abbrev pub zeroed : ℕ → View → Power → Pointer
zeroed n v on = cond on.middle (reset (into n v.pointer) 0) (into n v.pointer)

-- With power, a pointer of 16n or more counts as 0: the pointer that the compare starts from, after reset or wrap.
abbrev pub starts_at : ℕ → View → Power → ℕ
starts_at n v on = (in_range (zeroed n v on)).at

-- The pointer becomes the position reached; the count is that position less the pointer it started from.
abbrev pub reaching : ℕ → ℕ → Bool → Bool → Effect
reaching from to middle bottom =
    record { destination = stays; pointer = some to; middle = middle; bottom = bottom; count = to - from }

-- Found: the pointer is that position, middle on, bottom shows the source's bit. None: pointer 16n, middle and bottom off.
unfoldable pub found : ℕ → View → ℕ → Option ℕ → Effect
found n v from none = reaching from (16 * n) false false
found n v from (some p) = reaching from p true (bit v.source p)

-- With power the first differing position above the start is sought.
unfoldable pub compare : ℕ → View → Power → Effect
unfolding found first in_range reset
compare n v on =
    cond on.top
    (found n v (starts_at n v on) (first_differing v.source v.destination n (starts_at n v on)))
    (idle (cond on.middle (some (zeroed n v on).at) none))

-- BROT: the source moved one position goes to the destination; power on middle means left, power on bottom that the bit
-- that leaves enters at the other end. Middle output is the bit that left.
unfoldable pub rotate : ℕ → View → Power → Effect
unfolding moved
rotate n v on =
    cond on.top
    (effect (becomes (matrix n (moved on.middle on.bottom v.source n))) none (leaving on.middle v.source n) false)
    (idle none)

-- increase adds 1, but takes 16n to 1; without it the pointer is as it was left
abbrev pub increased : Bool → Option ℕ → Pointer → Option ℕ
increased on left p = cond on (some (advanced p).at) left

-- MBIT: the bit at the pointer becomes 1 with power on middle, else 0; power on bottom is increase. A pointer of 0 touches no
-- bit. Only a held pointer, one in class 4, is increased. With power on top the middle output equals the middle input, for pointer 0
-- and over 16n too.
unfoldable pub modify : Bool → ℕ → View → Power → Effect
unfolding advanced
modify held n v on =
    cond on.top
    (cond (ltb (16 * n) v.pointer)
    (effect stays none on.middle true)
    (effect
    (cond (eqb v.pointer 0) stays (puts v.pointer on.middle))
    (increased (held && on.bottom) none (into n v.pointer))
    on.middle
    false))
    (idle none)

-- SENS. Power on the bottom input sets a held pointer to 1 first, with or without power on top; power on middle is increase.
abbrev pub at_one : Bool → ℕ → View → Power → Pointer
at_one held n v on = cond (held && on.bottom) (reset (into n v.pointer) 1) (into n v.pointer)

abbrev pub left_at_one : Bool → ℕ → View → Power → Option ℕ
left_at_one held n v on = cond (held && on.bottom) (some (at_one held n v on).at) none

-- the middle output is the bit at the pointer
unfoldable pub sense : Bool → ℕ → View → Power → Effect
unfolding reset advanced
sense held n v on =
    cond on.top
    (cond (ltb (16 * n) (at_one held n v on).at)
    (effect stays (left_at_one held n v on) false true)
    (effect stays
    (increased (held && on.middle) (left_at_one held n v on) (at_one held n v on))
    (bit v.source (at_one held n v on).at)
    false))
    (idle (left_at_one held n v on))

-- the rule of each kind; a pointer is held or not
unfoldable pub effect_of : Kind → Bool → ℕ → View → Power → Effect
unfolding logic compare rotate modify sense
effect_of AND held n v on = logic And n v on
effect_of OR held n v on = logic Or n v on
effect_of XOR held n v on = logic Xor n v on
effect_of COMP held n v on = logic Comp n v on
effect_of CMPR held n v on = compare n v on
effect_of MBIT held n v on = modify held n v on
effect_of SENS held n v on = sense held n v on
effect_of BROT held n v on = rotate n v on
