-- Pointer steps: each hands back a new pointer and its size, the number of bits it points into. A
-- size that isn't 16n for n from 1 to the longest comes back unchanged with its pointer. Assumes nothing.
use Rattle.std.specs.Prelude.{ℕ, ◌+◌, ◌*◌, ◌%◌, Bool, cond, ◌&&◌, leb, ltb, eqb}
use Rattle.bits.specs.Bit.{longest}
use Rattle.pointer.specs.declared.Pointer.{Pointer}

-- a size is 16n for n from 1 to the longest
abbrev pub sized : ℕ → Bool
sized size = eqb (size % 16) 0 && (leb 16 size && leb size (16 * longest))

-- the pair with another pointer, where its size is one
abbrev pub stepped : Pointer → ℕ → Pointer
stepped p at = cond (sized p.size) (record { at = at; size = p.size }) p

-- set to 0 (CMPR) or to 1 (SENS); to nothing else
unfoldable pub reset : Pointer → ℕ → Pointer
reset p to = stepped p (cond (leb to 1) to p.at)

-- as CMPR takes it: a pointer of 16n or more counts as 0
unfoldable pub in_range : Pointer → Pointer
in_range p = stepped p (cond (ltb p.at p.size) p.at 0)

-- as MBIT and SENS increase it: adds 1, but takes 16n to 1; over 16n it stays
unfoldable pub advanced : Pointer → Pointer
advanced p = stepped p (cond (ltb p.at p.size) (p.at + 1) (cond (eqb p.at p.size) 1 p.at))

-- set to 0 or to 1 where a reset is asked for
abbrev pub set_to : ℕ → Bool → Pointer → Pointer
set_to to asked p = cond asked (reset p to) p

-- advanced where an increase is asked for
abbrev pub next_of : Bool → Pointer → ℕ
next_of asked p = cond asked (advanced p).at p.at
