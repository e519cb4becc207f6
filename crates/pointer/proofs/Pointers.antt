-- The laws of the pointer steps. Assumes nothing.
use mathlib.Core.Path.{◌≡◌, ap, ◌∙◌}
use mathlib.Core.Bool.{Bool, true, false, cond}
use Prim.Native.Nat.{ℕ, ◌*◌, ◌%◌, ◌≤◌}
use borrow.Author.Tests.{le-leb, eq-eqb}
use lib.Dec.{leb}
use Rattle.pointer.specs.declared.Pointer.{Pointer}
use Rattle.bits.specs.Bit.{longest}
use Rattle.pointer.specs.Pointer.{sized, stepped, reset}

-- a size of 16n for n from 1 to the longest is one
pub size_right : (size : ℕ) → size % 16 ≡ 0 → 16 ≤ size → size ≤ 16 * longest → sized size ≡ true
size_right size e l u = simp (eq-eqb (size % 16) 0 e, le-leb 16 size l, le-leb size (16 * longest) u)

abbrev pub pair : ℕ → ℕ → Pointer
pair at size = record { at = at; size = size }

-- a size that is none leaves the pair alone, and any other gives the new pointer
pub unsized : (p : Pointer) (at : ℕ) → sized p.size ≡ false → stepped p at ≡ p
unsized p at e = ap (λ (b : Bool). cond b (pair at p.size) p) e

pub steps : (p : Pointer) (at : ℕ) → sized p.size ≡ true → stepped p at ≡ pair at p.size
steps p at e = ap (λ (b : Bool). cond b (pair at p.size) p) e

pub reset_to : (p : Pointer) → sized p.size ≡ true → (to : ℕ) → to ≤ 1 → reset p to ≡ pair to p.size
unfolding reset
reset_to p e to l = steps p (cond (leb to 1) to p.at) e ∙ ap (λ (b : Bool). pair (cond b to p.at) p.size) (le-leb to 1 l)
