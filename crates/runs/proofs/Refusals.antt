-- The laws of refusals: what a call that is not refused may rely on, that runs which meet it are accepted, and what a call
-- does in either case. Assumes nothing.
use mathlib.Core.Path.{◌≡◌, refl, sym, ap, ◌∙◌}
use mathlib.Core.Bool.{Bool, true, false, cond, ◌&&◌, false≢true}
use Prim.Native.Nat.{ℕ, ◌+◌, ◌*◌}
use native.Mathlib.Omega.{arith}
use borrow.Author.Tests.{le-leb, leb-true, eq-eqb, ne_eqb, eqb-true}
use lib.Dec.{leb, eqb}
use Rattle.verdict.specs.declared.Fault.{Fault}
use Rattle.verdict.specs.Verdict.{number_of}
use Rattle.verdict.proofs.Said.{no_zero}
use Rattle.bits.specs.Bit.{longest}
use Rattle.runs.specs.Run.{fault, fault_at, unless, Accepted, Positioned}

-- a call that is not refused does its work, and one that is refused does not
pub unless_done {ℓ} : {X : Type ℓ} (number : ℕ) (done refused : X) → number ≡ 0 → unless number done refused ≡ done
unless_done number done refused e = ap (λ (b : Bool). cond b done refused) (eq-eqb number 0 e)

pub unless_refused {ℓ} : {X : Type ℓ} (number : ℕ) (done refused : X) → (number ≡ 0 → ⊥) → unless number done refused ≡ refused
unless_refused number done refused h = ap (λ (b : Bool). cond b done refused) (ne_eqb number 0 h)

-- where a fault refuses, what was there stays
pub stays {ℓ} : {X : Type ℓ} (fault : Fault) (number : ℕ) (done refused : X) → number_of fault ≡ number → refused ≡ unless number done refused
stays fault number done refused e = sym (unless_refused number done refused (λ z. no_zero fault (e ∙ z)))

-- ---- two runs
module _ (most words n a b : ℕ) where
  pub fault_none : Accepted most words n a b → fault most words n a b ≡ 0
  unfolding fault
  fault_none h =
      simp (le-leb 1 n h.some_words, le-leb n most h.few, le-leb (a + n) words h.first, le-leb (b + n) words h.second)

four : (w x y z : Bool) → ◌≡◌ {A = ℕ} (cond (w && x) (cond (y && z) 0 8) 5) 0 → (w ≡ true) × (x ≡ true) × (y ≡ true) × (z ≡ true)
four true true true true e = (refl, refl, refl, refl)
four true true true false e = absurd (omega arith)
four true true false z e = absurd (omega arith)
four true false y z e = absurd (omega arith)
four false x y z e = absurd (omega arith)

pub accepted : (most words n a b : ℕ) → fault most words n a b ≡ 0 → Accepted most words n a b
unfolding fault
accepted most words n a b e =
    let h = four (leb 1 n) (leb n most) (leb (a + n) words) (leb (b + n) words) e in
    record {
      some_words = leb-true 1 n h.0;
      few = leb-true n most h.1;
      first = leb-true (a + n) words h.2;
      second = leb-true (b + n) words h.3;
    }

-- ---- a run and a position
three : (number : ℕ) (x y : Bool) → unless number (cond (x && y) 0 8) number ≡ 0 → (number ≡ 0) × (x ≡ true) × (y ≡ true)
three number x y e = go (eqb number 0) refl x y e
  where
    go : (z : Bool) → eqb number 0 ≡ z → (x y : Bool) → cond z (cond (x && y) 0 8) number ≡ 0 → (number ≡ 0) × (x ≡ true) × (y ≡ true)
    go true t true true q = (eqb-true number 0 t, refl, refl)
    go true t true false q = absurd (omega arith)
    go true t false y q = absurd (omega arith)
    go false t x y q = absurd (false≢true (sym t ∙ eq-eqb number 0 q))

pub located : (words n s p : ℕ) → fault_at words n s p ≡ 0 → Positioned words n s p
unfolding fault_at
located words n s p e =
    let h = three (fault longest words n s s) (leb 1 p) (leb p (16 * n)) e in
    record { run_accepted = accepted longest words n s s h.0; counted = leb-true 1 p h.1; within = leb-true p (16 * n) h.2 }

module _ (words n s p : ℕ) where
  fault_at_position : fault longest words n s s ≡ 0 → fault_at words n s p ≡ cond (leb 1 p && leb p (16 * n)) 0 8
  unfolding fault_at
  fault_at_position e = unless_done (fault longest words n s s) (cond (leb 1 p && leb p (16 * n)) 0 8) (fault longest words n s s) e

  pub fault_at_none : Positioned words n s p → fault_at words n s p ≡ 0
  fault_at_none h =
      fault_at_position (fault_none longest words n s s h.run_accepted)
      ∙ simp (le-leb 1 p h.counted, le-leb p (16 * n) h.within)
