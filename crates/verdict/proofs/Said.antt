-- The laws of what an answer says: a refusal ends a chain, and what is done goes on.
use Rattle.std.proofs.Common.{get_or, ◌∷◌, [], ◌≡◌, ℕ, ◌≤◌, refl, sym, ap, ◌∙◌, arith, Bool}
use Rattle.std.specs.Prelude.{cond, eqb, Result, Ok, Err, Option, Some, None}
use borrow.Author.Tests.{ne_eqb, eq-eqb}
use Rattle.verdict.specs.declared.Fault.{Fault}
use Rattle.verdict.specs.declared.Fault.TheVariants.{Missing, Count, Limit, Kind, Length, Class, Start, Operand, Input, Coil, LeftOver, Call}
use Rattle.verdict.specs.declared.Refusal.{Refusal}
use Rattle.verdict.specs.Verdict.{Verdict, number_of, verdict, done, then, Said, said_by, numbered, fault_number}

-- no refusal has number 0
pub no_zero : (fault : Fault) → number_of fault ≡ 0 → ⊥
no_zero Missing e = omega arith
no_zero Count e = omega arith
no_zero Limit e = omega arith
no_zero Kind e = omega arith
no_zero Length e = omega arith
no_zero Class e = omega arith
no_zero Start e = omega arith
no_zero Operand e = omega arith
no_zero Input e = omega arith
no_zero Coil e = omega arith
no_zero LeftOver e = omega arith
no_zero Call e = omega arith

-- what an equation of what is said says of the verdict and of the value
pub refused_is : {A : Type 0} (r : Refusal) (v : Verdict) (x : A) → numbered (Err r) ≡ said_by v x → v ≡ verdict (number_of r.fault) r.place
refused_is r v x e = sym (ap (λ s. s.verdict) e)

pub done_is : {A : Type 0} (y : A) (v : Verdict) (x : A) → numbered (Ok y) ≡ said_by v x → v ≡ done
done_is y v x e = sym (ap (λ s. s.verdict) e)

some_once : {A : Type 0} (x y : A) → Some x ≡ Some y → x ≡ y
some_once x y e = cc

pub value_is : {A : Type 0} (y : A) (v : Verdict) (x : A) → numbered (Ok y) ≡ said_by v x → y ≡ x
value_is {A} y v x e =
    some_once y x (ap (λ s. s.value) e ∙ ap (λ (n : ℕ). cond (eqb n 0) (Some x) None) (sym (ap (λ s. s.verdict.number) e)))

-- a refusal says a verdict, whatever the value would be
pub says : {A : Type 0} (r : Refusal) (v : Verdict) (x : A) → verdict (number_of r.fault) r.place ≡ v → numbered (Err r) ≡ said_by v x
says r v x e =
    rw (← e)
    (λ i. record {
      verdict = verdict (number_of r.fault) r.place;
      value = cond (sym (ne_eqb (number_of r.fault) 0 (no_zero r.fault)) i) (Some x) None;
    })

-- a refusal ends a chain
pub stops : {A B : Type 0} (r : Refusal) (v w : Verdict) (x : A) (y : B) → numbered (Err r) ≡ said_by v x → numbered (Err r) ≡ said_by (then v w) y
stops r v w x y e =
    let is = refused_is r v x e in
    says r (then v w) y
    (ap (λ (b : Bool). cond b w (verdict (number_of r.fault) r.place)) (sym (ne_eqb (number_of r.fault) 0 (no_zero r.fault)))
    ∙ ap (λ (u : Verdict). then u w) (sym is))

-- what is done goes on
pub goes_on : {A B : Type 0} (a : A) (v w : Verdict) (x : A) (b : Result B Refusal) (y : B) → numbered (Ok a) ≡ said_by v x → numbered b ≡ said_by w y
    → numbered b ≡ said_by (then v w) y
goes_on a v w x b y e f = rw (done_is a v x e) f

-- two answers that say the same are the same
abbrev fault_of : ℕ → Fault
fault_of n = get_or (Missing ∷ Missing ∷ Count ∷ Limit ∷ Kind ∷ Length ∷ Class ∷ Start ∷ Operand ∷ Input ∷ Coil ∷ LeftOver ∷ Call ∷ []) n Missing

fault_back : (fault : Fault) → fault_of (number_of fault) ≡ fault
fault_back Missing = refl
fault_back Count = refl
fault_back Limit = refl
fault_back Kind = refl
fault_back Length = refl
fault_back Class = refl
fault_back Start = refl
fault_back Operand = refl
fault_back Input = refl
fault_back Coil = refl
fault_back LeftOver = refl
fault_back Call = refl

pub fault_once : (f g : Fault) → number_of f ≡ number_of g → f ≡ g
fault_once f g e = sym (fault_back f) ∙ ap fault_of e ∙ fault_back g

pub numbered_once : {A : Type 0} (x y : Result A Refusal) → numbered x ≡ numbered y → x ≡ y
numbered_once (Ok x) (Ok y) e = ap Ok (some_once x y (ap (λ s. s.value) e))
numbered_once (Ok x) (Err r) e = let z : Some x ≡ None = ap (λ s. s.value) e in cc
numbered_once (Err r) (Ok y) e = let z : None ≡ Some y = ap (λ s. s.value) e in cc
numbered_once (Err r) (Err t) e =
    ap Err (λ i. record { fault = fault_once r.fault t.fault (ap (λ s. s.verdict.number) e) i; place = (ap (λ s. s.verdict.place) e) i })

pub fault_number_once : (x y : Result Unit Fault) → fault_number x ≡ fault_number y → x ≡ y
fault_number_once (Ok x) (Ok y) e = refl
fault_number_once (Ok x) (Err f) e = absurd (no_zero f (sym e))
fault_number_once (Err f) (Ok y) e = absurd (no_zero f e)
fault_number_once (Err f) (Err g) e = ap Err (fault_once f g e)
