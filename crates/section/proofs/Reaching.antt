-- A walk as a chain of answers, and as `seek` has it: what is reached step by step says what the words earn in turn.
use Rattle.std.proofs.Common.{◌≡◌, ℕ, ◌+◌, ◌<◌, List, [], ◌∷◌, refl, sym, ap, ap₂, ◌∙◌, arith, Bool, true, false, ◌++◌, length}
use Rattle.std.specs.Prelude.{cond, ◌&&◌, leb, Result, Ok, Err}
use native.Mathlib.Decide.{dec_lt}
use native.Mathlib.Numerals.{add-one}
use borrow.Author.Tests.{lt-ltb, le-ltb}
use Rattle.verdict.specs.declared.Fault.{Fault}
use Rattle.verdict.specs.declared.Fault.TheVariants.{Missing}
use Rattle.verdict.specs.declared.Refusal.{Refusal}
use Rattle.verdict.specs.Verdict.{Verdict, number_of, refusal, verdict, said_by, numbered, fault_number, and_then}
use Rattle.verdict.proofs.Said.{no_zero, says, refused_is, done_is, value_is}
use Rattle.section.specs.Limit.{counted, up_to, counted_test, up_to_test}
use Rattle.section.specs.Walk.{seek, at_word, reached}
use Rattle.section.proofs.Walk.{seek_next, seek_missing, seek_fault, le_of_not_lt, turn_refused, turn_passed}

-- one step, then the others
pub step : {A B : Type 0} (test : Result A Fault) (rest : A → Result B Refusal) (f : ℕ) (fs : List ℕ) (size i : ℕ) (y : B) → fault_number test ≡ f
    → ((x : A) → test ≡ Ok x → numbered (rest x) ≡ said_by (seek fs size (i + 1)) y)
    → numbered (and_then (reached test size i) rest) ≡ said_by (seek (f ∷ fs) size i) y
step {A} {B} test rest f fs size i y n h = elim (dec_lt i size) [
  | yes l ↦ here test rest n h l
  | no l ↦
      ap (λ (b : Bool). numbered (and_then (cond b (at_word test (i + 1)) (Err (refusal Missing (i + 1)))) rest)) (le-ltb i size (le_of_not_lt l))
      ∙ says (refusal Missing (i + 1)) (seek (f ∷ fs) size i) y (ap (verdict 1) (add-one i) ∙ sym (seek_missing size f fs i (le_of_not_lt l)))
]
  where
    here : (t : Result A Fault) (k : A → Result B Refusal) → fault_number t ≡ f → ((x : A) → t ≡ Ok x → numbered (k x) ≡ said_by (seek fs size (i + 1)) y)
        → i < size → numbered (and_then (reached t size i) k) ≡ said_by (seek (f ∷ fs) size i) y
    here (Ok x) k e g l =
        ap (λ (b : Bool). numbered (and_then (cond b (Ok x) (Err (refusal Missing (i + 1)))) k)) (lt-ltb i size l)
        ∙ g x refl
        ∙ ap (λ (q : ℕ). said_by (seek fs size q) y) (add-one i)
        ∙ ap (λ (v : Verdict). said_by v y) (sym (seek_next size f fs i l (sym e)))
    here (Err fault) k e g l =
        ap (λ (b : Bool). numbered (and_then (cond b (Err (refusal fault (i + 1))) (Err (refusal Missing (i + 1)))) k)) (lt-ltb i size l)
        ∙ says (refusal fault (i + 1)) (seek (f ∷ fs) size i) y
        (ap₂ verdict e (add-one i) ∙ sym (seek_fault size f fs i l (λ z. no_zero fault (e ∙ z))))

-- no word more
pub step_none : {B : Type 0} (size i : ℕ) (y : B) → numbered (Ok y) ≡ said_by (seek [] size i) y
unfolding seek
step_none size i y = refl

-- at a place that counts up from an index
pub step_at : {A B : Type 0} (test : Result A Fault) (rest : A → Result B Refusal) (f : ℕ) (fs : List ℕ) (size at k : ℕ) (y : B) → fault_number test ≡ f
    → ((x : A) → test ≡ Ok x → numbered (rest x) ≡ said_by (seek fs size (at + (k + 1))) y)
    → numbered (and_then (reached test size (at + k)) rest) ≡ said_by (seek (f ∷ fs) size (at + k)) y
step_at test rest f fs size at k y n h =
    let next : at + (k + 1) ≡ at + k + 1 = omega arith in
    step test rest f fs size (at + k) y n (λ x e. h x e ∙ ap (λ (i : ℕ). said_by (seek fs size i) y) next)

and_done : (r : Result Unit Refusal) → and_then r (λ (x : Unit). Ok x) ≡ r
and_done (Ok x) = refl
and_done (Err e) = refl

pub step_last : (test : Result Unit Fault) (f size i : ℕ) → fault_number test ≡ f → numbered (reached test size i) ≡ said_by (seek (f ∷ []) size i) tt
step_last test f size i n =
    ap numbered (sym (and_done (reached test size i))) ∙ step test (λ (x : Unit). Ok x) f [] size i tt n (λ x e. step_none size (i + 1) tt)

-- several words, then others
pub step_run : {A B : Type 0} (r : Result A Refusal) (rest : A → Result B Refusal) (fs gs : List ℕ) (size i j : ℕ) (x : A) (y : B) → numbered r ≡ said_by (seek fs size i) x
    → i + length fs ≡ j → numbered (rest x) ≡ said_by (seek gs size j) y → numbered (and_then r rest) ≡ said_by (seek (fs ++ gs) size i) y
step_run (Ok a) rest fs gs size i j x y e p h =
    ap (λ q. numbered (rest q)) (value_is a (seek fs size i) x e)
    ∙ h
    ∙ ap (λ (v : Verdict). said_by v y) (turn_passed size fs gs i (sym (done_is a (seek fs size i) x e)) refl p refl)
step_run (Err r) rest fs gs size i j x y e p h =
    says r (seek (fs ++ gs) size i) y (turn_refused size fs gs i (sym (refused_is r (seek fs size i) x e)) (no_zero r.fault))

-- the tests by a limit
pub counted_number : (most n : ℕ) (fault : Fault) → fault_number (counted_test most n fault) ≡ counted most n (number_of fault)
counted_number most n fault = by (leb 1 n && leb n most)
  where
    by : (b : Bool) → fault_number {A = Unit} (cond b (Ok tt) (Err fault)) ≡ cond b 0 (number_of fault)
    by true = refl
    by false = refl

pub up_to_number : (most n : ℕ) (fault : Fault) → fault_number (up_to_test most n fault) ≡ up_to most n (number_of fault)
up_to_number most n fault = by (leb n most)
  where
    by : (b : Bool) → fault_number {A = Unit} (cond b (Ok tt) (Err fault)) ≡ cond b 0 (number_of fault)
    by true = refl
    by false = refl
