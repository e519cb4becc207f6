-- The code's tests of a record say what its words earn.
use Rattle.std.proofs.Common.{◌≡◌, ℕ, ◌+◌, ◌*◌, ◌≤◌, List, [], ◌∷◌, refl, sym, ap, ◌∙◌, arith, Bool, true, false}
use Rattle.std.specs.Prelude.{cond, eqb, leb, Result, Ok, Err}
use native.Mathlib.Decide.{dec_le, ℕ_discrete}
use Rattle.std.specs.Prelude.{suc, length}
use Rattle.verdict.proofs.Said.{numbered_once}
use Rattle.section.proofs.Walk.{seek_none, seek_next, seek_fault}
use Rattle.rules.proofs.Faults.{faults_long}
use native.Mathlib.Nat.{lt_of_not-le, add-zero}
use borrow.Author.Tests.{eqb-true, eqb-false, ne_eqb}
use Rattle.verdict.specs.declared.Fault.{Fault}
use Rattle.verdict.specs.declared.Fault.TheVariants.{Kind as NoKind, Length, Start, Operand, Class as NoClass, Input as NoInput, Coil}
use Rattle.verdict.specs.Verdict.{Verdict, number_of, numbered, said_by, fault_number, and_then}
use Rattle.section.specs.Limit.{counted, up_to}
use Rattle.section.specs.Walk.{seek}
use Rattle.level.specs.Level.{at_level}
use Rattle.section.proofs.Limits.{counted_in, counted_low, counted_high, up_to_in, up_to_out}
use Rattle.section.proofs.Reaching.{step_at, step_last, counted_number, up_to_number}
use Rattle.table.specs.declared.sizes.Sizes.{Sizes}
use Rattle.table.specs.declared.area.Area.{Area}
use Rattle.table.specs.declared.area.Area.TheVariants.{Coils, Discretes, Inputs, Holding}
use Rattle.table.specs.Area.{area_number, reference_test}
use Rattle.table.specs.Table.{bad_start, offset, size_of, reference_fault}
use Rattle.record.specs.declared.{Node.Node, Input.Input, Block.Block}
use Rattle.rules.specs.declared.codes.Kind.{Kind}
use Rattle.rules.specs.declared.codes.Kind.TheVariants.{And, Or, Xor, Comp, Cmpr, Mbit, Sens, Brot}
use Rattle.rules.specs.declared.codes.Class.{Class}
use Rattle.rules.specs.declared.codes.Class.TheVariants.{Area as AnArea, Constant}
use Rattle.rules.specs.declared.codes.Source.{Source}
use Rattle.rules.specs.declared.codes.Source.TheVariants.{Never, Always, OpenCoil, ClosedCoil, OpenDiscrete, ClosedDiscrete, TopOutput, MiddleOutput, BottomOutput}
use Rattle.rules.specs.declared.codes.Unknown.{Unknown}
use Rattle.rules.specs.declared.rules.Classes.{Classes}
use Rattle.rules.specs.Rules.{rule, allows}
use Rattle.rules.specs.Codes.{kind_number, class_number, source_number, kinds, classes, sources, standing_for, kind_from, class_from, source_from}
use Rattle.rules.specs.Fault.{constant_in, class_fault, number_fault, input_fault, top_words, faults, judged}
use Rattle.rules.specs.Judge.{faulting, kind_test, class_test, source_test, number_test, contact_test, tested}

-- ---- what a number stands for
pub stands : {A : Type 0} (number : A → ℕ) (xs : List A) (n : ℕ) (x : A) → standing_for number xs n ≡ Ok x → number x ≡ n
stands number [] n x e = cc
stands {A} number (y ∷ ys) n x e = by (eqb n (number y)) refl e (stands number ys n x)
  where
    by : (b : Bool) → eqb n (number y) ≡ b → cond b (Ok y) (standing_for number ys n) ≡ Ok x → (standing_for number ys n ≡ Ok x → number x ≡ n) → number x ≡ n
    by true p q rest = let same : y ≡ x = cc in ap number (sym same) ∙ sym (eqb-true n (number y) p)
    by false p q rest = rest q

None : {A : Type 0} → (A → ℕ) → List A → ℕ → Type 0
None number [] n = Unit
None number (y ∷ ys) n = (n ≡ number y → ⊥) × None number ys n

none : {A : Type 0} (number : A → ℕ) (xs : List A) (n : ℕ) (e : Unknown) → standing_for number xs n ≡ Err e → None number xs n
unfolding None
none number [] n e p = tt
none {A} number (y ∷ ys) n e p = by (eqb n (number y)) refl p (none number ys n e)
  where
    by : (b : Bool) → eqb n (number y) ≡ b → cond b (Ok y) (standing_for number ys n) ≡ Err e → (standing_for number ys n ≡ Err e → None number ys n)
        → (n ≡ number y → ⊥) × None number ys n
    by true q r rest = cc
    by false q r rest = (eqb-false n (number y) q, rest r)

few_kinds : (k : Kind) → (1 ≤ kind_number k) × (kind_number k ≤ 8)
few_kinds And = (omega arith, omega arith)
few_kinds Or = (omega arith, omega arith)
few_kinds Xor = (omega arith, omega arith)
few_kinds Comp = (omega arith, omega arith)
few_kinds Cmpr = (omega arith, omega arith)
few_kinds Mbit = (omega arith, omega arith)
few_kinds Sens = (omega arith, omega arith)
few_kinds Brot = (omega arith, omega arith)

few_sources : (s : Source) → source_number s ≤ 8
few_sources Never = omega arith
few_sources Always = omega arith
few_sources OpenCoil = omega arith
few_sources ClosedCoil = omega arith
few_sources OpenDiscrete = omega arith
few_sources ClosedDiscrete = omega arith
few_sources TopOutput = omega arith
few_sources MiddleOutput = omega arith
few_sources BottomOutput = omega arith

-- ---- what the tests earn
found : {A : Type 0} (fault : Fault) (r : Result A Unknown) (x : A) → faulting fault r ≡ Ok x → r ≡ Ok x
found fault (Ok y) x e = let same : y ≡ x = cc in ap Ok same
found fault (Err u) x e = cc

or_fault : {A : Type 0} (b : Bool) (x : A) (fault : Fault) → fault_number (cond b (Ok x) (Err fault)) ≡ cond b 0 (number_of fault)
or_fault true x fault = refl
or_fault false x fault = refl

if_ok : {A : Type 0} (b : Bool) (x y : A) (fault : Fault) → cond b (Ok x) (Err fault) ≡ Ok y → x ≡ y
if_ok true x y fault e = cc
if_ok false x y fault e = cc

kind_earns : (n : ℕ) → fault_number (kind_test n) ≡ counted 8 n 4
unfolding None
kind_earns n = by (kind_from n) refl
  where
    by : (r : Result Kind Unknown) → kind_from n ≡ r → fault_number (faulting NoKind r) ≡ counted 8 n 4
    by (Ok k) e = let is = stands kind_number kinds n k e in let few = few_kinds k in sym (counted_in 8 n 4 (omega (arith, is, few.0)) (omega (arith, is, few.1)))
    by (Err u) e = let not = none kind_number kinds n u e in elim (dec_le 1 n) [
      | no l ↦ sym (counted_low 8 n 4 (lt_of_not-le l))
      | yes l ↦ sym (counted_high 8 n 4 l (omega (arith, not.0, not.1.0, not.1.1.0, not.1.1.1.0, not.1.1.1.1.0, not.1.1.1.1.1.0, not.1.1.1.1.1.1.0, not.1.1.1.1.1.1.1.0)))
    ]

source_earns : (n : ℕ) → fault_number (source_test n) ≡ up_to 8 n 9
unfolding None
source_earns n = by (source_from n) refl
  where
    by : (r : Result Source Unknown) → source_from n ≡ r → fault_number (faulting NoInput r) ≡ up_to 8 n 9
    by (Ok s) e = sym (up_to_in 8 n 9 (omega (arith, stands source_number sources n s e, few_sources s)))
    by (Err u) e = let not = none source_number sources n u e in
        sym (up_to_out 8 n 9 (omega (arith, not.0, not.1.0, not.1.1.0, not.1.1.1.0, not.1.1.1.1.0, not.1.1.1.1.1.0, not.1.1.1.1.1.1.0, not.1.1.1.1.1.1.1.0, not.1.1.1.1.1.1.1.1.0)))

class_earns : (c : Classes) (n : ℕ) → fault_number (class_test c n) ≡ class_fault c n
unfolding None class_fault allows
class_earns c n = by (class_from n) refl
  where
    by : (r : Result Class Unknown) → class_from n ≡ r
        → fault_number (and_then (faulting NoClass r) (λ x. cond (allows c (class_number x)) (Ok x) (Err NoClass))) ≡ class_fault c n
    by (Ok x) e = or_fault (allows c (class_number x)) x NoClass ∙ ap (λ (m : ℕ). cond (allows c m) 0 6) (stands class_number classes n x e)
    by (Err u) e = let not = none class_number classes n u e in
        simp (ne_eqb n 0 not.0, ne_eqb n 1 not.1.0, ne_eqb n 3 not.1.1.0, ne_eqb n 4 not.1.1.1.0, ne_eqb n 9 not.1.1.1.1.0)

reference_earns : (z : Sizes) (a : Area) (m w : ℕ) → fault_number (reference_test z a m w) ≡ reference_fault z (area_number a) m w
unfolding reference_fault
reference_earns z a m w = by (eqb m 0) (bad_start (area_number a) m) (leb (offset (area_number a) m + w) (size_of z (area_number a)))
  where
    by : (a b c : Bool) → fault_number {A = Unit} (cond a (Err NoClass) (cond b (Err Start) (cond c (Ok tt) (Err Operand)))) ≡ cond a 6 (cond b 7 (cond c 0 8))
    by true b c = refl
    by false true c = refl
    by false false true = refl
    by false false false = refl

number_earns : (z : Sizes) (c : Class) (node : Node) (w : ℕ) → class_number c ≡ node.class → fault_number (number_test z c node.number w) ≡ number_fault z node w
unfolding number_fault
number_earns z (AnArea a) node w e = reference_earns z a node.number w ∙ by a ∙ ap (λ (n : ℕ). number_fault z (record { class = n; number = node.number }) w) e
  where
    by : (a : Area) → reference_fault z (area_number a) node.number w ≡ number_fault z (record { class = area_number a; number = node.number }) w
    by Coils = refl
    by Discretes = refl
    by Inputs = refl
    by Holding = refl
number_earns z Constant node w e =
    up_to_number (constant_in z) node.number NoClass ∙ ap (λ (n : ℕ). number_fault z (record { class = n; number = node.number }) w) e

contact_earns : (z : Sizes) (earlier : ℕ) (s : Source) (input : Input) → source_number s ≡ input.code
    → fault_number (contact_test z earlier s input.number) ≡ input_fault z earlier input
unfolding input_fault
contact_earns z earlier s input e = by s ∙ ap (λ (n : ℕ). input_fault z earlier (record { code = n; number = input.number })) e
  where
    by : (t : Source) → fault_number (contact_test z earlier t input.number) ≡ input_fault z earlier (record { code = source_number t; number = input.number })
    by Never = up_to_number 0 input.number NoInput
    by Always = up_to_number 0 input.number NoInput
    by OpenCoil = counted_number (16 * z.coils) input.number NoInput
    by ClosedCoil = counted_number (16 * z.coils) input.number NoInput
    by OpenDiscrete = counted_number (16 * z.discretes) input.number NoInput
    by ClosedDiscrete = counted_number (16 * z.discretes) input.number NoInput
    by TopOutput = counted_number earlier input.number NoInput
    by MiddleOutput = counted_number earlier input.number NoInput
    by BottomOutput = counted_number earlier input.number NoInput

-- ---- what they find
kind_is : (n : ℕ) (k : Kind) → kind_test n ≡ Ok k → kind_number k ≡ n
kind_is n k e = stands kind_number kinds n k (found NoKind (kind_from n) k e)

source_is : (n : ℕ) (s : Source) → source_test n ≡ Ok s → source_number s ≡ n
source_is n s e = stands source_number sources n s (found NoInput (source_from n) s e)

class_is : (c : Classes) (n : ℕ) (x : Class) → class_test c n ≡ Ok x → class_number x ≡ n
class_is c n x e = by (class_from n) refl e
  where
    by : (r : Result Class Unknown) → class_from n ≡ r → and_then (faulting NoClass r) (λ y. cond (allows c (class_number y)) (Ok y) (Err NoClass)) ≡ Ok x
        → class_number x ≡ n
    by (Ok y) p q = ap class_number (sym (if_ok (allows c (class_number y)) y x NoClass q)) ∙ stands class_number classes n y p
    by (Err u) p q = cc

-- ---- a record
pub tested_says : (z : Sizes) (earlier : ℕ) (b : Block) (at size : ℕ) → numbered (tested z earlier b at size) ≡ said_by (judged z earlier b at size) tt
unfolding faults tested
tested_says z earlier b at size =
    (step_at _ _ _ _ size at 0 tt (kind_earns b.kind) (λ k kp.
    let row : rule (kind_number k) ≡ rule b.kind = ap rule (kind_is b.kind k kp) in
    step_at _ _ _ _ size at 1 tt (counted_number (at_level (rule (kind_number k)).most z.level) b.n Length ∙ ap (λ r. counted (at_level r.most z.level) b.n 5) row) (λ l lp.
    step_at _ _ _ _ size at 2 tt (class_earns (rule (kind_number k)).top b.top.class ∙ ap (λ r. class_fault r.top b.top.class) row) (λ c cp.
    step_at _ _ _ _ size at 3 tt (number_earns z c b.top (top_words (rule (kind_number k)).pointer b.n) (class_is _ _ c cp) ∙ ap (λ r. number_fault z b.top (top_words r.pointer b.n)) row) (λ m mp.
    step_at _ _ _ _ size at 4 tt (class_earns (rule (kind_number k)).middle b.middle.class ∙ ap (λ r. class_fault r.middle b.middle.class) row) (λ d dp.
    step_at _ _ _ _ size at 5 tt (number_earns z d b.middle (b.n + (rule (kind_number k)).extra) (class_is _ _ d dp) ∙ ap (λ r. number_fault z b.middle (b.n + r.extra)) row) (λ o op.
    step_at _ _ _ _ size at 6 tt (source_earns b.inputs.top.code) (λ s sp.
    step_at _ _ _ _ size at 7 tt (contact_earns z earlier s b.inputs.top (source_is _ s sp)) (λ x xp.
    step_at _ _ _ _ size at 8 tt (source_earns b.inputs.middle.code) (λ t tp.
    step_at _ _ _ _ size at 9 tt (contact_earns z earlier t b.inputs.middle (source_is _ t tp)) (λ y yp.
    step_at _ _ _ _ size at 10 tt (source_earns b.inputs.bottom.code) (λ u up.
    step_at _ _ _ _ size at 11 tt (contact_earns z earlier u b.inputs.bottom (source_is _ u up)) (λ v vp.
    step_at _ _ _ _ size at 12 tt (up_to_number (16 * z.coils) b.coils.top Coil) (λ e ep.
    step_at _ _ _ _ size at 13 tt (up_to_number (16 * z.coils) b.coils.middle Coil) (λ f fp.
    step_last _ _ size (at + 14) (up_to_number (16 * z.coils) b.coils.bottom Coil))))))))))))))))
    ∙ ap (λ (i : ℕ). said_by (seek (faults z earlier b) size i) tt) (add-zero at)

-- where all words are there, it does not matter how many follow
all_there : (fs : List ℕ) (i a b : ℕ) → i + length fs ≤ a → i + length fs ≤ b → seek fs a i ≡ seek fs b i
all_there [] i a b l m = seek_none a i ∙ sym (seek_none b i)
all_there (f ∷ fs) i a b l m = elim (ℕ_discrete f 0) [
  | yes z ↦ seek_next a f fs i (omega arith) z ∙ all_there fs (suc i) a b (omega arith) (omega arith) ∙ sym (seek_next b f fs i (omega arith) z)
  | no z ↦ seek_fault a f fs i (omega arith) z ∙ sym (seek_fault b f fs i (omega arith) z)
]

pub tested_there : (z : Sizes) (earlier : ℕ) (b : Block) (at size : ℕ) → at + 15 ≤ size → tested z earlier b at (at + 15) ≡ tested z earlier b at size
tested_there z earlier b at size l =
    let long = faults_long z earlier b in
    numbered_once _ _
    (tested_says z earlier b at (at + 15)
    ∙ ap (λ (v : Verdict). said_by v tt) (all_there (faults z earlier b) at (at + 15) size (omega (arith, long)) (omega (arith, long)))
    ∙ sym (tested_says z earlier b at size))
