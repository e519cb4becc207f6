-- The laws by which a kind's call meets its promise: a block that earns no refusal does what its effect says, and one that earns one
-- changes nothing. Assumes nothing.
use mathlib.Core.Path.{◌≡◌, refl, sym, ap, ap₂, ◌∙◌, subst}
use mathlib.Core.Bool.{Bool, true, false, not, false≢true}
use mathlib.Core.List.{List}
use mathlib.Core.Option.{none}
use Prim.Native.Nat.{ℕ}
use Rattle.std.specs.Prelude.{Result, Ok, Err, None}
use Rattle.verdict.specs.declared.Fault.{Fault}
use Rattle.verdict.specs.declared.Refusal.{Refusal}
use Rattle.verdict.specs.Verdict.{Verdict, number_of, refusal, verdict, placeless, numbered, said_by}
use Rattle.verdict.proofs.Said.{refused_is, no_zero, numbered_once}
use Rattle.runs.specs.Run.{unless}
use Rattle.runs.proofs.Refusals.{unless_done, unless_refused, stays}
use Rattle.blocks.specs.declared.Power.{Power}
use Rattle.blocks.specs.declared.Outputs.{Outputs}
use Rattle.blocks.specs.Effect.{Effect, idle}
use Rattle.blocks.specs.Work.{matrix_put, change_put, effect_put, shows, outputs}
use Rattle.blocks.specs.Answer.{Worked, finished, refused, no_outputs, worked, Does}

-- a test that is taken where something is off
pub is_off : (a : Bool) → not a ≡ true → a ≡ false
is_off true e = absurd (false≢true e)
is_off false e = refl

pub is_on : (a : Bool) → not a ≡ false → a ≡ true
is_on true e = refl
is_on false e = absurd (false≢true (sym e))

-- ---- effects

-- the outputs of an effect, and the destination, the n words from d on, and then the pointer, at p, written
pub record Did (on : Power) (e : Effect) (d n p : ℕ) (t : List ℕ) (out : Outputs) (table : List ℕ) : Type 0 where
  pub answers : out ≡ outputs on e
  pub leaves : table ≡ effect_put d n p e t

-- a block that earns no refusal does it, and one that earns one changes nothing
module _ (number : ℕ) (on : Power) (e : Effect) (d n p : ℕ) (t : List ℕ) where
  pub does : (out : Outputs) (table : List ℕ) → 0 ≡ number → Did on e d n p t out table → Does number on e d n p t (worked (Ok out)) table
  does out table z h = record {
    answers = ap finished h.answers ∙ sym (unless_done number (finished (outputs on e)) (refused number) (sym z));
    leaves = h.leaves ∙ sym (unless_done number (effect_put d n p e t) t (sym z));
  }

  pub refuses : (fault : Fault) → number_of fault ≡ number → Does number on e d n p t (worked (Err (refusal fault 0))) t
  refuses fault z = record {
    answers = ap refused z ∙ stays fault number (finished (outputs on e)) (refused number) z;
    leaves = stays fault number (effect_put d n p e t) t z;
  }

  -- so where what it calls refuses and changes nothing
  pub refuses_too : {A : Type 0} (r : Refusal) (x : A) (done table : List ℕ) → numbered {A = A} (Err r) ≡ said_by (placeless number) x
      → table ≡ unless number done t → Does number on e d n p t (worked (Err r)) table
  refuses_too r x done table z l =
      let says = refused_is r (placeless number) x z in
      let which : number_of r.fault ≡ number = sym (ap (λ (v : Verdict). v.number) says) in
      let where_at : 0 ≡ r.place = ap (λ (v : Verdict). v.place) says in
      record {
        answers =
            ap₂ (λ (k place : ℕ). record { verdict = verdict k place; outputs = no_outputs }) which (sym where_at)
            ∙ stays r.fault number (finished (outputs on e)) (refused number) which;
        leaves = l ∙ sym (stays r.fault number done t which) ∙ stays r.fault number (effect_put d n p e t) t which;
      }

pub by_effect : (on : Power) (d n p : ℕ) (t : List ℕ) (r : Outputs) (table : List ℕ) {e f : Effect} → e ≡ f → Did on f d n p t r table → Did on e d n p t r table
by_effect on d n p t r table q = subst (λ (x : Effect). Did on x d n p t r table) (sym q)

-- nothing is done
pub idle_does : (on : Power) (d n p : ℕ) (t : List ℕ) → Did on (idle none) d n p t (shows on.top false false 0) t
unfolding matrix_put change_put
idle_does on d n p t = record { answers = refl; leaves = refl }

-- ---- a refusal changes nothing

-- a verdict other than done is a refusal
abbrev pub Refuses : Worked → Type 0
Refuses r = r.verdict.number ≡ 0 → ⊥

pub kept : {number : ℕ} {on : Power} {e : Effect} {d n p : ℕ} {t : List ℕ} {r : Worked} {table : List ℕ} → Does number on e d n p t r table → Refuses r → table ≡ t
kept {number} {on} {e} {d} {n} {p} {t} h refuse =
    h.leaves
    ∙ unless_refused number (effect_put d n p e t) t
    (λ z. refuse (ap (λ (x : Worked). x.verdict.number) (h.answers ∙ unless_done number (finished (outputs on e)) (refused number) z)))

-- ---- two answers that say the same are the same
pub worked_once : (x y : Result Outputs Refusal) → worked x ≡ worked y → x ≡ y
worked_once (Ok x) (Ok y) e = ap Ok (ap (λ (w : Worked). w.outputs) e)
worked_once (Ok x) (Err r) e = absurd (no_zero r.fault (sym (ap (λ (w : Worked). w.verdict.number) e)))
worked_once (Err r) (Ok y) e = absurd (no_zero r.fault (ap (λ (w : Worked). w.verdict.number) e))
worked_once (Err r) (Err q) e = numbered_once (Err r) (Err q) (ap (λ (w : Worked). record { verdict = w.verdict; value = None }) e)
