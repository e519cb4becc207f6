-- What the search's answer means: nothing exactly when no later position differs, a position exactly when it is the first.
-- `met` says by induction what stands behind each outcome of `first`; the rest tells the outcomes apart. Assumes nothing.
use mathlib.Core.Path.{◌≡◌, refl, sym, ap, ◌∙◌, subst}
use mathlib.Core.Bool.{Bool, true, false, cond, false≢true}
use mathlib.Core.List.{List}
use mathlib.Core.Logic.{◌↔◌, ⊎_elim}
use mathlib.Core.Option.{Option, none, some}
use Prim.Native.Nat.{ℕ, zero, suc, ◌+◌, ◌-◌, ◌*◌, ◌≤◌, ◌<◌}
use native.Mathlib.Decide.{dec_le}
use native.Mathlib.Nat.{eq-or-lt_of_le, le_antisymm, lt_of_not-le}
use native.Mathlib.Omega.{arith}
use lib.ListN.{length}
use Rattle.std.specs.Prelude.{Ok, Some, None}
use Rattle.verdict.specs.Verdict.{Said, done, placeless, said_by}
use Rattle.verdict.proofs.Said.{value_is}
use Rattle.runs.specs.Run.{run, fault}
use Rattle.bits.specs.Bit.{longest_whole}
use Rattle.search.specs.Search.{differing, first, first_differing, difference_said, first_said, NoneLater, FirstLater, NothingMeansNone, AtMeansFirst}
use Rattle.search.proofs.Answers.{said_same}

-- ---- the first of the k positions after i at which f is on
data Met (f : ℕ → Bool) (i k : ℕ) : Option ℕ → Type 0 where
  none_met : ((q : ℕ) → i < q → q ≤ i + k → f q ≡ false) → Met f i k none
  some_met : (p : ℕ) → i < p → p ≤ i + k → f p ≡ true → ((q : ℕ) → i < q → q < p → f q ≡ false) → Met f i k (some p)

-- what holds of the next position and of those after it holds of all
from_next : (P : ℕ → Type 0) (i : ℕ) → P (suc i) → ((q : ℕ) → suc i < q → P q) → (q : ℕ) → i < q → P q
from_next P i here after q l = ⊎_elim (λ e. subst P e here) (after q) (eq-or-lt_of_le l)

met : (f : ℕ → Bool) (k i : ℕ) → Met f i k (first f i k)
unfolding first
met f zero i = none_met (λ q l u. absurd (omega arith))
met f (suc k) i = go (f (suc i)) refl (first f (suc i) k) (met f k (suc i))
  where
    go : (b : Bool) → f (suc i) ≡ b → (r : Option ℕ) → Met f (suc i) k r → Met f i (suc k) (cond b (some (suc i)) r)
    go true e r m = some_met (suc i) (omega arith) (omega arith) e (λ q l u. absurd (omega arith))
    go false e r (none_met off) =
        none_met (from_next (λ q. q ≤ i + suc k → f q ≡ false) i (λ u. e) (λ q l u. off q l (omega arith)))
    go false e r (some_met p l u on off) =
        some_met p (omega arith) (omega arith) on (from_next (λ q. q < p → f q ≡ false) i (λ v. e) (λ q a v. off q a v))

-- ---- two matrices
module _ (a b : List ℕ) (n above : ℕ) where
  Outcome : Option ℕ → Type 0
  Outcome = Met (differing a b) above (16 * n - above)

  none_later : (r : Option ℕ) → Outcome r → r ≡ none → NoneLater a b n above
  unfolding Outcome
  none_later r (none_met off) e = λ p l u. off p l (omega arith)
  none_later r (some_met p l u on off) e = cc

  nothing : (r : Option ℕ) → Outcome r → NoneLater a b n above → r ≡ none
  unfolding Outcome
  nothing r (none_met off) h = refl
  nothing r (some_met p l u on off) h = absurd (false≢true (sym (h p l (omega arith)) ∙ on))

  first_later : (p : ℕ) (r : Option ℕ) → Outcome r → r ≡ some p → FirstLater a b n above p
  unfolding Outcome
  first_later p r (none_met off) e = cc
  first_later p r (some_met q l u on off) e =
      let same : q ≡ p = cc in
      subst (FirstLater a b n above) same (record { later = l; inside = omega arith; differs = on; earlier_agree = off })

  -- two positions neither of which is before the other are one
  neither : (p q : ℕ) → (p < q → ⊥) → (q < p → ⊥) → q ≡ p
  neither p q before after =
      elim (dec_le q p) [
        | yes l ↦ elim (dec_le p q) [ yes m ↦ le_antisymm l m | no m ↦ absurd (after (lt_of_not-le m)) ]
        | no l ↦ absurd (before (lt_of_not-le l))
      ]

  position : (p : ℕ) (r : Option ℕ) → Outcome r → FirstLater a b n above p → r ≡ some p
  unfolding Outcome
  position p r (none_met off) h = absurd (false≢true (sym (off p h.later (omega (arith, h.inside))) ∙ h.differs))
  position p r (some_met q l u on off) h =
      ap some (neither p q
      (λ m. false≢true (sym (off p h.later m) ∙ h.differs))
      (λ m. false≢true (sym (h.earlier_agree q l m) ∙ on)))

  outcome : Outcome (first_differing a b n above)
  unfolding Outcome
  outcome = met (differing a b) (16 * n - above) above

-- nothing is found exactly when no later position differs
pub none_sought : (a b : List ℕ) (n above : ℕ) → (first_differing a b n above ≡ none) ↔ NoneLater a b n above
none_sought a b n above = (none_later a b n above _ (outcome a b n above), nothing a b n above _ (outcome a b n above))

-- a position is found exactly when it is the first
first_sought : (a b : List ℕ) (n above p : ℕ) → (first_differing a b n above ≡ some p) ↔ FirstLater a b n above p
first_sought a b n above p = (first_later a b n above p _ (outcome a b n above), position a b n above p _ (outcome a b n above))

-- ---- the call: what it answers where it is not refused
pub told : (t : List ℕ) (a b n above : ℕ) (o : Option ℕ) → ◌≡◌ {A = Said (Option ℕ)} (record { verdict = done; value = Some o }) (first_said t a b n above)
    → (fault longest_whole (length t) n a b ≡ 0) × (first_differing (run t a n) (run t b n) n above ≡ o)
told t a b n above o e = (
  ap (λ (s : Said (Option ℕ)). s.verdict.number) (sym e),
  sym (value_is o (placeless (fault longest_whole (length t) n a b)) (first_differing (run t a n) (run t b n) n above) e),
)

telling : (t : List ℕ) (a b n above : ℕ) (o : Option ℕ) → fault longest_whole (length t) n a b ≡ 0 → first_differing (run t a n) (run t b n) n above ≡ o
    → first_said t a b n above ≡ record { verdict = done; value = Some o }
telling t a b n above o accepts found =
    ap (λ (k : ℕ). said_by (placeless k) (first_differing (run t a n) (run t b n) n above)) accepts ∙ ap (said_by done) found

pub nothing_means_none : NothingMeansNone
nothing_means_none t a b n above r said = (
  λ e. let all = told t a b n above none (ap difference_said (sym e) ∙ said) in (all.0, (none_sought (run t a n) (run t b n) n above).0 all.1),
  λ h. said_same r (Ok None) (said ∙ telling t a b n above none h.0 ((none_sought (run t a n) (run t b n) n above).1 h.1)),
)

pub at_means_first : AtMeansFirst
at_means_first t a b n above p r said = (
  λ e. let all = told t a b n above (some p) (ap difference_said (sym e) ∙ said) in (all.0, (first_sought (run t a n) (run t b n) n above p).0 all.1),
  λ h. said_same r (Ok (Some p)) (said ∙ telling t a b n above (some p) h.0 ((first_sought (run t a n) (run t b n) n above p).1 h.1)),
)
