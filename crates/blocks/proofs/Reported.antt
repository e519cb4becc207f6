-- When a compare reports none. Assumes nothing.
use mathlib.Core.Path.{◌≡◌, refl, sym, ap, ◌∙◌}
use mathlib.Core.Bool.{Bool, false, cond, false≢true}
use mathlib.Core.Option.{Option, none, some}
use Prim.Native.Nat.{ℕ}
use Rattle.search.specs.Search.{first_differing}
use Rattle.search.proofs.Sought.{none_sought}
use Rattle.blocks.specs.View.{View}
use Rattle.blocks.specs.Effect.{idle, zeroed, starts_at, found, compare}
use Rattle.blocks.specs.Truths.{NoneMeansNone}

-- what is found is reported by the middle output
reports : (n : ℕ) (v : View) (from : ℕ) (o : Option ℕ) → (found n v from o).middle ≡ false → o ≡ none
unfolding found
reports n v from none e = refl
reports n v from (some p) e = absurd (false≢true (sym e))

none_off : (n : ℕ) (v : View) (from : ℕ) (o : Option ℕ) → o ≡ none → (found n v from o).middle ≡ false
unfolding found
none_off n v from none e = refl
none_off n v from (some p) e = ap (λ (o : Option ℕ). (found n v from o).middle) e

pub none_means_none : NoneMeansNone
unfolding compare
none_means_none n v on power = (
  (λ e. (none_sought v.source v.destination n from).0 (reports n v from _ (sym powered ∙ e))),
  (λ h. powered ∙ none_off n v from _ ((none_sought v.source v.destination n from).1 h)),
)
  where
    from : ℕ
    from = starts_at n v on

    powered : (compare n v on).middle ≡ (found n v from (first_differing v.source v.destination n from)).middle
    powered =
        ap (λ (a : Bool). (cond a (found n v from (first_differing v.source v.destination n from))
        (idle (cond on.middle (some (zeroed n v on).at) none))).middle) power
