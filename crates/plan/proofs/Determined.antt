-- Two results that the public function's contract allows are equal, and so is what they leave in the lent list: the contract is one equation
-- for the answer and one for the list.
use mathlib.Core.Path.{◌≡◌, sym, ◌∙◌}
use mathlib.Core.List.{List}
use Rattle.plan.specs.declared.Step.{Step}
use Rattle.plan.proofs.put_plan.Reads as put_plan_reads

-- as `DecidesBoth`, of a list of steps
module _ {K : Type 0} {A R S : K → Type 0} (Post : (κs : K) → A κs → R κs → S κs → Type 0) where
  abbrev DecidesSteps : ((κs : K) → S κs → List Step) → Type 0
  DecidesSteps left =
      (κs : K) (a : A κs) (x y : R κs) (s t : S κs) → Post κs a x s → Post κs a y t → (x ≡ y) × (left κs s ≡ left κs t)

pub put_plan : DecidesSteps put_plan_reads.Post (λ κs s. s.1.1.0.now)
put_plan κs a x y s t p q = (p.0 ∙ sym q.0, p.1 ∙ sym q.1)
