-- `run::visits::visit_and_put` meets its contract: the visit, then its line, by the work.
use mathlib.Core.Path.{ap, refl, subst}
use mathlib.Core.Logic.{⊎_elim}
use Rattle.text.specs.Text.{decimal}
use Rattle.run.specs.Inner.{pointer_inside}
use Rattle.run.proofs.Following.{pointer_lies}
use Rattle.run.proofs.Turns.{lined_by}
use Rattle.run.proofs.visits.visit_and_put.Goals as goal

pub bounds-state-pointer : goal.bounds-state-pointer
bounds-state-pointer c = subst (pointer_inside _) c.in-Compare.is (pointer_lies c.requires.turned.stepped _ c.visit-out.auto.state)

pub shown-requires : goal.shown-requires
shown-requires c =
    let lies = pointer_lies c.requires.turned.stepped _ c.visit-out.auto.state in
    ⊎_elim (λ p. subst (pointer_inside _) p.1 lies) (λ p. subst (pointer_inside _) p.1 lies) c.in-Modify.is

pub returns-in-Combine : goal.returns-in-Combine
returns-in-Combine c =
    λ net scan t.
    let did = c.visit-out.ensures net t.stepped in
    ⊎_elim
    (λ p. lined_by t did.outputs did.leaves _ p.3 refl c.put_plain_line.ensures.answer c.put_plain_line.ensures.text)
    (⊎_elim
    (λ p. lined_by t did.outputs did.leaves _ p.2 refl c.put_plain_line.ensures.answer c.put_plain_line.ensures.text)
    (λ p. lined_by t did.outputs did.leaves _ p refl c.put_plain_line.ensures.answer c.put_plain_line.ensures.text))
    c.in-Combine.is

pub returns-in-Compare : goal.returns-in-Compare
returns-in-Compare c =
    λ net scan t.
    let did = c.visit-out.ensures net t.stepped in
    lined_by t did.outputs did.leaves _ c.in-Compare.is refl c.put_compare_line.ensures.answer c.put_compare_line.ensures.text

pub returns-in-Modify : goal.returns-in-Modify
returns-in-Modify c =
    λ net scan t.
    let did = c.visit-out.ensures net t.stepped in
    ⊎_elim
    (λ p. lined_by t did.outputs did.leaves _ p.1 (ap decimal c.shown.ensures) c.put_pointed_line.ensures.answer c.put_pointed_line.ensures.text)
    (λ p. lined_by t did.outputs did.leaves _ p.1 (ap decimal c.shown.ensures) c.put_pointed_line.ensures.answer c.put_pointed_line.ensures.text)
    c.in-Modify.is
