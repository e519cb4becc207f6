-- `run::put_page` meets its contract: the first line, the visits, the last line.
use mathlib.Core.Path.{refl, sym, ap}
use mathlib.Core.Bool.{Bool, cond}
use Prim.Native.Nat.{◌+◌}
use native.Mathlib.Omega.{arith}
use borrow.Author.Tests.{eq-eqb, ne_eqb}
use Rattle.run.proofs.Running.{words_small, all_done}
use Rattle.run.proofs.put_page.Goals as goal

pub overflow_cast-file : goal.overflow_cast-file
overflow_cast-file c = omega (arith, words_small c.requires.ready)

pub returns-then-visit-visits : goal.returns-then-visit-visits
returns-then-visit-visits c =
    let at = c.put_visits-reached.result.visit in
    all_done c.requires c.count-count.ensures c.put_first-at.ensures refl c.put_visits-reached.ensures c.put_last-bytes.ensures
    (sym (ap (λ (a : Bool). cond a (at + 1) at) (eq-eqb _ _ c.if-visit-visits.true)))

pub returns-else-visit-visits : goal.returns-else-visit-visits
returns-else-visit-visits c =
    let at = c.put_visits-reached.result.visit in
    all_done c.requires c.count-count.ensures c.put_first-at.ensures refl c.put_visits-reached.ensures c.put_last-bytes.ensures
    (sym (ap (λ (a : Bool). cond a (at + 1) at) (ne_eqb _ _ c.if-visit-visits.false)))
