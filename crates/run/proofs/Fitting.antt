-- The laws of how many visits fit: no more than are left, at least one where there is room, and as many visits at once as have room for
-- whatever lines. Assumes nothing.
use mathlib.Core.Path.{◌≡◌, refl, ap, ◌∙◌}
use mathlib.Core.Bool.{Bool, cond}
use mathlib.Core.List.{List, ◌++◌}
use Prim.Native.Nat.{ℕ, zero, suc, ◌+◌, ◌-◌, ◌*◌, ◌/◌, ◌%◌, ◌≤◌, ◌<◌}
use native.Mathlib.Decide.{dec_lt}
use native.Mathlib.Nat.{mod-lt, div-le_of_le-mul}
use native.Mathlib.Omega.{arith}
use borrow.Author.Tests.{lt-ltb, le-ltb}
use lib.ListN.{length, length-append}
use Rattle.section.proofs.Walk.{le_of_not_lt}
use Rattle.network.specs.Network.{Network, block_count}
use Rattle.network.specs.Sound.{GoodNetwork}
use Rattle.run.specs.Visits.{visited, visit_line, visits_state, visits_lines}
use Rattle.run.specs.Page.{visit_room, fitting}
use Rattle.run.proofs.Visiting.{visit_short}

-- ---- one after the other
module _ (net : Network) where
  abbrev the_line : ℕ → List ℕ → List ℕ
  the_line v state = visit_line net (v / block_count net + 1) (v % block_count net) state

  abbrev one_more : ℕ → ℕ → List ℕ → ℕ → ℕ
  one_more v left state room = suc (fitting net (v + 1) left (visited net (v % block_count net) state) (room - length (the_line v state)))

  pub fits_none : (v left : ℕ) (state : List ℕ) (room : ℕ) → room < visit_room → fitting net v left state room ≡ 0
  unfolding fitting
  fits_none v zero state room l = refl
  fits_none v (suc left) state room l = ap (λ (a : Bool). cond a 0 (one_more v left state room)) (lt-ltb room visit_room l)

  fits_one : (v left : ℕ) (state : List ℕ) (room : ℕ) → visit_room ≤ room → fitting net v (suc left) state room ≡ one_more v left state room
  unfolding fitting
  fits_one v left state room l = ap (λ (a : Bool). cond a 0 (one_more v left state room)) (le-ltb room visit_room l)

  pub fits_few : (v left : ℕ) (state : List ℕ) (room : ℕ) → fitting net v left state room ≤ left
  unfolding fitting
  fits_few v zero state room = omega arith
  fits_few v (suc left) state room = elim (dec_lt room visit_room) [
    | yes l ↦ omega (arith, fits_none v (suc left) state room l)
    | no l ↦
        omega (
          arith,
          fits_one v left state room (le_of_not_lt l),
          fits_few (v + 1) left (visited net (v % block_count net) state) (room - length (the_line v state)),
        )
  ]

  pub fits_some : (v left : ℕ) (state : List ℕ) (room : ℕ) → visit_room ≤ room → 1 ≤ left → 1 ≤ fitting net v left state room
  fits_some v zero state room l u = absurd (omega (arith, u))
  fits_some v (suc left) state room l u = omega (arith, fits_one v left state room l)

  -- ---- several at once, of a good network and in scans that are not too high
  module _ (good : GoodNetwork net) (some : 0 < block_count net) where
    the_line_short : (v : ℕ) → v ≤ block_count net * 9998 → (state : List ℕ) → length (the_line v state) ≤ visit_room
    the_line_short v l state =
        let scan : v / block_count net ≤ 9998 = div-le_of_le-mul (block_count net) {m = v} {n = 9998} (omega (arith, l)) in
        visit_short net good (v % block_count net) (mod-lt v some) state (v / block_count net + 1) (omega (arith, scan))

    pub visits_short : (v m : ℕ) (state : List ℕ) → v + m ≤ block_count net * 9998 → length (visits_lines net v m state) ≤ visit_room * m
    unfolding visits_lines
    visits_short v zero state l = omega arith
    visits_short v (suc m) state l =
        omega (
          arith,
          length-append (visits_lines net v m state) (the_line (v + m) (visits_state net v m state)),
          visits_short v m state (omega (arith, l)),
          the_line_short (v + m) (omega (arith, l)) (visits_state net v m state),
        )

    pub fits_on : (v left : ℕ) (state : List ℕ) (room : ℕ) → v + left ≤ block_count net * 9998 → (m : ℕ) → m ≤ left → visit_room * m ≤ room
        → fitting net v left state room ≡ m + fitting net (v + m) (left - m) (visits_state net v m state) (room - length (visits_lines net v m state))
    unfolding visits_state visits_lines
    fits_on v left state room low zero few l =
        let number : v ≡ v + 0 = omega arith in
        let all : left ≡ left - 0 = omega arith in
        let same : room ≡ room - 0 = omega arith in
        let rest : ℕ = fitting net (v + 0) (left - 0) state (room - 0) in
        let none : rest ≡ 0 + rest = omega arith in
        (λ i. fitting net (number i) (all i) state (same i)) ∙ none
    fits_on v left state room low (suc m) few l =
        let so_far : List ℕ = visits_state net v m state in
        let used : List ℕ = visits_lines net v m state in
        let short = visits_short v m state (omega (arith, low, few)) in
        let next : left - m ≡ suc (left - suc m) = omega (arith, few) in
        let number : v + m + 1 ≡ v + suc m = omega arith in
        let less : room - length used - length (the_line (v + m) so_far) ≡ room - length (used ++ the_line (v + m) so_far) =
        omega (arith, length-append used (the_line (v + m) so_far)) in
        let rest : ℕ = fitting net (v + suc m) (left - suc m) (visited net ((v + m) % block_count net) so_far) (room - length (used ++ the_line (v + m) so_far)) in
        let moved : m + suc rest ≡ suc m + rest = omega arith in
        fits_on v left state room low m (omega (arith, few)) (omega (arith, l))
        ∙ ap (λ (n : ℕ). m + fitting net (v + m) n so_far (room - length used)) next
        ∙ ap (λ (n : ℕ). m + n) (fits_one (v + m) (left - suc m) so_far (room - length used) (omega (arith, short, l)))
        ∙ (λ i. m + suc (fitting net (number i) (left - suc m) (visited net ((v + m) % block_count net) so_far) (less i)))
        ∙ moved
