-- A compare's middle output in a scan is off exactly when no later position differs: the block does what its rule says, and the rule
-- says so. Assumes nothing.
use mathlib.Core.Path.{◌≡◌, refl, sym, ap, ◌∙◌, subst}
use mathlib.Core.Bool.{Bool, true, false, cond}
use mathlib.Core.List.{List}
use Prim.Native.Nat.{ℕ, ◌*◌, ◌<◌}
use native.Mathlib.Omega.{arith}
use lib.Dec.{eqb, ltb}
use lib.ListN.{get_or}
use Rattle.pointer.specs.declared.Pointer.{Pointer}
use Rattle.pointer.specs.Pointer.{sized, reset, in_range}
use Rattle.pointer.proofs.Pointers.{size_right, steps as sized_steps}
use Rattle.search.specs.Search.{NoneLater}
use Rattle.record.specs.declared.Block.{Block}
use Rattle.network.specs.Network.{Network, block_of, block_count}
use Rattle.network.specs.Sound.{GoodNetwork}
use Rattle.rules.proofs.KindFacts.{Compared, accepted_means}
use Rattle.blocks.specs.declared.Outputs.{Outputs}
use Rattle.blocks.specs.Kind.{kind_of}
use Rattle.blocks.specs.View.{View, seen, view}
use Rattle.blocks.specs.Effect.{Effect, into, zeroed, starts_at, compare, effect_of}
use Rattle.blocks.specs.Work.{pointer_node, effect_on, block_outputs}
use Rattle.blocks.specs.Answer.{no_outputs}
use Rattle.blocks.proofs.Reported.{none_means_none}
use Rattle.scan.specs.Scan.{scanned}
use Rattle.rounds.specs.Demand3.{visit, power_at, source_found, matrix_found, register_found}
use Rattle.rounds.specs.Found.{sought_from, NothingFound}
use Rattle.rounds.proofs.Visits.{own_output}

-- where a compare starts, after its reset and taken in range
module _ (n q : ℕ) (fits : sized (16 * n) ≡ true) where
  always_zero : (a : Bool) → ◌≡◌ {A = ℕ} (cond a 0 0) 0
  always_zero true = refl
  always_zero false = refl

  taken : (p : ℕ) → (in_range (into n p)).at ≡ cond (ltb p (16 * n)) p 0
  unfolding in_range
  taken p = ap (λ (x : Pointer). x.at) (sized_steps (into n p) (cond (ltb p (16 * n)) p 0) fits)

  zero_is : reset (into n q) 0 ≡ into n 0
  unfolding reset
  zero_is = sized_steps (into n q) 0 fits

  pub starts : (a : Bool) → (in_range (cond a (reset (into n q) 0) (into n q))).at ≡ cond a 0 (cond (ltb q (16 * n)) q 0)
  starts true = ap (λ (p : Pointer). (in_range p).at) zero_is ∙ taken 0 ∙ always_zero (ltb 0 (16 * n))
  starts false = taken q

module _ (net : Network) (i : ℕ) (t : List ℕ) (G : GoodNetwork net) (there : i < block_count net) (compares : (block_of net i).kind ≡ 5) where
  b : Block
  b = block_of net i

  facts : Compared net.sizes b
  unfolding b
  facts = (accepted_means net.sizes i b (G.blocks i there)).compare compares

  v : View
  v = seen (source_found net i t) (matrix_found net i t) (register_found net i t)

  -- what the block is to do
  effect_is : effect_on net b (visit net i t).table (power_at net i t) ≡ compare b.n v (power_at net i t)
  unfolding b v kind_of view effect_of
  effect_is =
      ap (λ (k : ℕ). effect_of (kind_of k) (eqb (pointer_node (kind_of k) b).class 4) b.n (view (kind_of k) net b (visit net i t).table) (power_at net i t)) compares
      ∙ ap (λ (c : ℕ). compare b.n (seen (source_found net i t) (matrix_found net i t) (cond (eqb c 9) b.middle.number (register_found net i t))) (power_at net i t)) facts.held

  middle_is : (get_or (scanned net t).outs i no_outputs).middle ≡ (compare b.n v (power_at net i t)).middle
  unfolding b block_outputs
  middle_is = ap (λ (out : Outputs). out.middle) (own_output net t i there) ∙ ap (λ (e : Effect). e.middle) effect_is

  start_is : (in_range (zeroed b.n v (power_at net i t))).at ≡ sought_from net i t
  unfolding b v
  start_is =
      starts b.n (register_found net i t) (size_right (16 * b.n) (omega arith) (omega (arith, facts.some)) (omega (arith, facts.few)))
      (power_at net i t).middle

  -- the same in the words of the definitions
  abbrev pub view_found : View
  view_found = seen (source_found net i t) (matrix_found net i t) (register_found net i t)

  pub compares_by : effect_on net (block_of net i) (visit net i t).table (power_at net i t) ≡ compare (block_of net i).n view_found (power_at net i t)
  unfolding b v
  compares_by = effect_is

  pub starts_from : starts_at (block_of net i).n view_found (power_at net i t) ≡ sought_from net i t
  unfolding b v
  starts_from = start_is

pub nothing_found : NothingFound
unfolding b v
nothing_found net i t G long there compares power =
    let n : ℕ = (block_of net i).n in
    let none = none_means_none n (v net i t G there compares) (power_at net i t) power in
    let start = start_is net i t G there compares in (
      (λ e. subst (NoneLater (source_found net i t) (matrix_found net i t) n) start (none.0 (sym (middle_is net i t G there compares) ∙ e))),
      (λ h. middle_is net i t G there compares ∙ none.1 (subst (NoneLater (source_found net i t) (matrix_found net i t) n) (sym start) h)),
    )
