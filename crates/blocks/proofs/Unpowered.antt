-- What a block does without power on top, and that no pointer is written but one that is held. Assumes nothing.
use mathlib.Core.Path.{◌≡◌, refl, ap, ◌∙◌}
use mathlib.Core.Bool.{Bool, true, false, cond, ◌&&◌}
use mathlib.Core.List.{[], ◌∷◌}
use mathlib.Core.Option.{none, some}
use Prim.Native.Nat.{ℕ, zero, suc, ◌*◌, ◌≤◌}
use native.Mathlib.Omega.{arith}
use lib.Dec.{eqb, leb}
use Rattle.bits.specs.Bit.{longest}
use Rattle.pointer.specs.declared.Pointer.{Pointer}
use Rattle.pointer.specs.Pointer.{sized, reset}
use Rattle.pointer.proofs.Pointers.{size_right, steps as sized_steps}
use Rattle.matrix.specs.declared.logic.Operation.{Operation}
use Rattle.matrix.specs.declared.logic.Operation.TheVariants.{And, Or, Xor, Comp}
use Rattle.record.specs.declared.Block.{Block}
use Rattle.network.specs.Network.{Network}
use Rattle.rules.specs.Sound.{GoodBlock}
use Rattle.rules.proofs.KindFacts.{KindFacts, accepted_means}
use Rattle.blocks.specs.declared.Power.{Power}
use Rattle.blocks.specs.Kind.{kind_of}
use Rattle.blocks.specs.View.{View, view}
use Rattle.blocks.specs.Effect.{Effect, idle, into, logic, compare, rotate, modify, sense, effect_of}
use Rattle.blocks.specs.Work.{pointer_node, one_word}
use Rattle.blocks.specs.Truths.{reset_alone, WithoutPower, OnlyHeld}
use Rattle.blocks.proofs.Places.{writes}

-- by the rule of each kind
module _ (n : ℕ) (v : View) (on : Power) (off : on.top ≡ false) where
  -- the work where there is power, what is left where there is none
  unpowered : (x y : Effect) → cond on.top x y ≡ y
  unpowered x y = ap (λ (a : Bool). cond a x y) off

  logic_idle : (operation : Operation) → logic operation n v on ≡ idle none
  unfolding logic
  logic_idle operation = unpowered _ _

  rotate_idle : rotate n v on ≡ idle none
  unfolding rotate
  rotate_idle = unpowered _ _

  modify_idle : (held : Bool) → modify held n v on ≡ idle none
  unfolding modify
  modify_idle held = unpowered _ _

  module _ (fits : sized (16 * n) ≡ true) where
    set : (to : ℕ) → cond (leb to 1) to v.pointer ≡ to → (reset (into n v.pointer) to).at ≡ to
    unfolding reset
    set to e = ap (λ (p : Pointer). p.at) (sized_steps (into n v.pointer) (cond (leb to 1) to v.pointer) fits) ∙ e

    zeroes : (a : Bool) → cond a (some (cond a (reset (into n v.pointer) 0) (into n v.pointer)).at) none ≡ cond a (some 0) none
    zeroes true = ap some (set 0 refl)
    zeroes false = refl

    ones : (a : Bool) → cond a (some (cond a (reset (into n v.pointer) 1) (into n v.pointer)).at) none ≡ cond a (some 1) none
    ones true = ap some (set 1 refl)
    ones false = refl

    compare_idle : compare n v on ≡ idle (cond on.middle (some 0) none)
    unfolding compare
    compare_idle = unpowered _ _ ∙ ap idle (zeroes on.middle)

    sense_idle : (held : Bool) → sense held n v on ≡ idle (cond (held && on.bottom) (some 1) none)
    unfolding sense
    sense_idle held = unpowered _ _ ∙ ap idle (ones (held && on.bottom))

module _ (net : Network) (earlier : ℕ) (b : Block) (g : GoodBlock net.sizes earlier b) where
  facts : KindFacts net.sizes b
  facts = accepted_means net.sizes earlier b g

  fits : 1 ≤ b.n → b.n ≤ longest → sized (16 * b.n) ≡ true
  fits l u = size_right (16 * b.n) (omega arith) (omega arith) (omega arith)

  idle_as : (k : ℕ) → b.kind ≡ k → 1 ≤ k → k ≤ 8 → (v : View) (on : Power) → on.top ≡ false
      → effect_of (kind_of k) (eqb (pointer_node (kind_of k) b).class 4) b.n v on ≡ idle (reset_alone (kind_of k) (eqb (pointer_node (kind_of k) b).class 4) on)
  unfolding kind_of effect_of
  idle_as zero e l u v on off = absurd (omega arith)
  idle_as (suc zero) e l u v on off = logic_idle b.n v on off And
  idle_as (suc (suc zero)) e l u v on off = logic_idle b.n v on off Or
  idle_as (suc (suc (suc zero))) e l u v on off = logic_idle b.n v on off Xor
  idle_as (suc (suc (suc (suc zero)))) e l u v on off = logic_idle b.n v on off Comp
  idle_as (suc (suc (suc (suc (suc zero))))) e l u v on off =
      let c = facts.compare e in compare_idle b.n v on off (fits c.some (omega (arith, c.few)))
  idle_as (suc (suc (suc (suc (suc (suc zero)))))) e l u v on off = modify_idle b.n v on off (eqb b.top.class 4)
  idle_as (suc (suc (suc (suc (suc (suc (suc zero))))))) e l u v on off =
      let c = facts.sense e in sense_idle b.n v on off (fits c.some c.few) (eqb b.top.class 4)
  idle_as (suc (suc (suc (suc (suc (suc (suc (suc zero)))))))) e l u v on off = rotate_idle b.n v on off
  idle_as (suc (suc (suc (suc (suc (suc (suc (suc (suc k))))))))) e l u v on off = absurd (omega arith)

pub without_power : WithoutPower
without_power net earlier b t r on off =
    idle_as net earlier b r.good b.kind refl r.good.kind_low r.good.kind_high (view (kind_of b.kind) net b t) on off

pub only_held : OnlyHeld
only_held net earlier b t r on x e = ((writes net earlier b t r on).pointer.each (x ∷ []) (ap one_word e)).held
