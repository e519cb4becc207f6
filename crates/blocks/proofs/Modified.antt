-- MBIT touches one bit: of what a block writes, its destination's part, where the block is an MBIT. Its middle output and the lamp on it
-- follow its middle input. Assumes nothing.
use mathlib.Core.Path.{◌≡◌, refl, sym, ap, ap₂, ◌∙◌, subst}
use mathlib.Core.Bool.{Bool, true, false, cond, ◌&&◌}
use mathlib.Core.Option.{Option, none, some}
use Prim.Native.Nat.{ℕ, ◌+◌, ◌*◌}
use native.Mathlib.Omega.{arith}
use borrow.Author.Tests.{ltb-true, ltb-false, eqb-true, eqb-false, eq-eqb, ne_eqb, le-leb, lt-leb}
use lib.Dec.{eqb, leb, ltb}
use Rattle.bits.specs.Bit.{bit}
use Rattle.blocks.specs.declared.Power.{Power}
use Rattle.blocks.specs.Kind.{kind_of}
use Rattle.blocks.specs.Kind.Kind.{MBIT}
use Rattle.blocks.specs.View.{View, first_word, view}
use Rattle.blocks.specs.Effect.{Effect, idle, modify, effect_of}
use Rattle.blocks.specs.Effect.Change.{puts}
use Rattle.blocks.specs.Work.{pointer_node, one_word, effect_on, block_outputs}
use Rattle.blocks.specs.Truths.{matrix_bit, change_bit, coil_bit, later, or_stays, ModifiesOneBit, MiddleFollows, LampFollows}
use Rattle.blocks.proofs.Places.{modify_worked}
use Rattle.blocks.proofs.Written.{every_bit, beside_pointer}
use Rattle.blocks.proofs.Puts.{Off}

-- ---- the rule
module _ (held : Bool) (n : ℕ) (v : View) (on : Power) where
  abbrev at : ℕ
  at = v.pointer

  abbrev worked : Bool → Bool → Effect
  worked = modify_worked held n v on

  middle_is : (modify held n v on).middle ≡ (on.top && on.middle)
  unfolding modify
  middle_is = go on.top (ltb (16 * n) at)
    where
      go : (power over : Bool) → (cond power (worked over (eqb at 0)) (idle none)).middle ≡ (power && on.middle)
      go true true = refl
      go true false = refl
      go false over = refl

  -- its change of the destination, by bits
  module _ (d p : ℕ) (x : Bool) where
    put : cond (eqb p (16 * d + at)) on.middle x ≡ or_stays (change_bit d (puts at on.middle) p) x
    put = go (eqb p (16 * d + at))
      where
        go : (a : Bool) → cond a on.middle x ≡ or_stays (cond a (some on.middle) none) x
        go true = refl
        go false = refl

    one_bit : or_stays (change_bit d (modify held n v on).destination p) x
        ≡ cond (on.top && (leb 1 at && leb at (16 * n))) (cond (eqb p (16 * d + at)) on.middle x) x
    unfolding modify
    one_bit = by_power on.top
      where
        go : (over : Bool) → ltb (16 * n) at ≡ over → (zero_there : Bool) → eqb at 0 ≡ zero_there
            → or_stays (change_bit d (worked over zero_there).destination p) x
            ≡ cond (leb 1 at && leb at (16 * n)) (cond (eqb p (16 * d + at)) on.middle x) x
        go true e z f =
            ap (λ (a : Bool). cond a (cond (eqb p (16 * d + at)) on.middle x) x)
            (sym (ap₂ ◌&&◌ (le-leb 1 at (omega (arith, ltb-true (16 * n) at e))) (lt-leb at (16 * n) (ltb-true (16 * n) at e))))
        go false e true f =
            ap (λ (a : Bool). cond (a && leb at (16 * n)) (cond (eqb p (16 * d + at)) on.middle x) x) (sym (lt-leb 1 at (omega (arith, eqb-true at 0 f))))
        go false e false f =
            sym put
            ∙ ap (λ (a : Bool). cond a (cond (eqb p (16 * d + at)) on.middle x) x)
            (sym (ap₂ ◌&&◌ (le-leb 1 at (omega (arith, eqb-false at 0 f))) (le-leb at (16 * n) (ltb-false (16 * n) at e))))

        by_power : (power : Bool)
            → or_stays (change_bit d (cond power (worked (ltb (16 * n) at) (eqb at 0)) (idle none)).destination p) x
            ≡ cond (power && (leb 1 at && leb at (16 * n))) (cond (eqb p (16 * d + at)) on.middle x) x
        by_power true = go (ltb (16 * n) at) refl (eqb at 0) refl
        by_power false = refl

pub modifies_one_bit : ModifiesOneBit
unfolding kind_of effect_of view
modifies_one_bit net earlier b t r mbit on p beside =
    beside_pointer net b t on earlier r p beside.no_coil
    (subst (λ (k : ℕ). (pointer_node (kind_of k) b).class ≡ 4 → Off (first_word net (pointer_node (kind_of k) b)) 1 p) (sym mbit) beside.no_pointer)
    ∙ ap (λ (k : ℕ). or_stays (change_bit (first_word net b.middle)
    (effect_of (kind_of k) (eqb (pointer_node (kind_of k) b).class 4) b.n (view (kind_of k) net b t) on).destination p) (bit t p)) mbit
    ∙ one_bit (eqb b.top.class 4) b.n (view MBIT net b t) on (first_word net b.middle) p (bit t p)

-- ---- the middle output, and the lamp on it
pub middle_follows : MiddleFollows
unfolding kind_of effect_of view block_outputs
middle_follows net b t mbit on =
    ap (λ (k : ℕ). (effect_of (kind_of k) (eqb (pointer_node (kind_of k) b).class 4) b.n (view (kind_of k) net b t) on).middle) mbit
    ∙ middle_is (eqb b.top.class 4) b.n (view MBIT net b t) on

own_coil : (number : ℕ) (on : Bool) → (number ≡ 0 → ⊥) → coil_bit number on number ≡ some on
own_coil number on named = ap₂ (λ (a b : Bool). cond a none (cond b (some on) none)) (ne_eqb number 0 named) (eq-eqb number number refl)

other_coil : (number other : ℕ) (on : Bool) → (number ≡ other → ⊥) → coil_bit other on number ≡ none
other_coil number other on apart = ap (λ (a : Bool). cond (eqb other 0) none (cond a (some on) none)) (ne_eqb number other apart) ∙ go (eqb other 0)
  where
    go : (a : Bool) → cond {A = Option Bool} a none none ≡ none
    go true = refl
    go false = refl

pub lamp_follows : LampFollows
unfolding block_outputs
lamp_follows net earlier b t r mbit on named alone =
    let lamp : ℕ = b.coils.middle in
    let e : Effect = effect_on net b t on in
    let before : Option Bool =
    later (coil_bit b.coils.top on.top lamp)
    (later (matrix_bit (first_word net (pointer_node (kind_of b.kind) b)) (one_word e.pointer) lamp)
    (change_bit (first_word net b.middle) e.destination lamp)) in
    every_bit net earlier b t r on lamp
    ∙ ap₂ (λ (bottom middle : Option Bool). or_stays (later bottom (later middle before)) (bit t lamp))
    (other_coil lamp b.coils.bottom e.bottom alone) (own_coil lamp e.middle named)
    ∙ middle_follows net b t mbit on
