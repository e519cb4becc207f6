-- What a block of an accepted network writes, by its kind: a destination and a pointer, where each of them lies and how long it is.
-- This is the one place where the kinds are gone through; what a block leaves alone follows from it. Assumes nothing.
use mathlib.Core.Path.{◌≡◌, refl, sym, ap, ◌∙◌, subst}
use mathlib.Core.Bool.{Bool, true, false, cond, ◌&&◌}
use mathlib.Core.List.{List, [], ◌∷◌}
use mathlib.Core.Logic.{◌⊎◌, inl, inr, ⊎_elim}
use mathlib.Core.Option.{Option, none, some}
use Prim.Native.Nat.{ℕ, zero, suc, ◌+◌, ◌*◌, ◌≤◌}
use native.Mathlib.Omega.{arith}
use borrow.Author.Tests.{eqb-true, eqb-false, ltb-false}
use lib.Dec.{eqb, ltb}
use lib.ListN.{length}
use Rattle.bits.specs.Bit.{matrix}
use Rattle.bits.proofs.Matrix.{matrix_length}
use Rattle.matrix.specs.declared.logic.Operation.{Operation}
use Rattle.matrix.specs.declared.logic.Operation.TheVariants.{And, Or, Xor, Comp}
use Rattle.search.specs.Search.{first_differing}
use Rattle.record.specs.declared.Node.{Node}
use Rattle.record.specs.declared.Block.{Block}
use Rattle.rules.specs.declared.rules.Classes.{Classes}
use Rattle.network.specs.Network.{Network}
use Rattle.table.specs.Table.{total, start_of}
use Rattle.rules.specs.Rules.{rule}
use Rattle.rules.specs.Fault.{top_words}
use Rattle.table.specs.Sound.{Placed}
use Rattle.rules.specs.Sound.{GoodNode, GoodBlock}
use Rattle.rules.proofs.KindFacts.{Writable, KindFacts, accepted_means}
use Rattle.blocks.specs.declared.Power.{Power}
use Rattle.blocks.specs.Kind.{kind_of}
use Rattle.blocks.specs.View.{View, first_word, view}
use Rattle.blocks.specs.Effect.{Change, Effect, effect, into, increased, logic, zeroed, starts_at, reaching, found, compare, rotate, modify, at_one, left_at_one, sense, effect_of}
use Rattle.blocks.specs.Work.{pointer_node, one_word, effect_on}
use Rattle.blocks.specs.Effect.Change.{stays, becomes, puts}
use Rattle.blocks.specs.Truths.{Runs}
use Rattle.blocks.proofs.Puts.{Makes}

-- ---- what is true of the word that a pointer becomes, if it is written
pub record Each (P : List ℕ → Type 0) (o : Option (List ℕ)) : Type 0 where
  pub each : (m : List ℕ) → o ≡ some m → P m

nothing : {P : List ℕ → Type 0} → Each P none
nothing = record { each = λ m e. let q : ◌≡◌ {A = ℕ} 0 1 = cc in absurd (omega arith) }

one : {P : List ℕ → Type 0} {m : List ℕ} → P m → Each P (some m)
one {P} {m} h = record { each = λ n e. subst P (same n e) h }
  where
    same : (n : List ℕ) → some m ≡ some n → m ≡ n
    same n e = cc

any_word : {P : List ℕ → Type 0} → ((w : ℕ) → P (w ∷ [])) → (o : Option ℕ) → Each P (one_word o)
any_word h none = nothing
any_word h (some w) = one (h w)

held_word : {P : List ℕ → Type 0} (held c : Bool) (x : ℕ) (o : Option ℕ) → (held ≡ true → (w : ℕ) → P (w ∷ [])) → Each P (one_word o)
    → Each P (one_word (cond (held && c) (some x) o))
held_word true c x o h k = any_word (h refl) (cond c (some x) o)
held_word false c x o h k = k

-- ---- what is true of all that an effect writes
pub record Writes (D : Type 0) (P : List ℕ → Type 0) (n : ℕ) (e : Effect) : Type 0 where
  pub destination : Makes D n e.destination
  pub pointer : Each P (one_word e.pointer)

made : {D : Type 0} {P : List ℕ → Type 0} (n : ℕ) (d : Change) {p : Option ℕ} {middle bottom : Bool}
    → Makes D n d → Each P (one_word p) → Writes D P n (effect d p middle bottom)
made n d h k = record { destination = h; pointer = k }

reached : {D : Type 0} {P : List ℕ → Type 0} {n : ℕ} → ((w : ℕ) → P (w ∷ [])) → (from to : ℕ) {middle bottom : Bool}
    → Writes D P n (reaching from to middle bottom)
reached h from to = record { destination = tt; pointer = any_word h (some to) }

either : {D : Type 0} {P : List ℕ → Type 0} {n : ℕ} {x y : Effect} (c : Bool) → Writes D P n x → Writes D P n y → Writes D P n (cond c x y)
either true h k = h
either false h k = k

-- MBIT's rule with power, by whether its pointer is over 16n and whether it is 0
abbrev pub modify_worked : Bool → ℕ → View → Power → Bool → Bool → Effect
modify_worked held n v on over zero_there =
    cond over (effect stays none on.middle true)
    (effect (cond zero_there stays (puts v.pointer on.middle)) (increased (held && on.bottom) none (into n v.pointer)) on.middle false)

-- by the rule of each kind: AND, OR, XOR, COMP and BROT write a destination of n words, CMPR a pointer, MBIT a bit of n words and a pointer, SENS
-- a pointer; MBIT and SENS write a pointer only where it is held
module _ {D : Type 0} {P : List ℕ → Type 0} (n : ℕ) (v : View) (on : Power) where
  logic_writes : (operation : Operation) → D → Writes D P n (logic operation n v on)
  unfolding logic
  logic_writes operation h = either on.top (made n (becomes (matrix n _)) (h, matrix_length n _) nothing) (made n stays tt nothing)

  rotate_writes : D → Writes D P n (rotate n v on)
  unfolding rotate
  rotate_writes h = either on.top (made n (becomes (matrix n _)) (h, matrix_length n _) nothing) (made n stays tt nothing)

  found_writes : ((w : ℕ) → P (w ∷ [])) → (from : ℕ) (o : Option ℕ) → Writes D P n (found n v from o)
  unfolding found
  found_writes h from none = reached h from (16 * n)
  found_writes h from (some p) = reached h from p

  compare_writes : ((w : ℕ) → P (w ∷ [])) → Writes D P n (compare n v on)
  unfolding compare
  compare_writes h =
      either on.top
      (found_writes h (starts_at n v on) (first_differing v.source v.destination n (starts_at n v on)))
      (made n stays tt (any_word h (cond on.middle (some (zeroed n v on).at) none)))

  module _ (held : Bool) (h : held ≡ true → (w : ℕ) → P (w ∷ [])) where
    modify_writes : D → Writes D P n (modify held n v on)
    unfolding modify
    modify_writes d = either on.top (go (ltb (16 * n) v.pointer) refl (eqb v.pointer 0) refl) (made n stays tt nothing)
      where
        new : Each P (one_word (increased (held && on.bottom) none (into n v.pointer)))
        new = held_word held on.bottom _ none h nothing

        go : (over : Bool) → ltb (16 * n) v.pointer ≡ over → (zero_there : Bool) → eqb v.pointer 0 ≡ zero_there
            → Writes D P n (modify_worked held n v on over zero_there)
        go true e z f = made n stays tt nothing
        go false e true f = made n stays tt new
        go false e false f =
            made n (puts v.pointer on.middle) (d, omega (arith, eqb-false v.pointer 0 f), ltb-false (16 * n) v.pointer e) new

    sense_writes : Writes D P n (sense held n v on)
    unfolding sense
    sense_writes =
        either on.top
        (either (ltb (16 * n) (at_one held n v on).at) (made n stays tt left)
        (made n stays tt (held_word held on.middle _ (left_at_one held n v on) h left)))
        (made n stays tt left)
      where
        left : Each P (one_word (left_at_one held n v on))
        left = held_word held on.bottom _ none h nothing

-- ---- words that a block may write: they lie in the table, among the coils or among the holding registers
pub record Fits (net : Network) (s words : ℕ) : Type 0 where
  pub inside : s + words ≤ total net.sizes
  pub no_inputs : (s + words ≤ net.sizes.coils) ⊎ (net.sizes.coils + net.sizes.discretes + net.sizes.inputs ≤ s)

fewer : {net : Network} {s more words : ℕ} → words ≤ more → Fits net s more → Fits net s words
fewer l f = record { inside = omega (arith, f.inside); no_inputs = ⊎_elim (λ h. inl (omega arith)) inr f.no_inputs }

coils_fit : (net : Network) (class number words : ℕ) → class ≡ 0 → Placed net.sizes class number words → Fits net (start_of net.sizes class number) words
unfolding start_of
coils_fit net class number words e =
    subst (λ (c : ℕ). Placed net.sizes c number words → Fits net (start_of net.sizes c number) words) (sym e)
    (λ p. record { inside = omega (arith, p.inside); no_inputs = inl (omega (arith, p.inside)) })

holding_fit : (net : Network) (class number words : ℕ) → class ≡ 4 → Placed net.sizes class number words → Fits net (start_of net.sizes class number) words
unfolding start_of
holding_fit net class number words e =
    subst (λ (c : ℕ). Placed net.sizes c number words → Fits net (start_of net.sizes c number) words) (sym e)
    (λ p. record { inside = omega (arith, p.inside); no_inputs = inr (omega arith) })

node_fits : (net : Network) (classes : Classes) (node : Node) (words : ℕ) → GoodNode net.sizes classes node words → Writable node → Fits net (first_word net node) words
node_fits net classes node words g = ⊎_elim
    (λ e. coils_fit net node.class node.number words e (g.placed (λ q. omega arith)))
    (λ e. holding_fit net node.class node.number words e (g.placed (λ q. omega arith)))

-- ---- a block's destination: n words, and not that of a CMPR or a SENS
pub record Destination (net : Network) (b : Block) : Type 0 where
  pub no_compare : b.kind ≡ 5 → ⊥
  pub no_sense : b.kind ≡ 7 → ⊥
  pub fits : Fits net (first_word net b.middle) b.n

-- its pointer: one word, that of a CMPR, an MBIT or a SENS, in a holding register
pub record Register (net : Network) (b : Block) (m : List ℕ) : Type 0 where
  pub one_long : length m ≡ 1
  pub kind_low : 5 ≤ b.kind
  pub kind_high : b.kind ≤ 7
  pub held : (pointer_node (kind_of b.kind) b).class ≡ 4
  pub fits : Fits net (first_word net (pointer_node (kind_of b.kind) b)) (length m)

module _ (net : Network) (earlier : ℕ) (b : Block) (g : GoodBlock net.sizes earlier b) where
  facts : KindFacts net.sizes b
  facts = accepted_means net.sizes earlier b g

  middle_fits : Writable b.middle → Fits net (first_word net b.middle) b.n
  middle_fits w = fewer (omega arith) (node_fits net (rule b.kind).middle b.middle (b.n + (rule b.kind).extra) g.middle_node w)

  top_fits : b.top.class ≡ 4 → Fits net (first_word net b.top) 1
  top_fits e =
      fewer (one_at_least (rule b.kind).pointer)
      (node_fits net (rule b.kind).top b.top (top_words (rule b.kind).pointer b.n) g.top_node (inr e))
    where
      one_at_least : (pointer : Bool) → 1 ≤ top_words pointer b.n
      one_at_least true = omega arith
      one_at_least false = g.length_low

  destined : Writable b.middle → (b.kind ≡ 5 → ⊥) → (b.kind ≡ 7 → ⊥) → Destination net b
  destined w c s = record { no_compare = c; no_sense = s; fits = middle_fits w }

  register : (k : ℕ) → b.kind ≡ k → 5 ≤ k → k ≤ 7 → (pointer_node (kind_of k) b).class ≡ 4 → Fits net (first_word net (pointer_node (kind_of k) b)) 1
      → (w : ℕ) → Register net b (w ∷ [])
  register k e l u h f w = record {
    one_long = refl;
    kind_low = omega arith;
    kind_high = omega arith;
    held = ap (λ (x : ℕ). (pointer_node (kind_of x) b).class) e ∙ h;
    fits = subst (λ (x : ℕ). Fits net (first_word net (pointer_node (kind_of x) b)) 1) (sym e) f;
  }

  writes_as : (k : ℕ) → b.kind ≡ k → 1 ≤ k → k ≤ 8 → (v : View) (on : Power)
      → Writes (Destination net b) (Register net b) b.n (effect_of (kind_of k) (eqb (pointer_node (kind_of k) b).class 4) b.n v on)
  unfolding kind_of effect_of
  writes_as zero e l u v on = absurd (omega arith)
  writes_as (suc zero) e l u v on = logic_writes b.n v on And (destined (facts.two (inl (omega arith))).writable (λ q. omega arith) (λ q. omega arith))
  writes_as (suc (suc zero)) e l u v on = logic_writes b.n v on Or (destined (facts.two (inl (omega arith))).writable (λ q. omega arith) (λ q. omega arith))
  writes_as (suc (suc (suc zero))) e l u v on = logic_writes b.n v on Xor (destined (facts.two (inl (omega arith))).writable (λ q. omega arith) (λ q. omega arith))
  writes_as (suc (suc (suc (suc zero)))) e l u v on = logic_writes b.n v on Comp (destined (facts.two (inl (omega arith))).writable (λ q. omega arith) (λ q. omega arith))
  writes_as (suc (suc (suc (suc (suc zero))))) e l u v on =
      compare_writes b.n v on (register 5 e (omega arith) (omega arith) (facts.compare e).held (fewer g.length_low (middle_fits (inr (facts.compare e).held))))
  writes_as (suc (suc (suc (suc (suc (suc zero)))))) e l u v on =
      modify_writes b.n v on (eqb b.top.class 4)
      (λ h. let held : b.top.class ≡ 4 = eqb-true b.top.class 4 h in register 6 e (omega arith) (omega arith) held (top_fits held))
      (destined (facts.modified e) (λ q. omega arith) (λ q. omega arith))
  writes_as (suc (suc (suc (suc (suc (suc (suc zero))))))) e l u v on =
      sense_writes b.n v on (eqb b.top.class 4)
      (λ h. let held : b.top.class ≡ 4 = eqb-true b.top.class 4 h in register 7 e (omega arith) (omega arith) held (top_fits held))
  writes_as (suc (suc (suc (suc (suc (suc (suc (suc zero)))))))) e l u v on = rotate_writes b.n v on (destined (facts.two (inr e)).writable (λ q. omega arith) (λ q. omega arith))
  writes_as (suc (suc (suc (suc (suc (suc (suc (suc (suc k))))))))) e l u v on = absurd (omega arith)

pub writes : (net : Network) (earlier : ℕ) (b : Block) (t : List ℕ) → Runs net earlier b t → (on : Power) → Writes (Destination net b) (Register net b) b.n (effect_on net b t on)
writes net earlier b t r on = writes_as net earlier b r.good b.kind refl r.good.kind_low r.good.kind_high (view (kind_of b.kind) net b t) on
