-- What a block does with the pointer that its node gives is what it does with the node: a constant has no word, and none is written.
use mathlib.Core.Path.{◌≡◌, refl, sym, ap, ◌∙◌, subst}
use mathlib.Core.Bool.{Bool, true, false, cond, ◌||◌}
use mathlib.Core.List.{List}
use Prim.Native.Nat.{ℕ, ◌*◌}
use native.Mathlib.Omega.{arith}
use borrow.Author.Tests.{eqb-true, ne_eqb}
use lib.Dec.{eqb, ltb}
use lib.ListN.{length, get_or}
use Rattle.std.specs.Prelude.{Option, Some, None}
use Rattle.bits.specs.Bit.{longest}
use Rattle.runs.specs.Run.{fault, unless}
use Rattle.record.specs.declared.Node.{Node}
use Rattle.rules.specs.declared.codes.Kind.{Kind}
use Rattle.rules.specs.declared.codes.Kind.TheVariants.{Mbit, Sens}
use Rattle.rules.specs.Codes.{kind_number}
use Rattle.blocks.specs.declared.{Power.Power, Located.Located}
use Rattle.blocks.specs.Kind.{kind_of}
use Rattle.blocks.specs.View.{seen_by, pointer_at}
use Rattle.blocks.specs.Effect.{Effect, effect_of, modify, sense}
use Rattle.blocks.specs.Work.{effect_put, matrix_put}
use Rattle.blocks.specs.Answer.{Worked, Does}
use Rattle.pointed.specs.declared.place.Place.{Place}
use Rattle.pointed.specs.declared.place.Place.TheVariants.{Constant, Input, Holding}
use Rattle.pointed.specs.Call.{pointed_fault, pointer_from, modified_at, sensed_at}
use Rattle.pointed.specs.Places.{place_at, place_node, place_word}
use Rattle.kinds.specs.{Call.{kind_fault}, Inner.{constant_at, DoesAs}}

-- CMPR's pointer is its node's, whatever the node
pub constant_or_register : (node : Node) (p : ℕ) (t : List ℕ) (fixed : Option ℕ) → fixed ≡ constant_at node → pointer_from fixed p t ≡ pointer_at node p t
constant_or_register node p t fixed is = ap (λ (o : Option ℕ). pointer_from o p t) is ∙ by (eqb node.class 9)
  where
    by : (constant : Bool) → pointer_from (cond constant (Some node.number) None) p t ≡ cond constant node.number (get_or t p 0)
    by true = refl
    by false = refl

module _ (node : Node) (at d n : ℕ) (on : Power) (t : List ℕ) where
  -- what n words earn with a constant or not, and the pointer
  earned : Bool → ℕ
  earned constant = unless (fault longest (length t) n d d) (cond (constant || ltb at (length t)) 0 8) (fault longest (length t) n d d)

  value : Bool → ℕ
  value constant = cond constant node.number (get_or t at 0)

  place : Bool → Bool → Place
  place constant held = cond constant (Constant node.number) (cond held (Holding at) (Input at))

  -- no class is both
  apart : eqb node.class 9 ≡ true → eqb node.class 4 ≡ false
  apart e = ne_eqb node.class 4 (λ q. omega (arith, eqb-true node.class 9 e, q))

  -- a pointer that is not held is not written, wherever it stands
  modified_anywhere : (power over : Bool) → on.top ≡ power → ltb (16 * n) node.number ≡ over
      → effect_put d n 0 (modified_at false node.number t d n on) t ≡ effect_put d n at (modified_at false node.number t d n on) t
  unfolding modify matrix_put
  modified_anywhere true true e l = rw (e, l) refl
  modified_anywhere true false e l = rw (e, l) refl
  modified_anywhere false over e l = rw e refl

  sensed_anywhere : (power over : Bool) → on.top ≡ power → ltb (16 * n) node.number ≡ over
      → effect_put d n 0 (sensed_at false node.number t d n on) t ≡ effect_put d n at (sensed_at false node.number t d n on) t
  unfolding sense matrix_put
  sensed_anywhere true true e l = rw (e, l) refl
  sensed_anywhere true false e l = rw (e, l) refl
  sensed_anywhere false over e l = rw e refl

  module _ (effect : Bool → ℕ → Effect) (r : Worked) (table : List ℕ) where
    -- as the place says, and as the node says
    abbrev AsPlace : Place → Type 0
    AsPlace p =
        Does (pointed_fault (length t) (place_node p) (place_word p) n d) on
        (effect (eqb (place_node p).class 4) (pointer_at (place_node p) (place_word p) t)) d n (place_word p) t r table

    abbrev AsNode : Bool → Bool → Type 0
    AsNode constant held = Does (earned constant) on (effect held (value constant)) d n at t r table

    by_place : effect_put d n 0 (effect false node.number) t ≡ effect_put d n at (effect false node.number) t
        → (constant held : Bool) → (constant ≡ true → held ≡ false) → AsPlace (place constant held) → AsNode constant held
    unfolding earned value place
    by_place same true true h w = absurd (true_is_not (h refl))
      where
        true_is_not : true ≡ false → ⊥
        true_is_not q = cc
    by_place same true false h w =
        record {
          answers = w.answers;
          leaves = w.leaves ∙ ap (λ (x : List ℕ). unless (earned true) x t) same;
        }
    by_place same false true h w = w
    by_place same false false h w = w

  modifies_at : (p : Place) → p ≡ place_at node at → (r : Worked) (table : List ℕ)
      → Does (pointed_fault (length t) (place_node p) (place_word p) n d) on
      (modified_at (eqb (place_node p).class 4) (pointer_at (place_node p) (place_word p) t) t d n on) d n (place_word p) t r table
      → Does (pointed_fault (length t) node at n d) on (modified_at (eqb node.class 4) (pointer_at node at t) t d n on) d n at t r table
  unfolding earned value place
  modifies_at p is r table w =
      by_place (λ held x. modified_at held x t d n on) r table (modified_anywhere on.top (ltb (16 * n) node.number) refl refl)
      (eqb node.class 9) (eqb node.class 4) apart
      (subst (AsPlace (λ held x. modified_at held x t d n on) r table) is w)

  senses_at : (p : Place) → p ≡ place_at node at → (r : Worked) (table : List ℕ)
      → Does (pointed_fault (length t) (place_node p) (place_word p) n d) on
      (sensed_at (eqb (place_node p).class 4) (pointer_at (place_node p) (place_word p) t) t d n on) d n (place_word p) t r table
      → Does (pointed_fault (length t) node at n d) on (sensed_at (eqb node.class 4) (pointer_at node at t) t d n on) d n at t r table
  unfolding earned value place
  senses_at p is r table w =
      by_place (λ held x. sensed_at held x t d n on) r table (sensed_anywhere on.top (ltb (16 * n) node.number) refl refl)
      (eqb node.class 9) (eqb node.class 4) apart
      (subst (AsPlace (λ held x. sensed_at held x t d n on) r table) is w)

-- ---- so that a block of its kind does as its rule says
module _ (one : Located) (on : Power) (t : List ℕ) (k : Kind) (p : Place) (placed : p ≡ place_at one.block.top one.top) (r : Worked) (table : List ℕ) where
  pub modify_does : k ≡ Mbit
      → Does (pointed_fault (length t) (place_node p) (place_word p) one.block.n one.middle) on
      (modified_at (eqb (place_node p).class 4) (pointer_at (place_node p) (place_word p) t) t one.middle one.block.n on)
      one.middle one.block.n (place_word p) t r table
      → DoesAs (kind_of (kind_number k)) one on t r table
  unfolding kind_of kind_fault seen_by effect_of
  modify_does is w =
      subst (λ (x : Kind). DoesAs (kind_of (kind_number x)) one on t r table) (sym is)
      (modifies_at one.block.top one.top one.middle one.block.n on t p placed r table w)

  pub sense_does : k ≡ Sens
      → Does (pointed_fault (length t) (place_node p) (place_word p) one.block.n one.middle) on
      (sensed_at (eqb (place_node p).class 4) (pointer_at (place_node p) (place_word p) t) t one.middle one.block.n on)
      one.middle one.block.n (place_word p) t r table
      → DoesAs (kind_of (kind_number k)) one on t r table
  unfolding kind_of kind_fault seen_by effect_of
  sense_does is w =
      subst (λ (x : Kind). DoesAs (kind_of (kind_number x)) one on t r table) (sym is)
      (senses_at one.block.top one.top one.middle one.block.n on t p placed r table w)
