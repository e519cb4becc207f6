-- A kind's rule goes by the bits of what the block reads, at positions 1 to 16n, and by its pointer: views that have these in common give the
-- same effect. Assumes nothing.
use mathlib.Core.Path.{◌≡◌, refl, sym, ap, ap₂, ◌∙◌}
use mathlib.Core.Bool.{Bool, true, false, cond, xor, ◌&&◌}
use mathlib.Core.List.{List}
use mathlib.Core.Option.{Option, none, some}
use Prim.Native.Nat.{ℕ, zero, suc, ◌+◌, ◌-◌, ◌*◌, ◌≤◌, ◌<◌}
use native.Mathlib.Omega.{arith}
use borrow.Author.Tests.{ltb-false, eqb-false}
use lib.Dec.{eqb, ltb}
use Rattle.bits.specs.Bit.{bit, matrix}
use Rattle.bits.proofs.Digits.{value_cong}
use Rattle.bits.proofs.Matrix.{matrix_at, matrix_length, matrix_by_words}
use Rattle.matrix.specs.declared.logic.Operation.{Operation}
use Rattle.matrix.specs.declared.logic.Operation.TheVariants.{And, Or, Xor, Comp}
use Rattle.matrix.specs.Logic.{combined}
use Rattle.matrix.specs.Move.{leaving, entering, moved}
use Rattle.search.specs.Search.{differing, first}
use Rattle.pointer.specs.declared.Pointer.{Pointer}
use Rattle.pointer.specs.Pointer.{reset, in_range}
use Rattle.runs.specs.Run.{run}
use Rattle.record.specs.declared.Block.{Block}
use Rattle.network.specs.Network.{Network}
use Rattle.blocks.specs.declared.Power.{Power}
use Rattle.blocks.specs.Kind.{Kind, kind_of}
use Rattle.blocks.specs.Kind.Kind.{AND, OR, XOR, COMP, CMPR, MBIT, SENS, BROT}
use Rattle.blocks.specs.View.{View, seen, view}
use Rattle.blocks.specs.Effect.{Effect, effect, idle, into, increased, reaching, logic, found, compare, rotate, modify, sense, effect_of}
use Rattle.blocks.specs.Effect.Change.{stays, becomes}
use Rattle.blocks.specs.Work.{pointer_node, effect_on}
use Rattle.blocks.specs.Truths.{SameFrom, source_at, destination_at, pointer_seen, Agree}
use Rattle.blocks.proofs.Puts.{run_bits}

-- a matrix goes by its bits
matrix_same : (n : ℕ) (f g : ℕ → Bool) → ((p : ℕ) → 1 ≤ p → p ≤ 16 * n → f p ≡ g p) → matrix n f ≡ matrix n g
matrix_same n f g h =
    matrix_by_words (matrix n f) n g (matrix_length n f)
    (λ k l. matrix_at n f k l ∙ value_cong 16 (λ p. f (k * 16 + p)) (λ p. g (k * 16 + p)) (λ i m. h (k * 16 + suc i) (omega arith) (omega arith)))

-- ---- views that have the bits of n words and the pointer in common
pub record SameView (n : ℕ) (v w : View) : Type 0 where
  pub source : (p : ℕ) → 1 ≤ p → p ≤ 16 * n → bit v.source p ≡ bit w.source p
  pub destination : (p : ℕ) → 1 ≤ p → p ≤ 16 * n → bit v.destination p ≡ bit w.destination p
  pub pointer : v.pointer ≡ w.pointer

module _ (n : ℕ) (v w : View) (same : SameView n v w) (on : Power) where
  logic_same : (operation : Operation) → logic operation n v on ≡ logic operation n w on
  unfolding logic
  logic_same operation =
      ap (λ (m : List ℕ). cond on.top (effect (becomes m) none false false) (idle none))
      (matrix_same n (λ p. combined operation (bit v.source p) (bit v.destination p)) (λ p. combined operation (bit w.source p) (bit w.destination p))
      (λ p l u. ap₂ (combined operation) (same.source p l u) (same.destination p l u)))

  -- ---- BROT
  leaves_same : 1 ≤ n → (left : Bool) → leaving left v.source n ≡ leaving left w.source n
  leaves_same l true = same.source 1 (omega arith) (omega arith)
  leaves_same l false = same.source (16 * n) (omega arith) (omega arith)

  moves_same : 1 ≤ n → (left wrap : Bool) (p : ℕ) → 1 ≤ p → p ≤ 16 * n → moved left wrap v.source n p ≡ moved left wrap w.source n p
  unfolding moved
  moves_same l true wrap p low high = go (eqb p (16 * n)) refl
    where
      go : (a : Bool) → eqb p (16 * n) ≡ a
          → cond a (entering true wrap v.source n) (bit v.source (p + 1)) ≡ cond a (entering true wrap w.source n) (bit w.source (p + 1))
      go true e = ap (λ (x : Bool). wrap && x) (leaves_same l true)
      go false e = same.source (p + 1) (omega arith) (omega (arith, eqb-false p (16 * n) e))
  moves_same l false wrap p low high = go (eqb p 1) refl
    where
      go : (a : Bool) → eqb p 1 ≡ a
          → cond a (entering false wrap v.source n) (bit v.source (p - 1)) ≡ cond a (entering false wrap w.source n) (bit w.source (p - 1))
      go true e = ap (λ (x : Bool). wrap && x) (leaves_same l false)
      go false e = same.source (p - 1) (omega (arith, eqb-false p 1 e)) (omega arith)

  rotate_same : 1 ≤ n → rotate n v on ≡ rotate n w on
  unfolding rotate
  rotate_same l =
      ap₂ (λ (m : List ℕ) (x : Bool). cond on.top (effect (becomes m) none x false) (idle none))
      (matrix_same n (moved on.middle on.bottom v.source n) (moved on.middle on.bottom w.source n) (moves_same l on.middle on.bottom))
      (leaves_same l on.middle)

  -- ---- CMPR
  found_same : (from k i : ℕ) → ((p : ℕ) → i < p → p ≤ i + k → p ≤ 16 * n)
      → found n v from (first (differing v.source v.destination) i k) ≡ found n w from (first (differing w.source w.destination) i k)
  unfolding found first
  found_same from zero i h = refl
  found_same from (suc k) i h =
      let inside : suc i ≤ 16 * n = h (suc i) (omega arith) (omega arith) in
      next inside (differing v.source v.destination (suc i)) _ _ (found_same from k (suc i) (λ p l u. h p (omega arith) (omega arith)))
      ∙ ap (λ (a : Bool). found n w from (cond a (some (suc i)) (first (differing w.source w.destination) (suc i) k)))
      (ap₂ xor (same.source (suc i) (omega arith) inside) (same.destination (suc i) (omega arith) inside))
    where
      next : suc i ≤ 16 * n → (a : Bool) (r s : Option ℕ) → found n v from r ≡ found n w from s → found n v from (cond a (some (suc i)) r) ≡ found n w from (cond a (some (suc i)) s)
      next l true r s e = ap (reaching from (suc i) true) (same.source (suc i) (omega arith) l)
      next l false r s e = e

  compare_same : compare n v on ≡ compare n w on
  unfolding compare
  compare_same =
      ap (λ (x : ℕ). cond on.top (found n v (begins x) (sought v (begins x))) (idle (cond on.middle (some (zero_first x).at) none))) same.pointer
      ∙ ap (λ (e : Effect). cond on.top e (idle (cond on.middle (some (zero_first w.pointer).at) none)))
      (found_same (begins w.pointer) (16 * n - begins w.pointer) (begins w.pointer) (λ p l u. omega arith))
    where
      zero_first : ℕ → Pointer
      zero_first x = cond on.middle (reset (into n x) 0) (into n x)

      begins : ℕ → ℕ
      begins x = (in_range (zero_first x)).at

      sought : View → ℕ → Option ℕ
      sought z i = first (differing z.source z.destination) i (16 * n - i)

  -- ---- MBIT and SENS
  modify_same : (held : Bool) → modify held n v on ≡ modify held n w on
  unfolding modify
  modify_same held = ap (λ (x : ℕ). modify held n (seen v.source v.destination x) on) same.pointer

  at_most : (p : ℕ) → p ≤ 16 * n → bit v.source p ≡ bit w.source p
  unfolding bit
  at_most zero u = refl
  at_most (suc i) u = same.source (suc i) (omega arith) u

  sense_same : (held : Bool) → sense held n v on ≡ sense held n w on
  unfolding sense
  sense_same held =
      ap (λ (x : ℕ). shape x (bit v.source (begins x).at)) same.pointer ∙ go (ltb (16 * n) (begins w.pointer).at) refl
    where
      begins : ℕ → Pointer
      begins x = cond (held && on.bottom) (reset (into n x) 1) (into n x)

      left : ℕ → Option ℕ
      left x = cond (held && on.bottom) (some (begins x).at) none

      chosen : ℕ → Bool → Bool → Effect
      chosen x over shown =
          cond on.top
          (cond over (effect stays (left x) false true) (effect stays (increased (held && on.middle) (left x) (begins x)) shown false))
          (idle (left x))

      shape : ℕ → Bool → Effect
      shape x shown = chosen x (ltb (16 * n) (begins x).at) shown

      go : (over : Bool) → ltb (16 * n) (begins w.pointer).at ≡ over
          → chosen w.pointer over (bit v.source (begins w.pointer).at) ≡ chosen w.pointer over (bit w.source (begins w.pointer).at)
      go true e = refl
      go false e = ap (chosen w.pointer false) (at_most (begins w.pointer).at (ltb-false (16 * n) (begins w.pointer).at e))

  pub by_view : (kind : Kind) (held : Bool) → 1 ≤ n → effect_of kind held n v on ≡ effect_of kind held n w on
  unfolding effect_of
  by_view AND held l = logic_same And
  by_view OR held l = logic_same Or
  by_view XOR held l = logic_same Xor
  by_view COMP held l = logic_same Comp
  by_view CMPR held l = compare_same
  by_view MBIT held l = modify_same held
  by_view SENS held l = sense_same held
  by_view BROT held l = rotate_same l

-- ---- two tables that agree on what a block reads give it the same view

-- a pointer, or 0 where there is none
abbrev or_0 : Option ℕ → ℕ
or_0 none = 0
or_0 (some x) = x

module _ (net : Network) (b : Block) (t u : List ℕ) where
  run_same : (s : ℕ) → SameFrom (some s) b.n t u → (p : ℕ) → 1 ≤ p → p ≤ 16 * b.n → bit (run t s b.n) p ≡ bit (run u s b.n) p
  run_same s h p l m = run_bits t s b.n p l m ∙ h (16 * s + p) (omega arith) (omega arith) ∙ sym (run_bits u s b.n p l m)

  -- the bits that are seen are the source's and the destination's
  sources : (kind : Kind) → SameFrom (source_at kind net b) b.n t u
      → (p : ℕ) → 1 ≤ p → p ≤ 16 * b.n → bit (view kind net b t).source p ≡ bit (view kind net b u).source p
  unfolding view
  sources AND f = run_same _ f
  sources OR f = run_same _ f
  sources XOR f = run_same _ f
  sources COMP f = run_same _ f
  sources CMPR f = run_same _ f
  sources MBIT f = λ p l m. refl
  sources SENS f = run_same _ f
  sources BROT f = run_same _ f

  destinations : (kind : Kind) → SameFrom (destination_at kind net b) b.n t u
      → (p : ℕ) → 1 ≤ p → p ≤ 16 * b.n → bit (view kind net b t).destination p ≡ bit (view kind net b u).destination p
  unfolding view
  destinations AND f = run_same _ f
  destinations OR f = run_same _ f
  destinations XOR f = run_same _ f
  destinations COMP f = λ p l m. refl
  destinations CMPR f = run_same _ f
  destinations MBIT f = run_same _ f
  destinations SENS f = λ p l m. refl
  destinations BROT f = λ p l m. refl

  -- the pointer that is seen is the block's
  pointer_is : (kind : Kind) (t : List ℕ) → (view kind net b t).pointer ≡ or_0 (pointer_seen kind net b t)
  unfolding view
  pointer_is AND t = refl
  pointer_is OR t = refl
  pointer_is XOR t = refl
  pointer_is COMP t = refl
  pointer_is CMPR t = refl
  pointer_is MBIT t = refl
  pointer_is SENS t = refl
  pointer_is BROT t = refl

  sees_same : (kind : Kind) → SameFrom (source_at kind net b) b.n t u → SameFrom (destination_at kind net b) b.n t u
      → pointer_seen kind net b t ≡ pointer_seen kind net b u → SameView b.n (view kind net b t) (view kind net b u)
  sees_same kind f g h =
      record { source = sources kind f; destination = destinations kind g; pointer = pointer_is kind t ∙ ap or_0 h ∙ sym (pointer_is kind u) }

  pub effect_same : 1 ≤ b.n → Agree net b t u → (on : Power) → effect_on net b t on ≡ effect_on net b u on
  effect_same l a on =
      by_view b.n (view (kind_of b.kind) net b t) (view (kind_of b.kind) net b u)
      (sees_same (kind_of b.kind) a.on_source a.on_destination a.on_pointer) on
      (kind_of b.kind) (eqb (pointer_node (kind_of b.kind) b).class 4) l
