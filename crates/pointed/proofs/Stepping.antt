-- The laws of a bit put or read at a pointer, and of the pointer's steps where they are asked for. Assumes nothing.
use mathlib.Core.Path.{◌≡◌, refl, sym, ap, ap₂, ◌∙◌, subst}
use mathlib.Core.Bool.{Bool, true, false, cond, ◌&&◌, ◌||◌}
use mathlib.Core.List.{List, []}
use mathlib.Core.Option.{Option, none, some}
use Prim.Native.Nat.{ℕ, ◌*◌, ◌≤◌, ◌<◌}
use native.Mathlib.Omega.{arith}
use borrow.Author.Tests.{lt-ltb, le-ltb}
use lib.Dec.{eqb, ltb}
use lib.ListN.{length}
use Rattle.bits.specs.Bit.{bit, longest}
use Rattle.pointer.specs.declared.Pointer.{Pointer}
use Rattle.runs.specs.Run.{run}
use Rattle.pointer.specs.Pointer.{reset, advanced, set_to, next_of}
use Rattle.pointer.proofs.Pointers.{size_right, reset_to}
use Rattle.std.specs.Prelude.{Result, Ok}
use Rattle.verdict.specs.declared.Refusal.{Refusal}
use Rattle.record.specs.declared.Node.{Node}
use Rattle.blocks.specs.declared.Power.{Power}
use Rattle.blocks.specs.declared.Outputs.{Outputs}
use Rattle.blocks.specs.View.{seen, pointer_at}
use Rattle.blocks.specs.Answer.{worked, Does}
use Rattle.blocks.specs.Effect.{Effect, effect, idle, into, increased, modify, sense}
use Rattle.blocks.specs.Effect.Change.{stays}
use Rattle.blocks.specs.Work.{matrix_put, change_put, one_word, shows}
use Rattle.pointed.specs.Call.{pointed_fault, modified_at, sensed_at}
use Rattle.pointed.specs.Inner.{put_at}
use Rattle.blocks.proofs.Doing.{Did, does, by_effect}
use Rattle.pointed.proofs.Refusing.{run_accepted, register_lies, pointed_accepted}
use Rattle.blocks.proofs.Places.{modify_worked}

-- what is asked of a pointer is asked of one that is held
pub and_held : (held a : Bool) {asked : Bool} → asked ≡ (held && a) → asked ≡ true → held ≡ true
and_held true a e h = refl
and_held false a e h = sym e ∙ h

pub or_held : (held a b : Bool) {one other asked : Bool} → one ≡ (held && a) → other ≡ (held && b) → asked ≡ (one || other) → asked ≡ true → held ≡ true
or_held true a b e f g h = refl
or_held false a b e f g h = sym (g ∙ ap₂ ◌||◌ e f) ∙ h

-- a pointer that is written where an increase is asked for is advanced
where_asked : (asked : Bool) (x y : ℕ) → cond asked (some (cond asked x y)) none ≡ cond asked (some x) none
where_asked true x y = refl
where_asked false x y = refl

-- ---- MBIT
module _ (held : Bool) (at : ℕ) (t : List ℕ) (d p n : ℕ) (on : Power) where
  modified : Bool → Bool → Effect
  modified power over = cond power (modify_worked held n (seen [] (run t d n) at) on over (eqb at 0)) (idle none)

  -- the middle output shows the middle input, 0 with power on top
  module _ {lit : Bool} (m : lit ≡ (on.top && on.middle)) where
    lit_by : {power : Bool} → on.top ≡ power → lit ≡ (power && on.middle)
    lit_by e = m ∙ ap (λ (a : Bool). a && on.middle) e

    pub modify_off : on.top ≡ false → Did on (modified_at held at t d n on) d n p t (shows on.top lit false 0) t
    unfolding modify modified matrix_put change_put
    modify_off e =
        by_effect on d n p t (shows on.top lit false 0) t (ap (λ (a : Bool). modified a (ltb (16 * n) at)) e) (record {
          answers = ap (λ (a : Bool). shows on.top a false 0) (lit_by e);
          leaves = refl;
        })

    pub modify_over : on.top ≡ true → 16 * n < at → Did on (modified_at held at t d n on) d n p t (shows on.top lit true 0) t
    unfolding modify modified matrix_put change_put
    modify_over e l =
        by_effect on d n p t (shows on.top lit true 0) t (ap₂ modified e (lt-ltb (16 * n) at l)) (record {
          answers = ap (λ (a : Bool). shows on.top a true 0) (lit_by e);
          leaves = refl;
        })

    pub modify_on : on.top ≡ true → at ≤ 16 * n → {asked : Bool} → asked ≡ (held && on.bottom) → {w : ℕ} → w ≡ next_of asked (into n at)
        → {there table : List ℕ} → there ≡ put_at t d n at on.middle → table ≡ matrix_put p (one_word (cond asked (some w) none)) there
        → Did on (modified_at held at t d n on) d n p t (shows on.top lit false 0) table
    unfolding modify modified
    modify_on e l {asked} r {w} q {there} {table} h k =
        by_effect on d n p t (shows on.top lit false 0) table (ap₂ modified e (le-ltb (16 * n) at l)) (record {
          answers = ap (λ (a : Bool). shows on.top a false 0) (lit_by e);
          leaves =
              k
              ∙ (λ i. matrix_put p (one_word (cond asked (some (q i)) none)) (h i))
              ∙ (λ i. matrix_put p (one_word (where_asked asked (advanced (into n at)).at at i)) (put_at t d n at on.middle))
              ∙ (λ i. matrix_put p (one_word (increased (r i) none (into n at))) (put_at t d n at on.middle));
        })

-- ---- SENS

-- a reset to 1 ends at 1 where there is a matrix
reset_to_one : (n at : ℕ) → 1 ≤ n → n ≤ longest → (reset (into n at) 1).at ≡ 1
reset_to_one n at l u =
    ap (λ (p : Pointer). p.at) (reset_to (into n at) (size_right (16 * n) (omega arith) (omega arith) (omega arith)) 1 (omega arith))

module _ (held : Bool) (at : ℕ) (t : List ℕ) (s p n : ℕ) (on : Power) where
  abbrev pub begun : Pointer
  begun = set_to 1 (held && on.bottom) (into n at)

  left : Option ℕ
  left = cond (held && on.bottom) (some begun.at) none

  sensed : Bool → Bool → Effect
  sensed power over =
      cond power
      (cond over (effect stays left false true) (effect stays (increased (held && on.middle) left begun) (bit (run t s n) begun.at) false))
      (idle left)

  pub sense_off : on.top ≡ false → {w : ℕ} → w ≡ begun.at → {asked : Bool} → asked ≡ (held && on.bottom)
      → {table : List ℕ} → table ≡ matrix_put p (one_word (cond asked (some w) none)) t → Did on (sensed_at held at t s n on) s n p t (shows on.top false false 0) table
  unfolding sense sensed left matrix_put change_put
  sense_off e {w} q {asked} r {table} k =
      by_effect on s n p t (shows on.top false false 0) table (ap (λ (a : Bool). sensed a (ltb (16 * n) begun.at)) e) (record {
        answers = refl;
        leaves = k ∙ (λ i. matrix_put p (one_word (cond (r i) (some (q i)) none)) t);
      })

  -- a pointer that was reset is in range
  not_reset : 1 ≤ n → n ≤ longest → 16 * n < begun.at → left ≡ none
  unfolding left
  not_reset l u = go (held && on.bottom)
    where
      go : (a : Bool) → 16 * n < (set_to 1 a (into n at)).at → cond a (some (set_to 1 a (into n at)).at) none ≡ none
      go false h = refl
      go true h = absurd (omega (arith, reset_to_one n at l u))

  pub sense_over : 1 ≤ n → n ≤ longest → on.top ≡ true → 16 * n < begun.at → Did on (sensed_at held at t s n on) s n p t (shows on.top false true 0) t
  unfolding sense sensed left matrix_put change_put
  sense_over low high e l =
      by_effect on s n p t (shows on.top false true 0) t
      (ap₂ sensed e (lt-ltb (16 * n) begun.at l) ∙ ap (λ (o : Option ℕ). effect stays o false true) (not_reset low high l))
      (record { answers = refl; leaves = refl })

  -- a pointer is written once where it is reset or increased
  either_way : (inc rs : Bool) (x y : ℕ) → cond (inc || rs) (some (cond inc x y)) none ≡ cond inc (some x) (cond rs (some y) none)
  either_way true rs x y = refl
  either_way false rs x y = refl

  pub sense_on : on.top ≡ true → begun.at ≤ 16 * n → {inc : Bool} → inc ≡ (held && on.middle) → {asked : Bool} → asked ≡ (inc || (held && on.bottom))
      → {w : ℕ} → w ≡ next_of inc begun → {table : List ℕ} → table ≡ matrix_put p (one_word (cond asked (some w) none)) t
      → {middle : Bool} → middle ≡ bit (run t s n) begun.at → Did on (sensed_at held at t s n on) s n p t (shows on.top middle false 0) table
  unfolding sense sensed left matrix_put change_put
  sense_on e l {inc} c {asked} r {w} q {table} k {middle} m =
      by_effect on s n p t (shows on.top middle false 0) table (ap₂ sensed e (le-ltb (16 * n) begun.at l)) (record {
        answers = ap (λ (a : Bool). shows on.top a false 0) m;
        leaves =
            k
            ∙ (λ i. matrix_put p (one_word (cond (r i) (some (q i)) none)) t)
            ∙ ap (λ (o : Option ℕ). matrix_put p (one_word o) t)
            (either_way inc (held && on.bottom) (advanced begun).at begun.at
            ∙ ap (λ (a : Bool). increased a left begun) c);
      })

-- ---- the calls
module _ (node : Node) (p d n : ℕ) (on : Power) (t : List ℕ) (none_refuses : 0 ≡ pointed_fault (length t) node p n d) where
  abbrev Modifies : Result Outputs Refusal → List ℕ → Type 0
  Modifies r table =
      Does (pointed_fault (length t) node p n d) on (modified_at (eqb node.class 4) (pointer_at node p t) t d n on) d n p t (worked r) table

  modified_so : (at : ℕ) → at ≡ pointer_at node p t → (out : Outputs) (table : List ℕ)
      → Did on (modified_at (eqb node.class 4) at t d n on) d n p t out table → Modifies (Ok out) table
  modified_so at read out table h =
      does (pointed_fault (length t) node p n d) on (modified_at (eqb node.class 4) (pointer_at node p t) t d n on) d n p t out table none_refuses
      (subst (λ (x : ℕ). Did on (modified_at (eqb node.class 4) x t d n on) d n p t out table) read h)

  pub modifies_off : on.top ≡ false → (out : Outputs) → out ≡ shows on.top false false 0 → Modifies (Ok out) t
  modifies_off off out shown =
      rw shown
      (modified_so (pointer_at node p t) refl (shows on.top false false 0) t
      (modify_off (eqb node.class 4) (pointer_at node p t) t d p n on (ap (λ (a : Bool). a && on.middle) (sym off)) off))

  module _ (at : ℕ) (read : at ≡ pointer_at node p t) (top : on.top ≡ true) where
    lit : on.middle ≡ (on.top && on.middle)
    lit = ap (λ (a : Bool). a && on.middle) (sym top)

    pub modifies_over : 16 * n < at → (out : Outputs) → out ≡ shows on.top on.middle true 0 → Modifies (Ok out) t
    modifies_over l out shown =
        rw shown
        (modified_so at read (shows on.top on.middle true 0) t (modify_over (eqb node.class 4) at t d p n on lit top l))

    pub modifies_on : at ≤ 16 * n → (asked : Bool) → asked ≡ (eqb node.class 4 && on.bottom) → (w : ℕ) → w ≡ next_of asked (into n at)
        → (there table : List ℕ) → there ≡ put_at t d n at on.middle → table ≡ matrix_put p (one_word (cond asked (some w) none)) there
        → (out : Outputs) → out ≡ shows on.top on.middle false 0 → Modifies (Ok out) table
    modifies_on l asked a w e there table put moved out shown =
        rw shown
        (modified_so at read (shows on.top on.middle false 0) table
        (modify_on (eqb node.class 4) at t d p n on lit top l a e put moved))

  abbrev Senses : Result Outputs Refusal → List ℕ → Type 0
  Senses r table =
      Does (pointed_fault (length t) node p n d) on (sensed_at (eqb node.class 4) (pointer_at node p t) t d n on) d n p t (worked r) table

  module _ (at : ℕ) (read : at ≡ pointer_at node p t) (reset_asked : Bool) (asks : reset_asked ≡ (eqb node.class 4 && on.bottom)) (pointer : Pointer)
      (reset_to : pointer ≡ set_to 1 reset_asked (into n at)) where
    sensed_so : (out : Outputs) (table : List ℕ) → Did on (sensed_at (eqb node.class 4) at t d n on) d n p t out table → Senses (Ok out) table
    sensed_so out table h =
        does (pointed_fault (length t) node p n d) on (sensed_at (eqb node.class 4) (pointer_at node p t) t d n on) d n p t out table none_refuses
        (subst (λ (x : ℕ). Did on (sensed_at (eqb node.class 4) x t d n on) d n p t out table) read h)

    begins_so : pointer ≡ begun (eqb node.class 4) at t d p n on
    begins_so = reset_to ∙ ap (λ (a : Bool). set_to 1 a (into n at)) asks

    pub senses_off : on.top ≡ false → (table : List ℕ) → table ≡ matrix_put p (one_word (cond reset_asked (some pointer.at) none)) t
        → (out : Outputs) → out ≡ shows on.top false false 0 → Senses (Ok out) table
    senses_off off table put out shown =
        rw shown
        (sensed_so (shows on.top false false 0) table
        (sense_off (eqb node.class 4) at t d p n on off (ap (λ (q : Pointer). q.at) begins_so) asks put))

    pub senses_over : on.top ≡ true → 16 * n < pointer.at → (out : Outputs) → out ≡ shows on.top false true 0 → Senses (Ok out) t
    senses_over top l out shown =
        let h = run_accepted (length t) node p n d (sym none_refuses) in
        rw shown
        (sensed_so (shows on.top false true 0) t
        (sense_over (eqb node.class 4) at t d p n on h.some_words h.few top (subst (λ (q : Pointer). 16 * n < q.at) begins_so l)))

    pub senses_on : on.top ≡ true → pointer.at ≤ 16 * n → (increase : Bool) → increase ≡ (eqb node.class 4 && on.middle)
        → (asked : Bool) → asked ≡ (increase || reset_asked) → (w : ℕ) → w ≡ next_of increase pointer
        → (table : List ℕ) → table ≡ matrix_put p (one_word (cond asked (some w) none)) t
        → (middle : Bool) → middle ≡ bit (run t d n) pointer.at
        → (out : Outputs) → out ≡ shows on.top middle false 0 → Senses (Ok out) table
    senses_on top l increase c asked a w e table put middle sees out shown =
        rw shown
        (sensed_so (shows on.top middle false 0) table
        (sense_on (eqb node.class 4) at t d p n on top (subst (λ (q : Pointer). q.at ≤ 16 * n) begins_so l) c
        (a ∙ ap (λ (b : Bool). increase || b) asks)
        (e ∙ ap (next_of increase) begins_so)
        put
        (sees ∙ ap (λ (q : Pointer). bit (run t d n) q.at) begins_so)))

  -- a pointer whose step is taken is held, and its register lies in the table
  pub asked_held : (a asked : Bool) → asked ≡ (eqb node.class 4 && a) → asked ≡ true → eqb node.class 4 ≡ true
  asked_held a asked e h = and_held (eqb node.class 4) a e h

  pub either_held : (a b one other asked : Bool) → one ≡ (eqb node.class 4 && a) → other ≡ (eqb node.class 4 && b) → asked ≡ (one || other)
      → asked ≡ true → eqb node.class 4 ≡ true
  either_held a b one other asked e f g h = or_held (eqb node.class 4) a b e f g h

  pub asked_lies : (a asked : Bool) → asked ≡ (eqb node.class 4 && a) → asked ≡ true → p < length t
  asked_lies a asked e h = register_lies (length t) node p n d (sym none_refuses) (and_held (eqb node.class 4) a e h)

  pub either_lies : (a b one other asked : Bool) → one ≡ (eqb node.class 4 && a) → other ≡ (eqb node.class 4 && b) → asked ≡ (one || other)
      → asked ≡ true → p < length t
  either_lies a b one other asked e f g h = register_lies (length t) node p n d (sym none_refuses) (or_held (eqb node.class 4) a b e f g h)

pub ruleset modifying = (pointed_accepted, asked_held, asked_lies)

pub ruleset sensing = (pointed_accepted, asked_held, asked_lies, either_held, either_lies)
