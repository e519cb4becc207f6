-- The laws of AND, OR, XOR, COMP and BROT: where a block earns no refusal, what a call of `matrix` leaves is what the rule writes. Assumes nothing.
use mathlib.Core.Path.{◌≡◌, refl, sym, ap, ◌∙◌}
use mathlib.Core.Bool.{Bool, true, false, cond}
use mathlib.Core.List.{List}
use mathlib.Core.Option.{none}
use Prim.Native.Nat.{ℕ}
use lib.ListN.{length}
use Rattle.bits.specs.Bit.{bit, matrix, longest_whole}
use Rattle.std.specs.Prelude.{Result, Ok, Err}
use Rattle.verdict.specs.declared.Refusal.{Refusal}
use Rattle.verdict.specs.Verdict.{Said, placeless, numbered, said_by}
use Rattle.verdict.proofs.Said.{value_is}
use Rattle.matrix.specs.declared.logic.Operation.{Operation}
use Rattle.runs.specs.Run.{run, fault}
use Rattle.matrix.specs.Logic.{combined, combine_verdict, combine_table}
use Rattle.matrix.specs.Move.{leaving, moved, move_said, move_table}
use Rattle.runs.proofs.Refusals.{unless_done}
use Rattle.blocks.specs.declared.Power.{Power}
use Rattle.blocks.specs.declared.Outputs.{Outputs}
use Rattle.blocks.specs.Effect.{effect, idle, logic, rotate}
use Rattle.blocks.specs.Effect.Change.{becomes}
use Rattle.blocks.specs.Work.{matrix_put, change_put, shows}
use Rattle.blocks.specs.Answer.{worked, Does}
use Rattle.blocks.proofs.Doing.{Did, does, refuses_too, by_effect, idle_does}
use Rattle.kinds.specs.Inner.{combined_at, rotated_at}

-- ---- AND, OR, XOR, COMP
module _ (operation : Operation) (t : List ℕ) (s d n : ℕ) (on : Power) where
  pub logic_off : on.top ≡ false → Did on (combined_at operation t s d n on) d n s t (shows on.top false false 0) t
  unfolding logic
  logic_off e =
      by_effect on d n s t (shows on.top false false 0) t
      (ap (λ (a : Bool). cond a (effect (becomes (matrix n (λ p. combined operation (bit (run t s n) p) (bit (run t d n) p)))) none false false) (idle none)) e)
      (idle_does on d n s t)

  logic_on : on.top ≡ true → 0 ≡ fault longest_whole (length t) n s d → (table : List ℕ) → table ≡ combine_table operation t s d n
      → Did on (combined_at operation t s d n on) d n s t (shows on.top false false 0) table
  unfolding logic matrix_put change_put combine_table
  logic_on e taken table l =
      by_effect on d n s t (shows on.top false false 0) table
      (ap (λ (a : Bool). cond a (effect (becomes (matrix n (λ p. combined operation (bit (run t s n) p) (bit (run t d n) p)))) none false false) (idle none)) e)
      (record {
        answers = refl;
        leaves = l ∙ unless_done (fault longest_whole (length t) n s d) _ t (sym taken);
      })

  -- the call: what it answers and leaves is what it promises
  abbrev Combines : Result Outputs Refusal → List ℕ → Type 0
  Combines r table =
      Does (fault longest_whole (length t) n s d) on (combined_at operation t s d n on) d n s t (worked r) table

  done_as : (out : Outputs) (table : List ℕ) → 0 ≡ fault longest_whole (length t) n s d → out ≡ shows on.top false false 0
      → Did on (combined_at operation t s d n on) d n s t (shows on.top false false 0) table → Combines (Ok out) table
  done_as out table taken shown h =
      rw shown (does (fault longest_whole (length t) n s d) on (combined_at operation t s d n on) d n s t (shows on.top false false 0) table taken h)

  pub combines_off : on.top ≡ false → 0 ≡ fault longest_whole (length t) n s d → (out : Outputs) → out ≡ shows on.top false false 0 → Combines (Ok out) t
  combines_off e taken out shown = done_as out t taken shown (logic_off e)

  pub combines_on : on.top ≡ true → {x : Unit {0}} → numbered (Ok x) ≡ said_by (combine_verdict (length t) s d n) tt
      → (table : List ℕ) → table ≡ combine_table operation t s d n → (out : Outputs) → out ≡ shows on.top false false 0 → Combines (Ok out) table
  combines_on e said table l out shown =
      let taken : 0 ≡ fault longest_whole (length t) n s d = ap (λ (q : Said (Unit {0})). q.verdict.number) said in
      done_as out table taken shown (logic_on e taken table l)

  pub combines_refused : (x : Result Outputs Refusal) (r : Refusal) → x ≡ Err r → numbered {A = Unit {0}} (Err r) ≡ said_by (combine_verdict (length t) s d n) tt
      → (table : List ℕ) → table ≡ combine_table operation t s d n → Combines x table
  unfolding combine_table
  combines_refused x r is said table l =
      rw is (refuses_too (fault longest_whole (length t) n s d) on (combined_at operation t s d n on) d n s t r tt _ table said l)

-- ---- BROT
module _ (t : List ℕ) (s d n : ℕ) (on : Power) where
  pub rotate_off : on.top ≡ false → Did on (rotated_at t s n on) d n s t (shows on.top false false 0) t
  unfolding rotate
  rotate_off e =
      by_effect on d n s t (shows on.top false false 0) t
      (ap (λ (a : Bool). cond a (effect (becomes (matrix n (moved on.middle on.bottom (run t s n) n))) none (leaving on.middle (run t s n) n) false) (idle none)) e)
      (idle_does on d n s t)

  rotate_on : on.top ≡ true → 0 ≡ fault longest_whole (length t) n s d → (table : List ℕ) → table ≡ move_table on.middle on.bottom t s d n
      → Did on (rotated_at t s n on) d n s t (shows on.top (leaving on.middle (run t s n) n) false 0) table
  unfolding rotate matrix_put change_put move_table
  rotate_on e taken table l =
      by_effect on d n s t (shows on.top (leaving on.middle (run t s n) n) false 0) table
      (ap (λ (a : Bool). cond a (effect (becomes (matrix n (moved on.middle on.bottom (run t s n) n))) none (leaving on.middle (run t s n) n) false) (idle none)) e)
      (record {
        answers = refl;
        leaves = l ∙ unless_done (fault longest_whole (length t) n s d) _ t (sym taken);
      })

  abbrev Rotates : Result Outputs Refusal → List ℕ → Type 0
  Rotates r table = Does (fault longest_whole (length t) n s d) on (rotated_at t s n on) d n s t (worked r) table

  pub rotates_off : on.top ≡ false → 0 ≡ fault longest_whole (length t) n s d → (out : Outputs) → out ≡ shows on.top false false 0 → Rotates (Ok out) t
  rotates_off e taken out shown =
      rw shown (does (fault longest_whole (length t) n s d) on (rotated_at t s n on) d n s t (shows on.top false false 0) t taken (rotate_off e))

  pub rotates_on : on.top ≡ true → (left : Bool) → numbered (Ok left) ≡ move_said on.middle t s d n
      → (table : List ℕ) → table ≡ move_table on.middle on.bottom t s d n → (out : Outputs) → out ≡ shows on.top left false 0 → Rotates (Ok out) table
  rotates_on e left said table l out shown =
      let taken : 0 ≡ fault longest_whole (length t) n s d = ap (λ (q : Said Bool). q.verdict.number) said in
      let which : left ≡ leaving on.middle (run t s n) n =
      value_is left (placeless (fault longest_whole (length t) n s d)) (leaving on.middle (run t s n) n) said in
      rw (shown, which)
      (does (fault longest_whole (length t) n s d) on (rotated_at t s n on) d n s t (shows on.top (leaving on.middle (run t s n) n) false 0) table taken
      (rotate_on e taken table l))

  pub rotates_refused : (x : Result Outputs Refusal) (r : Refusal) → x ≡ Err r → numbered {A = Bool} (Err r) ≡ move_said on.middle t s d n
      → (table : List ℕ) → table ≡ move_table on.middle on.bottom t s d n → Rotates x table
  unfolding move_table
  rotates_refused x r is said table l =
      rw is (refuses_too (fault longest_whole (length t) n s d) on (rotated_at t s n on) d n s t r (leaving on.middle (run t s n) n) _ table said l)
