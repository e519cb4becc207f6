-- The laws of one bit that is put, and of one word that is stored. Assumes nothing.
use mathlib.Core.Path.{◌≡◌, refl, sym, ap, ◌∙◌}
use mathlib.Core.Bool.{Bool, cond}
use mathlib.Core.List.{List, [], ◌∷◌}
use mathlib.Core.Option.{some}
use Prim.Native.Nat.{ℕ, ◌+◌, ◌*◌, ◌≤◌, ◌<◌}
use native.Mathlib.Omega.{arith}
use borrow.Author.Tests.{eq-eqb, ne_eqb}
use lib.ListN.{length, set}
use Rattle.bits.specs.Bit.{longest}
use Rattle.runs.specs.Run.{run, placed, fault_at, Accepted}
use Rattle.matrix.specs.Single.{bit_put, put_table}
use Rattle.runs.proofs.Refusals.{unless_done, fault_at_none}
use Rattle.matrix.proofs.Runs.{run_length}
use Rattle.matrix.proofs.Singles.{placed_set}
use Rattle.blocks.specs.Effect.Change.{stays, puts}
use Rattle.blocks.specs.Work.{matrix_put, change_put, one_word}
use Rattle.pointed.specs.Inner.{put_at}

-- ---- one bit put
module _ (t : List ℕ) (d n p : ℕ) (on : Bool) where
  pub none_put : p ≡ 0 → t ≡ put_at t d n p on
  unfolding change_put
  none_put e = ap (λ (a : Bool). change_put d n (cond a stays (puts p on)) t) (sym (eq-eqb p 0 e))

  pub one_put : (p ≡ 0 → ⊥) → Accepted longest (length t) n d d → p ≤ 16 * n → put_table t d n p on ≡ put_at t d n p on
  unfolding change_put put_table
  one_put e h l =
      unless_done (fault_at (length t) n d p) (bit_put t d n p on) t
      (fault_at_none (length t) n d p (record { run_accepted = h; counted = omega arith; within = l }))
      ∙ ap (λ (a : Bool). change_put d n (cond a stays (puts p on)) t) (sym (ne_eqb p 0 e))

-- ---- the pointer: a word stored is a matrix of one word put
alone : (m : List ℕ) (w : ℕ) → length m ≡ 1 → set m 0 w ≡ w ∷ []
alone [] w e = absurd (omega arith)
alone (x ∷ []) w e = refl
alone (x ∷ y ∷ m) w e = absurd (omega arith)

pub word_put : (t : List ℕ) (p w : ℕ) → p < length t → set t p w ≡ matrix_put p (one_word (some w)) t
unfolding matrix_put
word_put t p w h = placed_word
  where
    start : p + 0 ≡ p
    start = omega arith

    one : set (run t p 1) 0 w ≡ w ∷ []
    one = alone (run t p 1) w (run_length t p 1 (omega arith))

    placed_word : set t p w ≡ placed t p (w ∷ [])
    placed_word = ap (λ (k : ℕ). set t k w) (sym start) ∙ placed_set t p 1 0 w (omega arith) (omega arith) ∙ ap (placed t p) one
