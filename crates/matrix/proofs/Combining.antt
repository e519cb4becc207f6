-- The laws of an operation on two matrices: the destination rewritten by the operation's merge is the matrix that is placed.
use mathlib.Core.Path.{◌≡◌, sym, ap₂, ◌∙◌}
use mathlib.Core.Bool.{Bool}
use mathlib.Core.List.{List}
use Prim.Native.Nat.{ℕ, ◌+◌, ◌-◌, ◌*◌, ◌≤◌, ◌<◌}
use native.Mathlib.Omega.{arith}
use lib.ListN.{length}
use Rattle.bits.specs.Bit.{bit, word_with, longest_whole}
use Rattle.bits.proofs.Digits.{value_cong}
use Rattle.runs.specs.Run.{run, fault}
use Rattle.runs.proofs.Refusals.{accepted, stays, unless_done}
use Rattle.matrix.specs.declared.logic.Operation.{Operation}
use Rattle.matrix.specs.Logic.{combined, combine_table}
use Rattle.matrix.specs.Inner.{combined_word, merged_at, Rewritten}
use Rattle.matrix.proofs.Runs.{run_bit}
use Rattle.matrix.proofs.Rewriting.{restated, same, placing}

-- the destination's bits afterwards
abbrev after : Operation → List ℕ → ℕ → ℕ → ℕ → ℕ → Bool
after operation t s d n p = combined operation (bit (run t s n) p) (bit (run t d n) p)

-- the merge on the words is the operation on the bits
on_bits : (operation : Operation) (t : List ℕ) (s d n k : ℕ) → d ≤ k → k < d + n
    → merged_at (combined_word operation) t s d d k ≡ word_with (λ p. after operation t s d n ((k - d) * 16 + p))
on_bits operation t s d n k l u =
    value_cong 16 _ (λ p. after operation t s d n ((k - d) * 16 + p))
    (λ j m. ap₂ (combined operation) (sym (run_bit t s n (k - d) j (omega arith) m)) (sym (run_bit t d n (k - d) j (omega arith) m)))

pub combines : (operation : Operation) (t : List ℕ) (s d n : ℕ) (table : List ℕ) → 0 ≡ fault longest_whole (length t) n s d
    → Rewritten t (merged_at (combined_word operation) t s d d) d (d + n) table → table ≡ combine_table operation t s d n
unfolding combine_table
combines operation t s d n table none r =
    let h = accepted longest_whole (length t) n s d (sym none) in
    same (restated r (on_bits operation t s d n)) (placing t d n (after operation t s d n) h.second) ∙ sym (unless_done _ _ _ (sym none))

pub ruleset combining = (accepted, stays, combines)
