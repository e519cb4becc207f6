-- The laws of a call that moves: the pairs of neighbours rewritten and the word at the end that a bit enters make the moved matrix that is
-- placed, and the bit that left is that of the end.
use mathlib.Core.Path.{◌≡◌, refl, sym, ap, ap₂, ◌∙◌}
use mathlib.Core.Bool.{Bool, true, false, cond}
use mathlib.Core.List.{List}
use Prim.Native.Nat.{ℕ, ◌+◌, ◌-◌, ◌*◌, ◌≤◌, ◌<◌}
use native.Mathlib.Omega.{arith}
use lib.ListN.{length, get_or, set}
use Rattle.std.specs.Prelude.{Some}
use Rattle.bits.specs.Bit.{of, word_with, matrix, longest_whole}
use Rattle.bits.specs.Word.{leftward, rightward}
use Rattle.runs.specs.Run.{run, placed, fault, Accepted}
use Rattle.runs.proofs.Refusals.{accepted, stays, unless_done}
use Rattle.verdict.specs.Verdict.{Said, done, said_by, placeless}
use Rattle.matrix.specs.Move.{moved, leaving, move_said, move_table}
use Rattle.matrix.specs.Inner.{merged_at, Rewritten}
use Rattle.matrix.proofs.Runs.{run_at}
use Rattle.matrix.proofs.Rewriting.{stored, restated, until, same, then_after, then_before, placing}
use Rattle.matrix.proofs.Moving.{after_inside, after_last, left_word, before_first, before_next, right_word, left_over}

module _ (t : List ℕ) (s d n : ℕ) (wrap : Bool) (h : Accepted longest_whole (length t) n s d) where
  -- word k of the destination afterwards
  abbrev after : Bool → ℕ → ℕ
  after left k = word_with (λ p. moved left wrap (run t s n) n ((k - d) * 16 + p))

  -- word i of the source
  source : (i j : ℕ) → i < n → j ≡ s + i → get_or t j 0 ≡ get_or (run t s n) i 0
  source i j l e = ap (λ (k : ℕ). get_or t k 0) e ∙ sym (run_at t s n i l)

  -- ---- to the left
  neighbours_left : (k : ℕ) → d ≤ k → k < d + (n - 1) → merged_at (λ x y. word_with (leftward x y)) t s (s + 1) d k ≡ after true k
  neighbours_left k l u =
      ap₂ (λ (x y : ℕ). word_with (leftward x y)) (source (k - d) _ (omega arith) refl) (source (k - d + 1) _ (omega arith) (omega arith))
      ∙ left_word (run t s n) n wrap (k - d) _ (omega arith) (after_inside (run t s n) n wrap (k - d) (omega arith))

  last_left : (k : ℕ) → k ≡ d + (n - 1) → word_with (leftward (get_or t (s + (n - 1)) 0) (cond wrap (get_or t s 0) 0)) ≡ after true k
  last_left k e =
      ap₂ (λ (x y : ℕ). word_with (leftward x (cond wrap y 0))) (source (k - d) _ (omega (arith, h.some_words)) (omega arith)) (source 0 _ h.some_words (omega arith))
      ∙ left_word (run t s n) n wrap (k - d) _ (omega (arith, h.some_words)) (after_last (run t s n) n wrap (k - d) (omega (arith, h.some_words)))

  to_the_left : {table : List ℕ} (v enters : ℕ) → Rewritten t (merged_at (λ x y. word_with (leftward x y)) t s (s + 1) d) d (d + (n - 1)) table
      → v ≡ word_with (leftward (get_or t (s + (n - 1)) 0) enters) → enters ≡ cond wrap (get_or t s 0) 0
      → set table (d + (n - 1)) v ≡ placed t d (matrix n (moved true wrap (run t s n) n))
  to_the_left {table} v enters r e b =
      same
      (until (omega (arith, h.some_words))
      (then_after (restated r neighbours_left) (omega arith)
      (restated (stored table (d + (n - 1)) v (omega (arith, h.some_words, h.second, r.long))) (λ k l u. e ∙ ap (λ (x : ℕ). word_with (leftward (get_or t (s + (n - 1)) 0) x)) b ∙ last_left k (omega arith)))
      (omega arith)))
      (placing t d n (moved true wrap (run t s n) n) h.second)

  -- ---- to the right
  neighbours_right : (k : ℕ) → d + 1 ≤ k → k < d + 1 + (n - 1) → merged_at (λ x y. word_with (rightward x y)) t s (s + 1) (d + 1) k ≡ after false k
  neighbours_right k l u =
      let i : ℕ = k - (d + 1) in
      let at : i + 1 ≡ k - d = omega arith in
      ap₂ (λ (x y : ℕ). word_with (rightward x y)) (source i _ (omega arith) refl) (source (i + 1) _ (omega arith) (omega arith))
      ∙ right_word (run t s n) n wrap (i + 1) _ (before_next (run t s n) n wrap i)
      ∙ ap (λ (j : ℕ). word_with (λ p. moved false wrap (run t s n) n (j * 16 + p))) at

  first_right : (k : ℕ) → k ≡ d → word_with (rightward (cond wrap (get_or t (s + (n - 1)) 0) 0) (get_or t s 0)) ≡ after false k
  first_right k e =
      let at : 0 ≡ k - d = omega arith in
      ap₂ (λ (x y : ℕ). word_with (rightward (cond wrap x 0) y)) (source (n - 1) _ (omega (arith, h.some_words)) refl) (source 0 _ h.some_words (omega arith))
      ∙ right_word (run t s n) n wrap 0 _ (before_first (run t s n) n wrap h.some_words)
      ∙ ap (λ (j : ℕ). word_with (λ p. moved false wrap (run t s n) n (j * 16 + p))) at

  to_the_right : {table : List ℕ} (v enters : ℕ) → Rewritten t (merged_at (λ x y. word_with (rightward x y)) t s (s + 1) (d + 1)) (d + 1) (d + 1 + (n - 1)) table
      → v ≡ word_with (rightward enters (get_or t s 0)) → enters ≡ cond wrap (get_or t (s + (n - 1)) 0) 0
      → set table d v ≡ placed t d (matrix n (moved false wrap (run t s n) n))
  to_the_right {table} v enters r e b =
      same
      (until (omega (arith, h.some_words))
      (then_before (restated r neighbours_right) (omega arith)
      (restated (stored table d v (omega (arith, h.some_words, h.second, r.long))) (λ k l u. e ∙ ap (λ (x : ℕ). word_with (rightward x (get_or t s 0))) b ∙ first_right k (omega arith)))
      (omega arith)))
      (placing t d n (moved false wrap (run t s n) n) h.second)

  -- ---- either way
  left_bit : (left : Bool) → cond left (of (get_or t s 0) 1) (of (get_or t (s + (n - 1)) 0) 16) ≡ leaving left (run t s n) n
  left_bit left =
      ap₂ (λ (x y : ℕ). cond left (of x 1) (of y 16)) (source 0 _ h.some_words (omega arith)) (source (n - 1) _ (omega (arith, h.some_words)) refl)
      ∙ left_over (run t s n) n wrap left h.some_words

-- ---- the call, to either side
module _ (left wrap : Bool) (t : List ℕ) (s d n : ℕ) (none : 0 ≡ fault longest_whole (length t) n s d) where
  both_lie : Accepted longest_whole (length t) n s d
  both_lie = accepted longest_whole (length t) n s d (sym none)

  carried : (goes : Bool) (table : List ℕ) → left ≡ goes → table ≡ placed t d (matrix n (moved goes wrap (run t s n) n))
      → table ≡ move_table left wrap t s d n
  unfolding move_table
  carried goes table way e =
      e ∙ ap (λ (b : Bool). placed t d (matrix n (moved b wrap (run t s n) n))) (sym way) ∙ sym (unless_done _ _ _ (sym none))

  said_out : (goes on : Bool) → left ≡ goes → on ≡ cond goes (of (get_or t s 0) 1) (of (get_or t (s + (n - 1)) 0) 16)
      → ◌≡◌ {A = Said Bool} (record { verdict = done; value = Some on }) (move_said left t s d n)
  said_out goes on way e =
      ap (λ (b : Bool). said_by {A = Bool} done b)
      (e ∙ left_bit t s d n wrap both_lie goes ∙ ap (λ (b : Bool). leaving b (run t s n) n) (sym way))
      ∙ ap (λ (k : ℕ). said_by {A = Bool} (placeless k) (leaving left (run t s n) n)) none

  pub moves_left : (table : List ℕ) (v enters : ℕ) → left ≡ true → Rewritten t (merged_at (λ x y. word_with (leftward x y)) t s (s + 1) d) d (d + (n - 1)) table
      → v ≡ word_with (leftward (get_or t (s + (n - 1)) 0) enters) → enters ≡ cond wrap (get_or t s 0) 0
      → set table (d + (n - 1)) v ≡ move_table left wrap t s d n
  moves_left table v enters way r e b = carried true _ way (to_the_left t s d n wrap both_lie v enters r e b)

  pub moves_right : (table : List ℕ) (v enters : ℕ) → left ≡ false
      → Rewritten t (merged_at (λ x y. word_with (rightward x y)) t s (s + 1) (d + 1)) (d + 1) (d + 1 + (n - 1)) table
      → v ≡ word_with (rightward enters (get_or t s 0)) → enters ≡ cond wrap (get_or t (s + (n - 1)) 0) 0
      → set table d v ≡ move_table left wrap t s d n
  moves_right table v enters way r e b = carried false _ way (to_the_right t s d n wrap both_lie v enters r e b)

  pub says_first : (on : Bool) → left ≡ true → on ≡ of (get_or t s 0) 1
      → ◌≡◌ {A = Said Bool} (record { verdict = done; value = Some on }) (move_said left t s d n)
  says_first on way e = said_out true on way e

  pub says_last : (on : Bool) → left ≡ false → on ≡ of (get_or t (s + (n - 1)) 0) 16
      → ◌≡◌ {A = Said Bool} (record { verdict = done; value = Some on }) (move_said left t s d n)
  says_last on way e = said_out false on way e

pub ruleset shifting = (accepted, stays, moves_left, moves_right, says_first, says_last)
