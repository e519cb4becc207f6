-- The laws of the move: a word moved by one, with its neighbour's end bit masked in, is a word of the moved matrix; and the
-- neighbours' end bits are the bits that enter. Over a matrix m of n words. Assumes nothing.
use mathlib.Core.Path.{◌≡◌, refl, sym, ap, ◌∙◌}
use mathlib.Core.Bool.{Bool, true, false, cond, ◌&&◌}
use mathlib.Core.List.{List}
use mathlib.Core.Logic.{⊎_elim}
use Prim.Native.Nat.{ℕ, zero, suc, ◌+◌, ◌-◌, ◌*◌, ◌<◌}
use native.Mathlib.Nat.{eq-or-lt_of_le, le_of_suc-le-suc}
use native.Mathlib.Numerals.{add-one, sub-one}
use native.Mathlib.Omega.{arith}
use borrow.Author.Tests.{eq-eqb, ne_eqb}
use lib.Dec.{lit<}
use lib.ListN.{get_or}
use Rattle.bits.specs.Bit.{bit, of, word_with}
use Rattle.bits.specs.Word.{leftward, rightward}
use Rattle.bits.proofs.Digits.{value_cong}
use Rattle.bits.proofs.Laws.{zero_of}
use Rattle.bits.proofs.Matrix.{bit_of}
use Rattle.matrix.specs.Move.{moved, leaving}

module _ (m : List ℕ) (n : ℕ) (wrap : Bool) where
  -- what stands at a position after the move: the bit that enters, or the bit beside it
  entered_left : (p : ℕ) → p ≡ 16 * n → moved true wrap m n p ≡ (wrap && bit m 1)
  unfolding moved
  entered_left p e = ap (λ (b : Bool). cond b (wrap && bit m 1) (bit m (p + 1))) (eq-eqb p (16 * n) e)

  beside_left : (p : ℕ) → (p ≡ 16 * n → ⊥) → moved true wrap m n p ≡ bit m (p + 1)
  unfolding moved
  beside_left p h = ap (λ (b : Bool). cond b (wrap && bit m 1) (bit m (p + 1))) (ne_eqb p (16 * n) h)

  entered_right : moved false wrap m n 1 ≡ (wrap && bit m (16 * n))
  unfolding moved
  entered_right = refl

  beside_right : (p : ℕ) → (p ≡ 1 → ⊥) → moved false wrap m n p ≡ bit m (p - 1)
  unfolding moved
  beside_right p h = ap (λ (b : Bool). cond b (wrap && bit m (16 * n)) (bit m (p - 1))) (ne_eqb p 1 h)

  -- a bit of the word beyond an end
  beyond_bit : (w i : ℕ) → i < 16 → of (cond wrap w 0) (suc i) ≡ (wrap && of w (suc i))
  beyond_bit w i h = go wrap
    where
      go : (b : Bool) → of (cond b w 0) (suc i) ≡ (b && of w (suc i))
      go true = refl
      go false = zero_of i h

  -- a bit of a word of the matrix
  own_bit : (k j : ℕ) → j < 16 → of (get_or m k 0) (suc j) ≡ bit m (k * 16 + suc j)
  own_bit k j h = sym (bit_of m k j h)

  -- ---- to the left: word i and what enters it at 16
  pub after_inside : (i : ℕ) → i + 1 < n → of (get_or m (i + 1) 0) 1 ≡ moved true wrap m n (i * 16 + 16)
  after_inside i l =
      let at : (i + 1) * 16 + 1 ≡ i * 16 + 16 + 1 = omega arith in
      own_bit (i + 1) 0 (lit< tt) ∙ ap (bit m) at ∙ sym (beside_left (i * 16 + 16) (λ e. omega arith))

  pub after_last : (i : ℕ) → i + 1 ≡ n → of (cond wrap (get_or m 0 0) 0) 1 ≡ moved true wrap m n (i * 16 + 16)
  after_last i e =
      beyond_bit (get_or m 0 0) 0 (lit< tt) ∙ ap (λ (b : Bool). wrap && b) (own_bit 0 0 (lit< tt)) ∙ sym (entered_left (i * 16 + 16) (omega arith))

  pub left_word : (i after : ℕ) → i < n → of after 1 ≡ moved true wrap m n (i * 16 + 16)
      → word_with (leftward (get_or m i 0) after) ≡ word_with (λ p. moved true wrap m n (i * 16 + p))
  left_word i after l e = value_cong 16 (leftward (get_or m i 0) after) (λ p. moved true wrap m n (i * 16 + p)) each
    where
      each : (j : ℕ) → j < 16 → leftward (get_or m i 0) after (suc j) ≡ moved true wrap m n (i * 16 + suc j)
      each j h = ⊎_elim last inner (eq-or-lt_of_le (le_of_suc-le-suc h))
        where
          last : j ≡ 15 → leftward (get_or m i 0) after (suc j) ≡ moved true wrap m n (i * 16 + suc j)
          last q = ap (λ (x : ℕ). leftward (get_or m i 0) after (suc x)) q ∙ e ∙ ap (λ (x : ℕ). moved true wrap m n (i * 16 + suc x)) (sym q)

          inner : j < 15 → leftward (get_or m i 0) after (suc j) ≡ moved true wrap m n (i * 16 + suc j)
          inner q =
              let at : i * 16 + suc (suc j) ≡ i * 16 + suc j + 1 = omega arith in
              ap (λ (b : Bool). cond b (of after 1) (of (get_or m i 0) (suc j + 1))) (ne_eqb (suc j) 16 (λ z. omega arith))
              ∙ ap (of (get_or m i 0)) (add-one (suc j))
              ∙ own_bit i (suc j) (omega arith)
              ∙ ap (bit m) at
              ∙ sym (beside_left (i * 16 + suc j) (λ z. omega arith))

  -- ---- to the right: word i and what enters it at 1
  pub before_first : 0 < n → of (cond wrap (get_or m (n - 1) 0) 0) 16 ≡ moved false wrap m n (0 * 16 + 1)
  before_first l =
      let at : (n - 1) * 16 + 16 ≡ 16 * n = omega arith in
      beyond_bit (get_or m (n - 1) 0) 15 (lit< tt)
      ∙ ap (λ (b : Bool). wrap && b) (own_bit (n - 1) 15 (lit< tt) ∙ ap (bit m) at)
      ∙ sym entered_right

  pub before_next : (i : ℕ) → of (get_or m i 0) 16 ≡ moved false wrap m n ((i + 1) * 16 + 1)
  before_next i =
      let at : i * 16 + 16 ≡ (i + 1) * 16 + 1 - 1 = omega arith in
      own_bit i 15 (lit< tt) ∙ ap (bit m) at ∙ sym (beside_right ((i + 1) * 16 + 1) (λ e. omega arith))

  pub right_word : (i before : ℕ) → of before 16 ≡ moved false wrap m n (i * 16 + 1)
      → word_with (rightward before (get_or m i 0)) ≡ word_with (λ p. moved false wrap m n (i * 16 + p))
  right_word i before e = value_cong 16 (rightward before (get_or m i 0)) (λ p. moved false wrap m n (i * 16 + p)) each
    where
      each : (j : ℕ) → j < 16 → rightward before (get_or m i 0) (suc j) ≡ moved false wrap m n (i * 16 + suc j)
      each zero h = e
      each (suc j) h =
          let at : i * 16 + suc j ≡ i * 16 + suc (suc j) - 1 = omega arith in
          ap (λ (b : Bool). cond b (of before 16) (of (get_or m i 0) (suc (suc j) - 1))) (ne_eqb (suc (suc j)) 1 (λ z. omega arith))
          ∙ ap (of (get_or m i 0)) (sub-one (suc (suc j)))
          ∙ own_bit i j (omega arith)
          ∙ ap (bit m) at
          ∙ sym (beside_right (i * 16 + suc (suc j)) (λ z. omega arith))

  -- ---- the bit that leaves
  pub left_over : (left : Bool) → 0 < n → cond left (of (get_or m 0 0) 1) (of (get_or m (n - 1) 0) 16) ≡ leaving left m n
  left_over true l = own_bit 0 0 (lit< tt)
  left_over false l =
      let at : (n - 1) * 16 + 16 ≡ 16 * n = omega arith in
      own_bit (n - 1) 15 (lit< tt) ∙ ap (bit m) at
