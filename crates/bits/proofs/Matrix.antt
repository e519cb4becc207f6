-- The laws of matrices: the words of `matrix n f`, its bits, and that words with these bits are it. Each goes by induction
-- on the words. Assumes nothing.
use mathlib.Core.Path.{◌≡◌, refl, sym, ap, ap₂, ◌∙◌}
use mathlib.Core.Bool.{Bool}
use mathlib.Core.List.{List, [], ◌∷◌}
use Prim.Native.Nat.{ℕ, zero, suc, ◌+◌, ◌-◌, ◌*◌, ◌/◌, ◌%◌, ◌^◌, ◌<◌}
use native.Mathlib.Nat.{not-suc-le-zero, le_of_suc-le-suc, zero-add, add-suc}
use native.Mathlib.Omega.{arith}
use lib.ListN.{length, get_or}
use lib.Seq.{ext_get_or}
use Rattle.bits.specs.Bit.{odd, bit, of, word_with, matrix}
use Rattle.bits.proofs.Digits.{value_cong}
use Rattle.bits.proofs.Laws.{word_of, of_word}

-- the bits of word k are those of the matrix from position 16k + 1 on
pub bit_of : (m : List ℕ) (k i : ℕ) → i < 16 → bit m (k * 16 + suc i) ≡ of (get_or m k 0) (suc i)
unfolding bit
bit_of m k i h =
    let at : (k * 16 + i) / 16 ≡ k = omega arith in
    let place : (k * 16 + i) % 16 ≡ i % 16 = omega arith in
    let first : 0 ≡ i / 16 = omega arith in
    ap (bit m) (add-suc (k * 16) i)
    ∙ ap₂ (λ (a b : ℕ). odd (get_or m a 0 / 2 ^ (15 - b))) at place
    ∙ ap (λ (a : ℕ). odd (get_or (get_or m k 0 ∷ []) a 0 / 2 ^ (15 - i % 16))) first

pub matrix_length : (n : ℕ) (f : ℕ → Bool) → length (matrix n f) ≡ n
unfolding matrix
matrix_length zero f = refl
matrix_length (suc n) f = ap suc (matrix_length n (λ p. f (16 + p)))

-- the words of a matrix
pub matrix_at : (n : ℕ) (f : ℕ → Bool) (k : ℕ) → k < n → get_or (matrix n f) k 0 ≡ word_with (λ p. f (k * 16 + p))
unfolding matrix
matrix_at zero f k h = absurd (not-suc-le-zero h)
matrix_at (suc n) f zero h = value_cong 16 f (λ p. f (0 * 16 + p)) (λ i l. ap f (sym (zero-add (suc i))))
matrix_at (suc n) f (suc k) h =
    matrix_at n (λ p. f (16 + p)) k (le_of_suc-le-suc h)
    ∙ value_cong 16 (λ p. f (16 + (k * 16 + p))) (λ p. f (suc k * 16 + p)) (λ i l. ap f (omega arith))

-- what is made word by word, each of its bits, is the matrix
pub matrix_by_words : (m : List ℕ) (n : ℕ) (f : ℕ → Bool) → length m ≡ n
    → ((k : ℕ) → k < n → get_or m k 0 ≡ word_with (λ p. f (k * 16 + p))) → m ≡ matrix n f
matrix_by_words m n f e each =
    ext_get_or 0 m (matrix n f) (e ∙ sym (matrix_length n f))
    (λ k h. let l : k < n = omega arith in each k l ∙ sym (matrix_at n f k l))

-- n words below 2 ^ 16 whose bits are f are `matrix n f`
pub matrix_of : (m : List ℕ) (n : ℕ) (f : ℕ → Bool) → length m ≡ n → ((k : ℕ) → k < n → get_or m k 0 < 2 ^ 16)
    → ((i : ℕ) → i < n * 16 → bit m (suc i) ≡ f (suc i)) → m ≡ matrix n f
matrix_of m n f e small same =
    matrix_by_words m n f e
    (λ k h. word_of (get_or m k 0) (λ p. f (k * 16 + p)) (small k h)
    (λ i l.
    let at : suc (k * 16 + i) ≡ k * 16 + suc i = omega arith in
    sym (bit_of m k i l) ∙ ap (bit m) (sym at) ∙ same (k * 16 + i) (omega arith) ∙ ap f at))

-- and its bits are f
pub bit_matrix : (n : ℕ) (f : ℕ → Bool) (i : ℕ) → i < n * 16 → bit (matrix n f) (suc i) ≡ f (suc i)
bit_matrix n f i h =
    let k : ℕ = i / 16 in
    let j : ℕ = i % 16 in
    let at : k * 16 + suc j ≡ suc i = omega arith in
    ap (bit (matrix n f)) (sym at)
    ∙ bit_of (matrix n f) k j (omega arith)
    ∙ ap (λ (w : ℕ). of w (suc j)) (matrix_at n f k (omega arith))
    ∙ of_word (λ p. f (k * 16 + p)) j (omega arith)
    ∙ ap f at
