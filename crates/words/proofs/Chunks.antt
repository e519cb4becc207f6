-- Bytes that come in chunks: where a chunk has an even count of bytes, its words and then those of the rest are the words of both. Assumes
-- nothing.
use mathlib.Core.Path.{◌≡◌, refl, ap, ap₂, ◌∙◌}
use mathlib.Core.List.{List, ◌∷◌, ◌++◌}
use Prim.Native.Nat.{ℕ, zero, suc, ◌+◌, ◌*◌, ◌%◌, ◌≤◌}
use native.Mathlib.Omega.{arith}
use lib.Dec.{eqb}
use lib.ListN.{length, get_or, length-append, get_or-append}
use lib.Seq.{get_or-append-add}
use Rattle.words.specs.Words.{word_in, words_from, words_count, words_in, odd_byte}

from_both : (bs : List ℕ) (m n k : ℕ) → words_from bs k (m + n) ≡ words_from bs k m ++ words_from bs (k + m) n
unfolding words_from
from_both bs zero n k =
    let start : k ≡ k + 0 = omega arith in
    let count : 0 + n ≡ n = omega arith in
    ap₂ (words_from bs) start count
from_both bs (suc m) n k =
    let count : suc m + n ≡ suc (m + n) = omega arith in
    let start : suc k + m ≡ k + suc m = omega arith in
    ap (words_from bs k) count
    ∙ ap (λ (x : List ℕ). word_in bs k ∷ x) (from_both bs m n (suc k) ∙ ap (λ (i : ℕ). words_from bs (suc k) m ++ words_from bs i n) start)

module _ (chunk rest : List ℕ) where
  from_chunk : (n k : ℕ) → 2 * (k + n) ≤ length chunk → words_from (chunk ++ rest) k n ≡ words_from chunk k n
  unfolding words_from
  from_chunk zero k l = refl
  from_chunk (suc n) k l =
      ap₂ (λ (x : ℕ) (r : List ℕ). x ∷ r)
      (ap₂ (λ (h b : ℕ). 256 * h + b) (get_or-append chunk rest 0 (2 * k) (omega arith)) (get_or-append chunk rest 0 (2 * k + 1) (omega arith)))
      (from_chunk n (suc k) (omega arith))

  from_rest : (n i k : ℕ) → 2 * i ≡ length chunk + 2 * k → words_from (chunk ++ rest) i n ≡ words_from rest k n
  unfolding words_from
  from_rest zero i k e = refl
  from_rest (suc n) i k e =
      let next : 2 * i + 1 ≡ length chunk + (2 * k + 1) = omega (arith, e) in
      let at : ℕ → ℕ = λ (j : ℕ). get_or (chunk ++ rest) j 0 in
      ap₂ (λ (x : ℕ) (r : List ℕ). x ∷ r)
      (ap₂ (λ (h b : ℕ). 256 * h + b) (ap at e ∙ get_or-append-add chunk rest (2 * k) 0) (ap at next ∙ get_or-append-add chunk rest (2 * k + 1) 0))
      (from_rest n (suc i) (suc k) (omega (arith, e)))

  module _ (even : length chunk % 2 ≡ 0) where
    pub chunk_words : words_in (chunk ++ rest) ≡ words_in chunk ++ words_in rest
    chunk_words =
        let count : words_count (chunk ++ rest) ≡ words_count chunk + words_count rest = omega (arith, length-append chunk rest, even) in
        ap (words_from (chunk ++ rest) 0) count
        ∙ from_both (chunk ++ rest) (words_count chunk) (words_count rest) 0
        ∙ ap₂ (λ (x r : List ℕ). x ++ r) (from_chunk (words_count chunk) 0 (omega (arith, even))) (from_rest (words_count rest) (0 + words_count chunk) 0 (omega (arith, even)))

    pub chunk_odd : odd_byte (chunk ++ rest) ≡ odd_byte rest
    chunk_odd =
        let same : length (chunk ++ rest) % 2 ≡ length rest % 2 = omega (arith, length-append chunk rest, even) in
        ap (λ (r : ℕ). eqb r 1) same
