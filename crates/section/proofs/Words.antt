-- The laws of words from an index on, and of words that earn nothing. Assumes nothing.
use mathlib.Core.Path.{◌≡◌, refl, sym, ap, ◌∙◌}
use mathlib.Core.List.{List, ◌∷◌, ◌++◌}
use Prim.Native.Nat.{ℕ, zero, suc, ◌+◌, ◌≤◌, ◌<◌}
use native.Mathlib.Decide.{dec_lt}
use native.Mathlib.Nat.{add-zero, le_antisymm}
use native.Mathlib.Numerals.{add-one}
use native.Mathlib.Omega.{arith}
use lib.ListN.{length, take, drop, replicate}
use lib.Seq.{get_or-drop, drop-drop, take-add, take-suc, append_snoc}
use Rattle.section.specs.Walk.{word, seek}
use Rattle.verdict.specs.Verdict.{verdict, done}
use Rattle.section.proofs.Walk.{le_of_not_lt, seek_none, seek_next, seek_missing}

module _ (ws : List ℕ) (at : ℕ) where
  pub word_from : (i : ℕ) → word ws (at + i) ≡ word (drop at ws) i
  word_from i = sym (get_or-drop at ws i 0)

  pub word_here : word ws at ≡ word (drop at ws) 0
  word_here = ap (word ws) (sym (add-zero at)) ∙ word_from 0

  pub rest_from : (i : ℕ) → drop (at + i) ws ≡ drop i (drop at ws)
  rest_from i = sym (drop-drop i at ws)

  -- the words before an index, the one at it and n more
  pub one_more : (n : ℕ) → at < length ws → take at ws ++ word ws at ∷ take n (drop (at + 1) ws) ≡ take (at + 1 + n) ws
  one_more n l =
      let more : List ℕ = take n (drop (at + 1) ws) in
      sym (append_snoc (take at ws) (word ws at) more)
      ∙ ap (λ (l : List ℕ). l ++ more) (sym (take-suc ws at 0 l) ∙ ap (λ (j : ℕ). take j ws) (sym (add-one at)))
      ∙ sym (take-add (at + 1) n ws)

-- n words that earn nothing only have to be there
module _ (size : ℕ) where
  pub all_there : (n i : ℕ) → i + n ≤ size → seek (replicate n 0) size i ≡ done
  all_there zero i u = seek_none size i
  all_there (suc n) i u = seek_next size 0 (replicate n 0) i (omega arith) refl ∙ all_there n (suc i) (omega arith)

  pub some_missing : (n i : ℕ) → i ≤ size → size < i + n → seek (replicate n 0) size i ≡ verdict 1 (suc size)
  some_missing zero i u l = absurd (omega arith)
  some_missing (suc n) i u l = elim (dec_lt i size) [
    | yes h ↦ seek_next size 0 (replicate n 0) i h refl ∙ some_missing n (suc i) h (omega arith)
    | no h ↦ seek_missing size 0 (replicate n 0) i (le_of_not_lt h) ∙ ap (λ (k : ℕ). verdict 1 (suc k)) (le_antisymm u (le_of_not_lt h))
  ]
