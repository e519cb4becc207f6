-- The laws of runs: their words and bits are the table's, and the words of a table with a matrix in it are the matrix's or the table's.
-- Assumes nothing.
use mathlib.Core.Path.{◌≡◌, sym, ap, ap₂, ◌∙◌, subst}
use mathlib.Core.List.{List, ◌++◌, append_assoc}
use mathlib.Core.Logic.{◌⊎◌, ⊎_elim}
use Prim.Native.Nat.{ℕ, suc, ◌+◌, ◌-◌, ◌*◌, ◌≤◌, ◌<◌}
use native.Mathlib.Omega.{arith}
use lib.ListN.{length, get_or, take, drop, length-append, length-drop, get_or-append}
use lib.Seq.{get_or-append-add, get_or-take, get_or-drop, length-take-le}
use Rattle.bits.specs.Bit.{bit, of}
use Rattle.bits.proofs.Matrix.{bit_of}
use Rattle.runs.specs.Run.{run, placed}

pub run_length : (t : List ℕ) (s n : ℕ) → s + n ≤ length t → length (run t s n) ≡ n
run_length t s n h = length-take-le n (drop s t) (simp length-drop (omega arith))

pub run_at : (t : List ℕ) (s n i : ℕ) → i < n → get_or (run t s n) i 0 ≡ get_or t (s + i) 0
run_at t s n i h = get_or-take n (drop s t) i 0 h ∙ get_or-drop s t i 0

-- the bits of word i of a run
pub run_bit : (t : List ℕ) (s n i j : ℕ) → i < n → j < 16 → bit (run t s n) (i * 16 + suc j) ≡ of (get_or t (s + i) 0) (suc j)
run_bit t s n i j h l = bit_of (run t s n) i j l ∙ ap (λ (w : ℕ). of w (suc j)) (run_at t s n i h)

-- ---- the words of a table with a matrix in it
module _ (t : List ℕ) (s : ℕ) (m : List ℕ) (h : s + length m ≤ length t) where
  after : List ℕ
  after = m ++ drop (s + length m) t

  word_at : (k : ℕ) → get_or (placed t s m) k 0 ≡ get_or (take s t ++ after) k 0
  unfolding after
  word_at k = ap (λ (r : List ℕ). get_or r k 0) (append_assoc (take s t) m (drop (s + length m) t))

  below : (k : ℕ) → k < s → get_or (placed t s m) k 0 ≡ get_or t k 0
  below k l =
      let e : length (take s t) ≡ s = length-take-le s t (omega arith) in
      word_at k ∙ get_or-append (take s t) after 0 k (subst (λ (x : ℕ). k < x) (sym e) l) ∙ get_or-take s t k 0 l

  from : (k : ℕ) → get_or (placed t s m) (s + k) 0 ≡ get_or after k 0
  from k =
      let e : length (take s t) ≡ s = length-take-le s t (omega arith) in
      word_at (s + k) ∙ ap (λ (x : ℕ). get_or (take s t ++ after) (x + k) 0) (sym e) ∙ get_or-append-add (take s t) after k 0

  pub word_inside : (k : ℕ) → k < length m → get_or (placed t s m) (s + k) 0 ≡ get_or m k 0
  unfolding after
  word_inside k l = from k ∙ get_or-append m (drop (s + length m) t) 0 k l

  above : (k : ℕ) → get_or (placed t s m) (s + (length m + k)) 0 ≡ get_or t (s + length m + k) 0
  unfolding after
  above k = from (length m + k) ∙ get_or-append-add m (drop (s + length m) t) k 0 ∙ get_or-drop (s + length m) t k 0

  -- the words outside it stay
  pub word_outside : (k : ℕ) → (k < s) ⊎ (s + length m ≤ k) → get_or (placed t s m) k 0 ≡ get_or t k 0
  word_outside k = ⊎_elim (below k)
      (λ l.
      let at : s + (length m + (k - (s + length m))) ≡ k = omega arith in
      let there : s + length m + (k - (s + length m)) ≡ k = omega arith in
      ap (λ (j : ℕ). get_or (placed t s m) j 0) (sym at) ∙ above (k - (s + length m)) ∙ ap (λ (j : ℕ). get_or t j 0) there)

-- and it is as long as before
pub placed_length : (t : List ℕ) (s : ℕ) (m : List ℕ) → s + length m ≤ length t → length (placed t s m) ≡ length t
placed_length t s m h =
    length-append (take s t ++ m) (drop (s + length m) t)
    ∙ ap₂ ◌+◌ (length-append (take s t) m ∙ ap (λ (k : ℕ). k + length m) (length-take-le s t (omega arith))) (length-drop (s + length m) t)
    ∙ omega arith
