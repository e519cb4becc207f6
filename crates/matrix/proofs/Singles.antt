-- The laws of one bit of a run: it is read in its word, and putting it changes that word alone. Assumes nothing.
use mathlib.Core.Path.{◌≡◌, sym, ap, ap₂, ◌∙◌}
use mathlib.Core.Bool.{Bool, cond}
use mathlib.Core.List.{List, ◌++◌}
use Prim.Native.Nat.{ℕ, suc, ◌+◌, ◌-◌, ◌*◌, ◌/◌, ◌%◌, ◌^◌, ◌≤◌, ◌<◌}
use native.Mathlib.Decide.{ℕ_discrete}
use native.Mathlib.Numerals.{add-one}
use native.Mathlib.Omega.{arith}
use borrow.Author.Tests.{ne_eqb}
use lib.Dec.{eqb}
use lib.ListN.{length, get_or, take, drop, set, length-set, take-append-drop}
use lib.Seq.{take-add, take-set-le, drop-set-add, take-set-lt, drop-set-lt, get_or-set_same, get_or-set_other}
use Rattle.bits.specs.Bit.{bit, of, word_with, matrix}
use Rattle.bits.specs.Word.{put}
use Rattle.bits.proofs.Digits.{value_cong}
use Rattle.bits.proofs.Laws.{word_of}
use Rattle.bits.proofs.Matrix.{matrix_by_words}
use Rattle.bits.proofs.Tests.{eqb_iff}
use Rattle.runs.specs.Run.{run, placed, fault_at}
use Rattle.runs.proofs.Refusals.{located, stays, unless_done}
use Rattle.matrix.specs.Single.{put_table}
use Rattle.matrix.proofs.Runs.{run_length, run_at, run_bit}

-- ---- a run put back in its place
pub placed_run : (t : List ℕ) (s n : ℕ) → s + n ≤ length t → placed t s (run t s n) ≡ t
placed_run t s n h =
    ap (λ (k : ℕ). take s t ++ run t s n ++ drop (s + k) t) (run_length t s n h)
    ∙ ap (λ (r : List ℕ). r ++ drop (s + n) t) (sym (take-add s n t))
    ∙ take-append-drop (s + n) t

-- a word of a run stored in the table is stored in the run
pub placed_set : (t : List ℕ) (s n k v : ℕ) → s + n ≤ length t → k < n → set t (s + k) v ≡ placed t s (set (run t s n) k v)
placed_set t s n k v h l =
    let t' : List ℕ = set t (s + k) v in
    let part : run t' s n ≡ set (run t s n) k v =
    ap (take n) (drop-set-add s t k v) ∙ take-set-lt n (drop s t) k v l in
    let long : length (set (run t s n) k v) ≡ n = length-set (run t s n) k v ∙ run_length t s n h in
    sym (placed_run t' s n (simp length-set h))
    ∙ ap₂ (λ (x m : List ℕ). x ++ m ++ drop (s + length m) t') (take-set-le s t (s + k) v (omega arith)) part
    ∙ ap (λ (r : List ℕ). take s t ++ set (run t s n) k v ++ r)
    (ap (λ (j : ℕ). drop (s + j) t') long ∙ drop-set-lt (s + n) t (s + k) v (omega arith) ∙ ap (λ (j : ℕ). drop (s + j) t) (sym long))

-- ---- position p is bit (p - 1) % 16 + 1 of word (p - 1) / 16
module _ (t : List ℕ) (s n p : ℕ) (h : s + n ≤ length t) (l : 1 ≤ p) (u : p ≤ 16 * n) where
  pub single_bit : of (get_or t (s + (p - 1) / 16) 0) ((p - 1) % 16 + 1) ≡ bit (run t s n) p
  single_bit =
      let i : ℕ = (p - 1) / 16 in
      let j : ℕ = (p - 1) % 16 in
      let at : i * 16 + suc j ≡ p = omega arith in
      ap (of (get_or t (s + i) 0)) (add-one j) ∙ sym (run_bit t s n i j (omega arith) (omega arith)) ∙ ap (bit (run t s n)) at

  module _ (on : Bool) (small : (k : ℕ) → get_or t k 0 < 2 ^ 16) where
    after : ℕ → Bool
    after q = cond (eqb q p) on (bit (run t s n) q)

    -- the word that holds the position
    put_word : word_with (put (get_or t (s + (p - 1) / 16) 0) ((p - 1) % 16 + 1) on) ≡ word_with (λ q. after ((p - 1) / 16 * 16 + q))
    unfolding after
    put_word =
        let i : ℕ = (p - 1) / 16 in
        value_cong 16 (put (get_or t (s + i) 0) ((p - 1) % 16 + 1) on) (λ q. after (i * 16 + q))
        (λ r m.
        ap₂ (λ (e b : Bool). cond e on b)
        (eqb_iff (suc r) ((p - 1) % 16 + 1) (i * 16 + suc r) p (λ e. omega arith) (λ e. omega arith))
        (sym (run_bit t s n i r (omega arith) m)))

    -- any other word
    other_word : (k : ℕ) → k < n → (k ≡ (p - 1) / 16 → ⊥) → get_or t (s + k) 0 ≡ word_with (λ q. after (k * 16 + q))
    unfolding after
    other_word k m ne =
        word_of (get_or t (s + k) 0) (λ q. after (k * 16 + q)) (small (s + k))
        (λ r b.
        sym (run_bit t s n k r m b)
        ∙ ap (λ (e : Bool). cond e on (bit (run t s n) (k * 16 + suc r))) (sym (ne_eqb (k * 16 + suc r) p (λ e. ne (omega arith)))))

    -- all words, with that one stored
    stored_words : (v : ℕ) → v ≡ word_with (λ q. after ((p - 1) / 16 * 16 + q)) → set (run t s n) ((p - 1) / 16) v ≡ matrix n after
    stored_words v e =
        let i : ℕ = (p - 1) / 16 in
        matrix_by_words (set (run t s n) i v) n after (length-set (run t s n) i v ∙ run_length t s n h)
        (λ k m. elim (ℕ_discrete k i) [
          | yes q ↦
              ap (λ (x : ℕ). get_or (set (run t s n) i v) x 0) q
              ∙ get_or-set_same (run t s n) i v 0 (omega (arith, run_length t s n h))
              ∙ e
              ∙ ap (λ (x : ℕ). word_with (λ q'. after (x * 16 + q'))) (sym q)
          | no d ↦ get_or-set_other (run t s n) i k v 0 d ∙ run_at t s n k m ∙ other_word k m d
        ])

    pub put_stored : (v : ℕ) → v ≡ word_with (put (get_or t (s + (p - 1) / 16) 0) ((p - 1) % 16 + 1) on)
        → set t (s + (p - 1) / 16) v ≡ placed t s (matrix n (λ q. cond (eqb q p) on (bit (run t s n) q)))
    unfolding after
    put_stored v e =
        placed_set t s n ((p - 1) / 16) v h (omega arith) ∙ ap (placed t s) (stored_words v (e ∙ put_word))

-- a word with a bit put, stored where its position stands, is the bit put in the run
pub puts : (t : List ℕ) (s n p : ℕ) (on : Bool) (v : ℕ) → 0 ≡ fault_at (length t) n s p → ((k : ℕ) → get_or t k 0 < 2 ^ 16)
    → v ≡ word_with (put (get_or t (s + (p - 1) / 16) 0) ((p - 1) % 16 + 1) on) → set t (s + (p - 1) / 16) v ≡ put_table t s n p on
unfolding put_table
puts t s n p on v none small e =
    let h = located (length t) n s p (sym none) in
    put_stored t s n p h.run_accepted.first h.counted h.within on small v e ∙ sym (unless_done _ _ _ (sym none))

pub ruleset reading = (located, single_bit)

pub ruleset putting = (located, stays, puts)
