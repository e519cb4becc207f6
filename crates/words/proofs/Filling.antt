-- The laws of the words that bytes make: how many they are, each by its bytes, and a loop that puts them at the front of the
-- lent words. Assumes nothing.
use mathlib.Core.Path.{◌≡◌, refl, sym, ap, ap₂, ◌∙◌}
use mathlib.Core.Bool.{Bool, cond}
use mathlib.Core.List.{List, ◌++◌}
use Prim.Native.Nat.{ℕ, zero, suc, ◌+◌, ◌≤◌, ◌<◌}
use native.Mathlib.Nat.{zero-add, add-zero, not-suc-le-zero}
use native.Mathlib.Numerals.{add-one}
use native.Mathlib.Omega.{arith}
use borrow.Author.Tests.{le-leb, lt-leb}
use lib.ListN.{length, get_or, set, drop}
use lib.Seq.{paste, paste-zero, paste-suc, length-paste, take-length}
use Rattle.words.specs.Words.{word_in, words_from, words_count, words_in, filled}

pub words_length : (bs : List ℕ) (n k : ℕ) → length (words_from bs k n) ≡ n
unfolding words_from
words_length bs zero k = refl
words_length bs (suc n) k = ap suc (words_length bs n (suc k))

pub words_at : (bs : List ℕ) (n k i : ℕ) → i < n → get_or (words_from bs k n) i 0 ≡ word_in bs (k + i)
unfolding words_from
words_at bs zero k i l = absurd (not-suc-le-zero l)
words_at bs (suc n) k zero l = ap (word_in bs) (sym (add-zero k))
words_at bs (suc n) k (suc i) l =
    let e : suc k + i ≡ k + suc i = omega arith in
    words_at bs n (suc k) i (omega arith) ∙ ap (word_in bs) e

-- ---- the lent words after k of the bytes' words were put at their front
pub record Filling (bs ws table : List ℕ) (k : ℕ) : Type 0 where
  pub room : words_count bs ≤ length ws
  pub few : k ≤ words_count bs
  pub so_far : table ≡ paste ws 0 (words_in bs) k

module _ {bs ws : List ℕ} where
  pub none_yet : words_count bs ≤ length ws → Filling bs ws ws 0
  none_yet h = record { room = h; few = omega arith; so_far = paste-zero ws 0 (words_in bs) }

  module _ {table : List ℕ} {k : ℕ} (o : Filling bs ws table k) where
    pub same_long : length table ≡ length ws
    same_long =
        ap length o.so_far
        ∙ length-paste ws 0 (words_in bs) k (omega (arith, o.room, o.few)) (omega (arith, o.few, words_length bs (words_count bs) 0))

    pub one_more : {v : ℕ} → k < words_count bs → v ≡ word_in bs k → Filling bs ws (set table k v) (k + 1)
    one_more {v} l e = record {
      room = o.room;
      few = omega arith;
      so_far =
          ap₂ (λ (r : List ℕ) (x : ℕ). set r k x) o.so_far
          (e ∙ ap (word_in bs) (sym (zero-add k)) ∙ sym (words_at bs (words_count bs) 0 k l))
          ∙ ap (λ (i : ℕ). set (paste ws 0 (words_in bs) k) i (get_or (words_in bs) k 0)) (sym (zero-add k))
          ∙ paste-suc ws 0 (words_in bs) k 0 (omega (arith, o.room)) (omega (arith, words_length bs (words_count bs) 0))
          ∙ ap (paste ws 0 (words_in bs)) (sym (add-one k));
    }

    all_in : words_count bs ≤ k → table ≡ words_in bs ++ drop (words_count bs) ws
    all_in l =
        let e : k ≡ words_count bs = omega (arith, o.few) in
        let whole : words_count bs ≡ length (words_in bs) = sym (words_length bs (words_count bs) 0) in
        o.so_far
        ∙ ap (paste ws 0 (words_in bs)) (e ∙ whole)
        ∙ ap₂ (λ (m : List ℕ) (i : ℕ). m ++ drop i ws) (take-length (words_in bs)) (zero-add (length (words_in bs)) ∙ sym whole)

    -- after the last word
    pub all_filled : words_count bs ≤ k → table ≡ filled bs ws
    unfolding filled
    all_filled l = all_in l ∙ sym (ap (λ (b : Bool). cond b (words_in bs ++ drop (words_count bs) ws) ws) (le-leb (words_count bs) (length ws) o.room))

-- too few lent words
pub none_filled : (bs ws : List ℕ) → length ws < words_count bs → ws ≡ filled bs ws
unfolding filled
none_filled bs ws l = sym (ap (λ (b : Bool). cond b (words_in bs ++ drop (words_count bs) ws) ws) (lt-leb (words_count bs) (length ws) l))
