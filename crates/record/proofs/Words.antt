-- The laws of a record's words: they spell it. Assumes nothing.
use mathlib.Core.Path.{◌≡◌, refl, ap, ◌∙◌}
use mathlib.Core.List.{List, [], ◌∷◌, ◌++◌}
use Prim.Native.Nat.{ℕ, ◌+◌, ◌≤◌}
use native.Mathlib.Nat.{add-zero}
use native.Mathlib.Omega.{arith}
use lib.ListN.{length, drop}
use Rattle.section.specs.Walk.{word}
use Rattle.section.proofs.Words.{word_here, word_from}
use Rattle.record.specs.declared.Block.{Block}
use Rattle.record.specs.Record.{record_words, block_in, block_from, spelled}

pub spelled_long : (b : Block) → length (spelled b) ≡ record_words
unfolding spelled
spelled_long b = refl

-- they spell it, whatever follows
pub spelled_back : (b : Block) (after : List ℕ) → block_in (spelled b ++ after) ≡ b
unfolding block_in spelled
spelled_back b after = refl

pub spelled_rest : (b : Block) (after : List ℕ) → drop record_words (spelled b ++ after) ≡ after
unfolding spelled
spelled_rest b after = refl

-- a record's words, each where it stands, are those at the front of what is left
module _ (ws : List ℕ) (i : ℕ) where
  -- the part from word a of the record on, and its word k; and of a part of that part
  part : (a k : ℕ) → word ws (i + (a + k)) ≡ word (drop a (drop i ws)) k
  part a k = word_from ws i (a + k) ∙ word_from (drop i ws) a k

  wire : (a k : ℕ) → word ws (i + (6 + (a + k))) ≡ word (drop a (drop 6 (drop i ws))) k
  wire a k = part 6 (a + k) ∙ word_from (drop 6 (drop i ws)) a k

  pub block_there : block_from ws i ≡ block_in (drop i ws)
  unfolding block_in
  block_there = λ j. record {
    kind = word_here ws i j;
    n = word_from ws i 1 j;
    top = record { class = part 2 0 j; number = part 2 1 j };
    middle = record { class = part 4 0 j; number = part 4 1 j };
    inputs = record {
      top = record { code = part 6 0 j; number = part 6 1 j };
      middle = record { code = wire 2 0 j; number = wire 2 1 j };
      bottom = record { code = wire 4 0 j; number = wire 4 1 j };
    };
    coils = record { top = part 12 0 j; middle = part 12 1 j; bottom = part 12 2 j };
  }

-- words that are the same, each where it stands, spell the same record
pub block_same : (ws : List ℕ) (i : ℕ) (vs : List ℕ) → ((k : ℕ) → word vs k ≡ word ws (i + k)) → block_from vs 0 ≡ block_from ws i
block_same ws i vs same = λ j. record {
  kind = (same 0 ∙ ap (word ws) (add-zero i)) j;
  n = same 1 j;
  top = record { class = same 2 j; number = same 3 j };
  middle = record { class = same 4 j; number = same 5 j };
  inputs = record {
    top = record { code = same 6 j; number = same 7 j };
    middle = record { code = same 8 j; number = same 9 j };
    bottom = record { code = same 10 j; number = same 11 j };
  };
  coils = record { top = same 12 j; middle = same 13 j; bottom = same 14 j };
}

-- 15 words or more are those of the record that they spell, and what follows
pub fifteen : (ws : List ℕ) → record_words ≤ length ws → spelled (block_in ws) ++ drop record_words ws ≡ ws
unfolding spelled block_in
fifteen (a ∷ b ∷ c ∷ d ∷ e ∷ f ∷ g ∷ h ∷ i ∷ j ∷ k ∷ l ∷ m ∷ n ∷ o ∷ ws) u = refl
fifteen (a ∷ b ∷ c ∷ d ∷ e ∷ f ∷ g ∷ h ∷ i ∷ j ∷ k ∷ l ∷ m ∷ n ∷ []) u = absurd (omega arith)
fifteen (a ∷ b ∷ c ∷ d ∷ e ∷ f ∷ g ∷ h ∷ i ∷ j ∷ k ∷ l ∷ m ∷ []) u = absurd (omega arith)
fifteen (a ∷ b ∷ c ∷ d ∷ e ∷ f ∷ g ∷ h ∷ i ∷ j ∷ k ∷ l ∷ []) u = absurd (omega arith)
fifteen (a ∷ b ∷ c ∷ d ∷ e ∷ f ∷ g ∷ h ∷ i ∷ j ∷ k ∷ []) u = absurd (omega arith)
fifteen (a ∷ b ∷ c ∷ d ∷ e ∷ f ∷ g ∷ h ∷ i ∷ j ∷ []) u = absurd (omega arith)
fifteen (a ∷ b ∷ c ∷ d ∷ e ∷ f ∷ g ∷ h ∷ i ∷ []) u = absurd (omega arith)
fifteen (a ∷ b ∷ c ∷ d ∷ e ∷ f ∷ g ∷ h ∷ []) u = absurd (omega arith)
fifteen (a ∷ b ∷ c ∷ d ∷ e ∷ f ∷ g ∷ []) u = absurd (omega arith)
fifteen (a ∷ b ∷ c ∷ d ∷ e ∷ f ∷ []) u = absurd (omega arith)
fifteen (a ∷ b ∷ c ∷ d ∷ e ∷ []) u = absurd (omega arith)
fifteen (a ∷ b ∷ c ∷ d ∷ []) u = absurd (omega arith)
fifteen (a ∷ b ∷ c ∷ []) u = absurd (omega arith)
fifteen (a ∷ b ∷ []) u = absurd (omega arith)
fifteen (a ∷ []) u = absurd (omega arith)
fifteen [] u = absurd (omega arith)
