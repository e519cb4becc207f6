-- What the contracts of the crate's own functions cite: the word that two words become, and a table in which a run of words was rewritten.
-- Assumes nothing.
use Rattle.std.specs.Prelude.{ℕ, ◌+◌, ◌-◌, ◌≤◌, ◌<◌, ◌≡◌, length, get_or}
use Rattle.verdict.specs.Lists.{Table}
use Rattle.bits.specs.Bit.{of, word_with}
use Rattle.matrix.specs.declared.logic.Operation.{Operation}
use Rattle.matrix.specs.Logic.{combined}

-- the word that a word of the source and the destination's word become by an operation
abbrev pub combined_word : Operation → ℕ → ℕ → ℕ
combined_word operation s d = word_with (λ p. combined operation (of s p) (of d p))

-- word k of a run that starts at `at`, which the words from a and from b on become, two by two
abbrev pub merged_at : (ℕ → ℕ → ℕ) → Table → ℕ → ℕ → ℕ → ℕ → ℕ
merged_at word t a b at k = word (get_or t (a + (k - at)) 0) (get_or t (b + (k - at)) 0)

-- the words of the table from one index on and before another are the words wanted, and all others are as they were
pub record Rewritten (t : Table) (word : ℕ → ℕ) (from to : ℕ) (table : Table) : Type 0 where
  pub long : length table ≡ length t
  pub inside : (k : ℕ) → from ≤ k → k < to → get_or table k 0 ≡ word k
  pub below : (k : ℕ) → k < from → get_or table k 0 ≡ get_or t k 0
  pub above : (k : ℕ) → to ≤ k → get_or table k 0 ≡ get_or t k 0
