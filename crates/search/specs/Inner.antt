-- What the contracts of the crate's own functions cite, beside the definitions that a caller reads. Assumes nothing.
use Rattle.std.specs.Prelude.{ℕ, ◌≤◌, ◌<◌, ◌≡◌, length, get_or}
use Rattle.verdict.specs.Lists.{Matrix}
use Rattle.bits.specs.Bit.{longest_whole}

-- two lists hold n words each, and n is at most the longest
pub record Paired (x y : Matrix) (n : ℕ) : Type 0 where
  pub few : n ≤ longest_whole
  pub first : n ≤ length x
  pub second : n ≤ length y

-- their words from i on, up to k, are equal
pub record Equal (x y : Matrix) (i k : ℕ) : Type 0 where
  pub up : i ≤ k
  pub words : (j : ℕ) → i ≤ j → j < k → get_or x j 0 ≡ get_or y j 0
