-- What the contracts of the functions that put a line's pieces cite, beside the definitions that a caller reads.
use Rattle.std.specs.Prelude.{ℕ, ◌+◌, ◌≤◌, ◌≡◌, ◌++◌, length, take, drop}
use Rattle.verdict.specs.Lists.{Text}

-- a buffer holds these bytes from a place on, and is as it was before and after them; there are at most so many
pub record Put (most : ℕ) (before : Text) (at : ℕ) (bytes : Text) (next : ℕ) (after : Text) : Type 0 where
  pub few : length bytes ≤ most
  pub reaches : next ≡ at + length bytes
  pub room : next ≤ length before
  pub holds : after ≡ take at before ++ (bytes ++ drop next before)

-- a buffer holds these bytes from a place on and then spare ones, eight in all, and is as it was before and after them: the bytes
-- that are put next go over the spare ones
pub record Over (before : Text) (at : ℕ) (bytes : Text) (next : ℕ) (after : Text) : Type 0 where
  pub spare : Text
  pub reaches : next ≡ at + length bytes
  pub eight : Put 8 before at (bytes ++ spare) (at + 8) after
