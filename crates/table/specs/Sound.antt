-- What sizes and references must be, said once more and without the refusals' order, and when the part of a table is empty.
-- Assumes nothing.
use Rattle.std.specs.Prelude.{ℕ, ◌+◌, ◌%◌, ◌≤◌, ◌≡◌, true, [], ◌↔◌, length}
use Rattle.verdict.specs.Lists.{Table}
use Rattle.level.specs.Level.{most_level}
use Rattle.table.specs.declared.sizes.Sizes.{Sizes}
use Rattle.table.specs.Table.{most_coils, most_discretes, most_inputs, most_holding, total, discrete, size_of, offset, reference_fault, longest_in, part}

-- the sizes of the areas are within their limits, and the level is 1 or 2
pub record GoodSizes (z : Sizes) : Type 0 where
  pub coils : z.coils ≤ most_coils
  pub discretes : z.discretes ≤ most_discretes
  pub inputs : z.inputs ≤ most_inputs
  pub holding : z.holding ≤ most_holding
  pub level_low : 1 ≤ z.level
  pub level_high : z.level ≤ most_level

-- a reference to so many words lies in its area, and a matrix of discretes starts at a word's first bit
pub record Placed (z : Sizes) (class number words : ℕ) : Type 0 where
  pub counted : 1 ≤ number
  pub aligned : discrete class ≡ true → number % 16 ≡ 1
  pub inside : offset class number + words ≤ size_of z class

-- why a part is empty, in this order: the class isn't 0, 1, 3 or 4, the request fails refusal 6, 7 or 8, the length is out
-- of the level's range, an area size is over its limit or the level another than 1 or 2, or the table has the wrong size
pub data Empty (t : Table) (z : Sizes) (class number n : ℕ) : Type 0 where
  other_class : (class ≡ 0 → ⊥) → (class ≡ 1 → ⊥) → (class ≡ 3 → ⊥) → (class ≡ 4 → ⊥) → Empty t z class number n
  fails_refusal : (reference_fault z class number n ≡ 0 → ⊥) → Empty t z class number n
  length_out : ((1 ≤ n) × (n ≤ longest_in z) → ⊥) → Empty t z class number n
  bad_sizes : (GoodSizes z → ⊥) → Empty t z class number n
  wrong_size : (length t ≡ total z → ⊥) → Empty t z class number n

-- a part is empty exactly then
abbrev pub EmptyExactly : Type 0
EmptyExactly = (t : Table) (z : Sizes) (class number n : ℕ) → (part t z class number n ≡ []) ↔ Empty t z class number n
