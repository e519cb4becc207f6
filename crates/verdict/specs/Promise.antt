-- The form of a contract in every crate: one equation for the answer, and one for what each lent buffer holds afterwards. And
-- what it is for a contract to decide them: two results that it allows for the same arguments are equal. Assumes nothing.
use Rattle.std.specs.Prelude.{ℕ, ◌≡◌, List}

-- the answer is `expected`, and the table that was lent holds `contents`
pub record Leaves {R : Type 0} (expected : R) (contents : List ℕ) (answer : R) (table : List ℕ) : Type 0 where
  pub answers : answer ≡ expected
  pub leaves : table ≡ contents

-- the answer is `expected`, and the two buffers that were lent hold `first` and `second`
pub record LeavesTwo {R : Type 0} (expected : R) (first second : List ℕ) (answer : R) (one other : List ℕ) : Type 0 where
  pub answers : answer ≡ expected
  pub leaves_one : one ≡ first
  pub leaves_other : other ≡ second

-- `Post` below is what the check reads off a function's own `ensures`, over its lifetimes, its arguments, its result and
-- its parameters at exit: a statement made with it is about the contract as the source has it
module _ {K : Type 0} {A R S : K → Type 0} (Post : (κs : K) → A κs → R κs → S κs → Type 0) where
  -- the contract decides the answer
  abbrev pub Decides : Type 0
  Decides = (κs : K) (a : A κs) (x y : R κs) (s t : S κs) → Post κs a x s → Post κs a y t → x ≡ y

  -- and it decides what is left of what was lent, which `left` reads off the parameters at exit
  abbrev pub DecidesBoth : ((κs : K) → S κs → List ℕ) → Type 0
  DecidesBoth left =
      (κs : K) (a : A κs) (x y : R κs) (s t : S κs) → Post κs a x s → Post κs a y t → (x ≡ y) × (left κs s ≡ left κs t)

  -- of an answer that is a part of what was lent, the contract decides the words
  abbrev pub DecidesWords : ((κs : K) → R κs → List ℕ) → Type 0
  DecidesWords words = (κs : K) (a : A κs) (x y : R κs) (s t : S κs) → Post κs a x s → Post κs a y t → words κs x ≡ words κs y

  -- and a refusal changes nothing: with an answer that refuses, what is left is what was lent
  abbrev pub Keeps : ((κs : K) → R κs → Type 0) → ((κs : K) → A κs → List ℕ) → ((κs : K) → S κs → List ℕ) → Type 0
  Keeps Refuses lent left = (κs : K) (a : A κs) (x : R κs) (s : S κs) → Post κs a x s → Refuses κs x → left κs s ≡ lent κs a
