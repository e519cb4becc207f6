-- Words are checked from the first on, each when it is reached. Assumes nothing.
use Rattle.std.specs.Prelude.{ℕ, suc, ◌+◌, Bool, cond, ◌||◌, List, [], ◌∷◌, ltb, eqb, get_or, Result, Ok, Err}
use Rattle.verdict.specs.Lists.{Words}
use Rattle.verdict.specs.declared.Fault.{Fault}
use Rattle.verdict.specs.declared.Fault.TheVariants.{Missing}
use Rattle.verdict.specs.declared.Refusal.{Refusal}
use Rattle.verdict.specs.Verdict.{Verdict, verdict, done, refusal}

-- the word at an index, counted from 0; a missing word reads as 0
abbrev pub word : Words → ℕ → ℕ
word ws i = get_or ws i 0

-- the first of the words
abbrev pub first_of : Words → ℕ
first_of ws = word ws 0

-- The words from index i on, of so many, where a list has what each earns: the number of a refusal, or 0. The verdict is 1 at the
-- first word that is missing, and the number at the first word that earns one.
unfoldable pub seek : List ℕ → ℕ → ℕ → Verdict
seek [] size i = done
seek (f ∷ fs) size i = cond (ltb i size) (cond (eqb f 0) (seek fs size (suc i)) (verdict f (suc i))) (verdict 1 (suc i))

-- a test of the code, where the word at an index is reached among so many
abbrev pub at_word : {A : Type 0} → Result A Fault → ℕ → Result A Refusal
at_word (Ok x) place = Ok x
at_word (Err fault) place = Err (refusal fault place)

abbrev pub reached : {A : Type 0} → Result A Fault → ℕ → ℕ → Result A Refusal
reached test size i = cond (ltb i size) (at_word test (i + 1)) (Err (refusal Missing (i + 1)))

-- 11: words left over after the first `end` of so many, or an odd byte
abbrev pub left_over : ℕ → ℕ → Bool → Verdict
left_over end size odd = cond (ltb end size || odd) (verdict 11 (suc end)) done
