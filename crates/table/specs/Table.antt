-- The table: four areas of words one after the other, coils (class 0), discrete inputs (1), input
-- registers (3) and holding registers (4). References count from 1 in each area; discretes are packed 16 to a word.
-- Assumes nothing.
use Rattle.std.specs.Prelude.{ℕ, ◌+◌, ◌-◌, ◌/◌, ◌%◌, Bool, not, cond, ◌&&◌, ◌||◌, [], leb, eqb, length, take, drop}
use Rattle.verdict.specs.Lists.{Table, Matrix}
use Rattle.level.specs.Level.{most_level, at_level, single_length}
use Rattle.table.specs.declared.sizes.Sizes.{Sizes}

-- the limits in words
abbrev pub most_coils : ℕ
most_coils = 128

abbrev pub most_discretes : ℕ
most_discretes = 128

abbrev pub most_inputs : ℕ
most_inputs = 512

abbrev pub most_holding : ℕ
most_holding = 9999

-- every area is within its limit, and the level is 1 or 2
abbrev pub allowed : Sizes → Bool
allowed z =
    ((leb z.coils most_coils && leb z.discretes most_discretes) && (leb z.inputs most_inputs && leb z.holding most_holding))
    && (leb 1 z.level && leb z.level most_level)

abbrev pub total : Sizes → ℕ
total z = z.coils + z.discretes + z.inputs + z.holding

-- whether a class is of discretes, and whether it is an area at all
abbrev pub discrete : ℕ → Bool
discrete class = eqb class 0 || eqb class 1

abbrev pub area : ℕ → Bool
area class = discrete class || (eqb class 3 || eqb class 4)

-- the words of an area, and how many stand before it
abbrev pub size_of : Sizes → ℕ → ℕ
size_of z class = cond (eqb class 0) z.coils (cond (eqb class 1) z.discretes (cond (eqb class 3) z.inputs z.holding))

abbrev pub before : Sizes → ℕ → ℕ
before z class =
    cond (eqb class 0) 0 (cond (eqb class 1) z.coils (cond (eqb class 3) (z.coils + z.discretes) (z.coils + z.discretes + z.inputs)))

-- how many words of its area stand before a reference
abbrev pub offset : ℕ → ℕ → ℕ
offset class number = cond (discrete class) ((number - 1) / 16) (number - 1)

-- a discrete matrix that does not start at a remainder of 1 on division by 16
abbrev pub bad_start : ℕ → ℕ → Bool
bad_start class number = discrete class && not (eqb (number % 16) 1)

-- the refusal that a reference to so many words earns, or 0: number 0 (6), a bad start
-- (7), an operand that runs past its area (8)
unfoldable pub reference_fault : Sizes → ℕ → ℕ → ℕ → ℕ
reference_fault z class number words =
    cond (eqb number 0) 6
    (cond (bad_start class number) 7
    (cond (leb (offset class number + words) (size_of z class)) 0 8))

-- the index of a reference's first word in the table
unfoldable pub start_of : Sizes → ℕ → ℕ → ℕ
start_of z class number = before z class + offset class number

-- how long a matrix may be that is asked for: as the level has it
abbrev pub longest_in : Sizes → ℕ
longest_in z = at_level single_length z.level

-- whether a matrix of n words at a reference is shown in a table of so many words
unfoldable pub shown : ℕ → Sizes → ℕ → ℕ → ℕ → Bool
unfolding reference_fault at_level
shown words z class number n =
    (allowed z && eqb words (total z)) && ((leb 1 n && leb n (longest_in z)) && (area class && eqb (reference_fault z class number n) 0))

-- the part of the table that is that matrix, or an empty part
unfoldable pub part : Table → Sizes → ℕ → ℕ → ℕ → Matrix
unfolding shown start_of
part t z class number n = cond (shown (length t) z class number n) (take n (drop (start_of z class number) t)) []
