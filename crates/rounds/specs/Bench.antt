-- Demand 3 for what the bench prints, from which the crew's list is read. Assumes nothing.
use Rattle.std.specs.Prelude.{ℕ, ◌+◌, ◌-◌, ◌*◌, ◌≤◌, ◌≡◌, cond, ◌&&◌, eqb, length, get_or, take, drop}
use mathlib.Core.List.{List, [], ◌∷◌, flat_map}
use Rattle.std.proofs.Math.Option.{Option, none, some}
use Rattle.verdict.specs.Lists.{Bytes, Text}
use Rattle.words.specs.Words.{words_in, odd_byte}
use Rattle.file.specs.File.{file_in, file_checked}
use Rattle.scan.specs.Scans.{scans_table}
use Rattle.run.specs.Bench.{bench_text}
use Rattle.rounds.specs.Demand3.{Steady, round_at, RoundAt}

-- ---- reading the text

-- the parts of a text between the places where a byte stands
abbrev pub onto : ℕ → List Text → List Text
onto x [] = (x ∷ []) ∷ []
onto x (part ∷ parts) = (x ∷ part) ∷ parts

unfoldable pub parted : ℕ → Text → List Text
parted byte [] = [] ∷ []
parted byte (x ∷ text) = cond (eqb x byte) ([] ∷ parted byte text) (onto x (parted byte text))

-- the number that decimal digits spell, after those read before
unfoldable pub number_from : ℕ → Text → ℕ
number_from before [] = before
number_from before (x ∷ text) = number_from (before * 10 + (x - 48)) text

abbrev pub number_in : Text → ℕ
number_in text = number_from 0 text

-- What a line says of block k, given its fields: where there are seven and the second is k, what is read in them. Any other line says
-- nothing of it.
abbrev pub fields_say : {A : Type 0} → (List Text → A) → ℕ → List Text → List A
fields_say read k fields = cond (eqb (length fields) 7 && eqb (number_in (get_or fields 1 [])) k) (read fields ∷ []) []

-- the report: the sixth field, the pointer, if the fourth, the middle output, is 1, and else none; and the count: the seventh
abbrev pub report_in : List Text → Option ℕ
report_in fields = cond (eqb (number_in (get_or fields 3 [])) 1) (some (number_in (get_or fields 5 []))) none

abbrev pub count_in : List Text → ℕ
count_in fields = number_in (get_or fields 6 [])

-- what a text says of block k, line by line
abbrev pub line_says : {A : Type 0} → (List Text → A) → ℕ → Text → List A
line_says read k line = fields_say read k (parted 32 line)

unfoldable pub text_says : {A : Type 0} → (List Text → A) → ℕ → Text → List A
unfolding parted number_from
text_says read k text = flat_map (line_says read k) (parted 10 text)

-- ---- the demand

-- Of an accepted file whose block i + 1 meets the premises over its scans, the text says one thing of that block for each scan, and in any c
-- successive scans these are a round.
pub record ShowsRounds (bytes : Bytes) (i : ℕ) : Type 0 where
  pub for_each : length (text_says report_in (i + 1) (bench_text bytes)) ≡ (file_in (words_in bytes)).run
  pub rounds : (j : ℕ) → let f = file_in (words_in bytes) in let given = scans_table f.network f.image in
      j + round_at f.network i given j ≤ f.run →
      RoundAt f.network i given j (take (round_at f.network i given j) (drop j (text_says report_in (i + 1) (bench_text bytes))))

abbrev pub Demand3Bench : Type 0
Demand3Bench =
    (bytes : Bytes) → (file_checked (words_in bytes) (odd_byte bytes)).number ≡ 0 → let f = file_in (words_in bytes) in
    (i : ℕ) → Steady f.network i f.run (scans_table f.network f.image) → ShowsRounds bytes i
