-- The lines of a run: a first line with blocks and table words, a line for each block of each scan, a last line with the scans.
-- Fields are parted by a space, lines end in a line feed; bytes are ASCII.
use Rattle.std.specs.Prelude.{ℕ, zero, suc, ◌+◌, ◌*◌, ◌/◌, ◌%◌, ◌^◌, ◌<◌, ◌≡◌, Bool, cond, [], ◌∷◌, ◌++◌, leb, ltb, length, take, drop}
use Rattle.verdict.specs.Lists.{Text}
use Rattle.verdict.specs.Verdict.{Verdict}
use Rattle.io.specs.Digits.{IsDigitCount, last_digits as kit_digits}
use Rattle.blocks.specs.declared.Outputs.{Outputs}
use Rattle.blocks.specs.Kind.{has_pointer}
use Rattle.blocks.specs.Work.{shows}

-- ---- numbers

-- how many decimal digits a number takes; every number that is printed is a word, so that it has at most five
unfoldable pub places : ℕ → ℕ
places n = cond (ltb n 10) 1 (cond (ltb n 100) 2 (cond (ltb n 1000) 3 (cond (ltb n 10000) 4 5)))

-- the last k decimal digits of a number, the highest first
unfoldable pub digits : ℕ → ℕ → Text
digits zero n = []
digits (suc k) n = digits k (n / 10) ++ (48 + n % 10) ∷ []

unfoldable pub decimal : ℕ → Text
unfolding places digits
decimal n = digits (places n) n

-- a number and a space
abbrev pub field : ℕ → Text
field n = decimal n ++ 32 ∷ []

-- ---- one line: scan, block, top, middle, bottom, pointer, count

-- 0 or 1 for an output
abbrev pub digit : Bool → ℕ
digit on = cond on 49 48

abbrev pub output_fields : Outputs → Text
output_fields out = digit out.top ∷ 32 ∷ digit out.middle ∷ 32 ∷ digit out.bottom ∷ 32 ∷ []

-- the pointer, or `-` for kinds without one
abbrev pub no_pointer : Text
no_pointer = 45 ∷ []

unfoldable pub pointer_field : ℕ → ℕ → Text
unfolding decimal
pointer_field kind pointer = cond (has_pointer kind) (decimal pointer) no_pointer

-- its end: the pointer's field and the count
abbrev pub line_end : Text → ℕ → Text
line_end mark count = mark ++ 32 ∷ decimal count ++ 10 ∷ []

unfoldable pub line : ℕ → ℕ → Outputs → Text → Text
unfolding decimal
line s k out mark = field s ++ field k ++ output_fields out ++ line_end mark out.count

-- ---- the first line, `blocks B words W`, and the last, `end S`
unfoldable pub head_line : ℕ → ℕ → Text
unfolding decimal
head_line count table =
    98 ∷ 108 ∷ 111 ∷ 99 ∷ 107 ∷ 115 ∷ 32 ∷ decimal count ++ 32 ∷ 119 ∷ 111 ∷ 114 ∷ 100 ∷ 115 ∷ 32 ∷ decimal table ++ 10 ∷ []

unfoldable pub end_line : ℕ → Text
unfolding decimal
end_line scans = 101 ∷ 110 ∷ 100 ∷ 32 ∷ decimal scans ++ 10 ∷ []

-- ---- the one line of a refusal, `refused`, number, place
unfoldable pub refusal_line : Verdict → Text
unfolding decimal
refusal_line v = 114 ∷ 101 ∷ 102 ∷ 117 ∷ 115 ∷ 101 ∷ 100 ∷ 32 ∷ field v.number ++ decimal v.place ++ 10 ∷ []

-- ---- the digits of a number are those of the kit's `io::decimal`, and there are no more than it needs
abbrev pub AsTheKit : Type 0
AsTheKit = (n : ℕ) → n < 65536 → IsDigitCount 10 1 n (places n) × (decimal n ≡ kit_digits 10 (places n) n)

-- ---- for the calls

-- ---- a line from labels: scan and block with their spaces, each kept as a machine word by whoever prints many lines

-- the k low bytes of a number, the lowest first
unfoldable pub low : ℕ → ℕ → Text
low zero x = []
low (suc k) x = x % 256 ∷ low k (x / 256)

-- the text of a label: as many of its low bytes as its highest byte says; any machine word is a label, of at most seven bytes
abbrev pub label_text : ℕ → Text
label_text x = low (x / 2 ^ 56 % 8) x

-- the number that has these bytes, the lowest first
unfoldable pub value_of : Text → ℕ
value_of [] = 0
value_of (byte ∷ rest) = byte + 256 * value_of rest

-- the label of a number and a space: their bytes, and in the highest byte how many there are
unfoldable pub label_of : ℕ → ℕ
unfolding decimal value_of
label_of n = value_of (field n) + length (field n) * 2 ^ 56

-- the line that has the texts of two labels for scan and block
unfoldable pub labelled_line : ℕ → ℕ → Outputs → Text → Text
unfolding low decimal
labelled_line scan block out mark = label_text scan ++ label_text block ++ output_fields out ++ line_end mark out.count

-- outputs of a kind that counts nothing
abbrev pub uncounted : Outputs → Outputs
uncounted out = shows out.top out.middle out.bottom 0

-- ---- a line laid into a buffer from a place on

-- the bytes that a line may take; where fewer are left from the place on, nothing is laid
abbrev pub longest_line : ℕ
longest_line = 32

abbrev pub line_fits : ℕ → ℕ → Bool
line_fits room at = leb (at + longest_line) room

-- the place after the line
abbrev pub place_after : ℕ → Text → Text → ℕ
place_after at bytes text = cond (line_fits (length text) at) (at + length bytes) at

-- the buffer that holds it; every other byte stays
abbrev pub laid : ℕ → Text → Text → Text
laid at bytes text = cond (line_fits (length text) at) (take at text ++ (bytes ++ drop (at + length bytes) text)) text
