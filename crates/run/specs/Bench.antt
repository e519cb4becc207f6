-- What the bench prints, for any bytes: the one line of a refusal, or the first line, the lines of
-- the visits, and the last line. Assumes nothing.
use Rattle.std.specs.Prelude.{ℕ, ◌*◌, ◌≡◌, Bool, cond, List, ◌∷◌, ◌++◌, eqb, replicate}
use Rattle.verdict.specs.Lists.{Words, Bytes, Text}
use Rattle.words.specs.Words.{words_in, odd_byte}
use Rattle.network.specs.Network.{block_count}
use Rattle.file.specs.File.{File, table_words, file_in, file_checked}
use Rattle.text.specs.Text.{head_line, end_line, refusal_line}
use Rattle.run.specs.Visits.{visits_lines}

-- how many visits a file's run has: one for each block in each scan
abbrev pub visit_count : File → ℕ
visit_count f = f.run * block_count f.network

-- the state before the first: the image, and no output is on
abbrev pub first_state : File → List ℕ
first_state f = f.image ++ replicate (block_count f.network) 0

-- a file: the first line, the lines of its visits, the last line
unfoldable pub file_text : File → Text
unfolding visits_lines head_line end_line
file_text f =
    head_line (block_count f.network) (table_words f) ++ visits_lines f.network 0 (visit_count f) (first_state f) ++ end_line f.run

-- words, after which an odd byte may stand
unfoldable pub words_text : Words → Bool → Text
unfolding file_text refusal_line
words_text ws odd = cond (eqb (file_checked ws odd).number 0) (file_text (file_in ws)) (refusal_line (file_checked ws odd))

-- the bytes that are read
abbrev pub bench_text : Bytes → Text
bench_text bytes = words_text (words_in bytes) (odd_byte bytes)

-- Count 4 means Level 1: words that are accepted without the level print the same with level 1 after their sizes.
abbrev pub LevelOnePrints : Type 0
LevelOnePrints =
    (coils discretes inputs holding : ℕ) (rest : Words) (odd : Bool) →
    let short : Words = 4 ∷ coils ∷ discretes ∷ inputs ∷ holding ∷ rest in
    let long : Words = 5 ∷ coils ∷ discretes ∷ inputs ∷ holding ∷ 1 ∷ rest in
    (file_checked short odd).number ≡ 0 → words_text long odd ≡ words_text short odd
