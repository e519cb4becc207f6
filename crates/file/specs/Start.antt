-- The start of a file's run: the table holds the image at its front. Assumes nothing.
use Rattle.std.specs.Prelude.{ℕ, ◌≡◌, Bool, cond, ◌++◌, leb, eqb, length, take, drop}
use Rattle.verdict.specs.Lists.{Words, Table}
use Rattle.verdict.specs.Verdict.{Verdict, verdict, done, then, Said}
use Rattle.file.specs.declared.checker.OpenedFile.{OpenedFile}
use Rattle.file.specs.File.{table_words, file_in, file_checked, opened_file_with}

-- the check's refusal, or 12 where a table of so many words has fewer than the areas together
unfoldable pub start_verdict : Words → Bool → ℕ → Verdict
start_verdict ws odd size = then (file_checked ws odd) (cond (leb (table_words (file_in ws)) size) done (verdict 12 0))

abbrev pub started : Words → Bool → ℕ → Said OpenedFile
started ws odd size = opened_file_with ws (start_verdict ws odd size)

-- the table: the image, and after it the words that were there
unfoldable pub start_table : Words → Bool → Table → Table
start_table ws odd t =
    cond (eqb (start_verdict ws odd (length t)).number 0) ((file_in ws).image ++ drop (table_words (file_in ws)) t) t

-- Where a start is not refused, the table begins with the file's image.
abbrev pub ImageFirst : Type 0
ImageFirst =
    (ws : Words) (odd : Bool) (t : Table) → (start_verdict ws odd (length t)).number ≡ 0
    → take (table_words (file_in ws)) (start_table ws odd t) ≡ (file_in ws).image
