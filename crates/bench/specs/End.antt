-- How a run ends whose lines are all written, as a file's check decides.
use Rattle.std.specs.Prelude.{ℕ, Bool, cond, eqb, Result, Ok, Err}
use Rattle.verdict.specs.Lists.{Words, Bytes}
use Rattle.words.specs.Words.{words_in, odd_byte}
use Rattle.file.specs.File.{file_checked}
use Rattle.bench.specs.declared.{End.End, End.TheVariants.Written, End.TheVariants.Refused, Lost.Lost, Lost.TheVariants.Input, Lost.TheVariants.Output, Lost.TheVariants.Reader}

-- words, after which an odd byte may stand
abbrev pub end_of : Words → Bool → End
end_of ws odd = cond (eqb (file_checked ws odd).number 0) Written Refused

-- the bytes that are read
abbrev pub end_of_bytes : Bytes → End
end_of_bytes bytes = end_of (words_in bytes) (odd_byte bytes)

-- the status that tells it: every line is written, or the one line of the refusal; the output could not be written, the input could not
-- be read to its end, or whoever read the output went away
abbrev pub status_of : Result End Lost → ℕ
status_of (Ok Written) = 0
status_of (Ok Refused) = 1
status_of (Err Output) = 3
status_of (Err Input) = 4
status_of (Err Reader) = 5
