-- What is read of a reader whose bytes are known, and appended to a writer whose bytes are, all of a text or a beginning; what a run prints
-- on any state.
use Rattle.std.specs.Prelude.{ℕ, ◌≤◌, ◌≢◌, ◌⊎◌, Bool, List, ◌++◌, length, take, Option, Result, Ok, Err}
use Rattle.std.specs.Io.KnownBytes.{Appends, Consumes, IsAtEnd}
use Rattle.verdict.specs.Lists.{Words, Bytes, Text}
use Rattle.network.specs.Network.{block_count}
use Rattle.file.specs.File.{File, table_words}
use Rattle.text.specs.Text.{head_line, end_line}
use Rattle.run.specs.Visits.{visits_lines}
use Rattle.run.specs.Bench.{visit_count}
use Rattle.run.specs.Calls.{Converts, most_bytes}
use Rattle.bench.specs.declared.{Lost.Lost, Lost.TheVariants.Input}

-- the reader's first bytes become words: all of them, or as many as decide what is printed
abbrev pub ReadsFront : Option (List ℕ) → Option (List ℕ) → Words → ℕ → Bool → Words → Type 0
ReadsFront old new words count odd left =
    (taken : Bytes) × Consumes old new taken × Converts taken words count odd left × ((most_bytes ≤ length taken) ⊎ IsAtEnd new)

-- a beginning of the text is appended
abbrev pub AppendsFront : Option (List ℕ) → Option (List ℕ) → Text → Type 0
AppendsFront old new text = (n : ℕ) × (n ≤ length text) × Appends old new (take n text)

-- what a call that writes a text did: it appended the text, or it failed after a beginning of it, and not for the input
abbrev pub Writes : {A : Type 0} → Option (List ℕ) → Option (List ℕ) → Text → Result A Lost → Type 0
Writes old new text (Ok x) = Appends old new text
Writes old new text (Err lost) = AppendsFront old new text × (lost ≢ Input)

-- what a file's run prints on a state; on the one before the first visit it is the file's text
abbrev pub text_on : File → List ℕ → Text
text_on f state =
    head_line (block_count f.network) (table_words f) ++ visits_lines f.network 0 (visit_count f) state ++ end_line f.run
