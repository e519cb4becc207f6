-- Names for lists of numbers, so that a definition says what it takes. Assumes nothing.
use Rattle.std.specs.Prelude.{ℕ, List}

-- the words of a network, of a file or of a record
abbrev pub Words : Type 0
Words = List ℕ

-- the words of the table
abbrev pub Table : Type 0
Table = List ℕ

-- the words of a matrix, which is a part of the table
abbrev pub Matrix : Type 0
Matrix = List ℕ

-- the bytes that are read
abbrev pub Bytes : Type 0
Bytes = List ℕ

-- the bytes that are printed
abbrev pub Text : Type 0
Text = List ℕ
