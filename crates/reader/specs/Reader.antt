-- A reader over lent words: opened on a network, it gives the record of block k. Assumes nothing.
use Rattle.std.specs.Prelude.{ℕ, ◌≡◌, Result, Ok, Err, None}
use Rattle.std.specs.Borrow.{Bor}
use Rattle.verdict.specs.Lists.{Words}
use Rattle.verdict.specs.declared.Refusal.{Refusal}
use Rattle.verdict.specs.Verdict.{Said, numbered}
use Rattle.record.specs.declared.Block.{Block}
use Rattle.network.specs.declared.checker.Opened.{Opened}
use Rattle.network.specs.Check.{opened, checked, read_at, read}
use Rattle.reader.specs.declared.Reader.{Reader}

-- a reader opened on lent words: it holds the caller's own words, and what opening them finds
pub record OpenedOn (lent : Bor Words) (reader : Reader) : Type 0 where
  pub holds : reader.words ≡ lent
  pub knows : numbered reader.found ≡ opened lent.now

-- the record of block k of words, by what opening them found
abbrev pub read_by : Words → Result Opened Refusal → ℕ → Said Block
read_by ws (Ok o) k = read_at ws o k
read_by ws (Err r) k = numbered (Err r)

-- Opened on words, it gives exactly the record of block k of these words, or their refusal.
abbrev pub GivesRecord : Type 0
GivesRecord = (lent : Bor Words) (reader : Reader) (k : ℕ) → OpenedOn lent reader → read_by reader.words.now reader.found k ≡ read lent.now k

-- Opened on refused words, it gives the checker's refusal and no record, whatever k.
abbrev pub GivesRefusal : Type 0
GivesRefusal =
    (lent : Bor Words) (reader : Reader) (k : ℕ) → OpenedOn lent reader → ((checked lent.now).number ≡ 0 → ⊥)
    → read_by reader.words.now reader.found k ≡ record { verdict = checked lent.now; value = None }
