-- The round trips of a record between reader and writer. Assumes nothing.
use Rattle.std.specs.Prelude.{ℕ, ◌-◌, ◌≤◌, ◌≡◌, length}
use Rattle.verdict.specs.Lists.{Words}
use Rattle.verdict.specs.Verdict.{done}
use Rattle.verdict.specs.Verdict.{said_by}
use Rattle.runs.specs.Run.{run, placed}
use Rattle.record.specs.declared.Block.{Block}
use Rattle.record.specs.Record.{record_words}
use Rattle.network.specs.Network.{block_count}
use Rattle.network.specs.Check.{network_in, checked, record_start, read}
use Rattle.writer.specs.Writer.{write_verdict, write_buffer}

-- words that the checker accepts, and of which the reader gives b as the record of block k
pub record Reads (ws : Words) (k : ℕ) (b : Block) : Type 0 where
  pub accepted : checked ws ≡ done
  pub is_read : read ws k ≡ said_by done b

-- A record that the writer, given a network's sizes and k, puts at block k of the network's words leaves words that are accepted, and
-- is read back from them.
abbrev pub WrittenIsRead : Type 0
WrittenIsRead =
    (ws : Words) (k : ℕ) (b : Block) (buffer : Words) → (checked ws).number ≡ 0 → 1 ≤ k → k ≤ block_count (network_in ws)
    → (write_verdict (network_in ws).sizes k b (length buffer)).number ≡ 0
    → Reads (placed ws (record_start ws (k - 1)) (write_buffer (network_in ws).sizes k b buffer)) k b

-- the writer is not refused, and writes the words that stand at block k
pub record SameWords (ws : Words) (k : ℕ) (b : Block) (buffer : Words) : Type 0 where
  pub is_written : write_verdict (network_in ws).sizes k b (length buffer) ≡ done
  pub words : write_buffer (network_in ws).sizes k b buffer ≡ run ws (record_start ws (k - 1)) record_words

-- A record that the reader gives as the record of block k is written back as the words that it was read from.
abbrev pub ReadIsWritten : Type 0
ReadIsWritten =
    (ws : Words) (k : ℕ) (b : Block) (buffer : Words) → read ws k ≡ said_by done b → length buffer ≡ record_words → SameWords ws k b buffer
