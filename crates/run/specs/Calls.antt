-- The calls that the bench program makes, one after the other: what they put is what the bench prints. A call is known by its contract
-- alone, and a buffer that is lent may have held anything.
use Rattle.std.specs.Prelude.{ℕ, ◌+◌, ◌*◌, ◌%◌, ◌≤◌, ◌<◌, ◌≡◌, Bool, false, List, [], ◌++◌, length, take, drop, Some}
use Rattle.verdict.specs.Lists.{Words, Table, Bytes, Text}
use Rattle.verdict.specs.Promise.{Leaves, LeavesTwo}
use Rattle.verdict.specs.Verdict.{done, Said, said_by}
use Rattle.words.specs.declared.Converted.{Converted}
use Rattle.words.specs.Words.{words_count, to_words, filled}
use Rattle.table.specs.Table.{most_coils, most_discretes, most_inputs, most_holding}
use Rattle.network.specs.Network.{block_count}
use Rattle.network.specs.Check.{most_blocks}
use Rattle.file.specs.declared.checker.OpenedFile.{OpenedFile}
use Rattle.file.specs.File.{file_in, file_checked}
use Rattle.file.specs.Sound.{most_words}
use Rattle.file.specs.Start.{started, start_table}
use Rattle.text.specs.Text.{longest_line, refusal_line, place_after, laid}
use Rattle.run.specs.Bench.{visit_count, file_text, bench_text}
use Rattle.run.specs.Page.{Went, least_room, state_words, run_verdict, run_went, run_state, run_text}

-- ---- the run

-- Calls from a visit on: each is lent the state that the one before left, is asked to go on where that one stopped, and keeps its contract.
-- They stop when the last line is put. The text is what they put, one after the other.
pub data Pages (ws : Words) : List ℕ → ℕ → Text → Type 0 where
  no_more : {state : List ℕ} {from : ℕ} → visit_count (file_in ws) < from → Pages ws state from []
  one_more : {state left : List ℕ} {from : ℕ} (text : Text) {after rest : Text} {r : Went} →
      LeavesTwo (run_went ws state from (length text)) (run_state ws state from (length text)) (run_text ws state from text) r left after →
      Pages ws left r.next rest → Pages ws state from (take r.bytes after ++ rest)

-- of an accepted file, from visit 0 on its image, they put the file's text, wherever each stopped and whatever stood after the image
abbrev pub PagesArePrinted : Type 0
PagesArePrinted =
    (ws : Words) → (file_checked ws false).number ≡ 0 → (packs : List ℕ) → length packs ≡ block_count (file_in ws).network →
    (out : Text) → Pages ws ((file_in ws).image ++ packs) 0 out → out ≡ file_text (file_in ws)

-- and none of them stops short: with the least room a call goes on
abbrev pub NeverStuck : Type 0
NeverStuck =
    (ws : Words) → (file_checked ws false).number ≡ 0 → (state : List ℕ) → length state ≡ state_words (file_in ws) →
    (from : ℕ) → from ≤ visit_count (file_in ws) → (room : ℕ) → least_room ≤ room →
    ((run_verdict ws (length state) from room).number ≡ 0) × (from < (run_went ws state from room).next)

-- ---- the program, after it has read the bytes

-- the words of the largest state
abbrev pub most_state : ℕ
most_state = most_coils + most_discretes + most_inputs + most_holding + most_blocks

-- what is printed once a file is started: the refusal's line from a buffer with room for a line, or what the calls of the run put
pub data Printed (ws : Words) (o : Said OpenedFile) (begun : Table) : Text → Type 0 where
  refused : (o.verdict.number ≡ 0 → ⊥) → (text : Text) → longest_line ≤ length text → {n : ℕ} {after : Text} →
      Leaves (place_after 0 (refusal_line o.verdict) text) (laid 0 (refusal_line o.verdict) text) n after → Printed ws o begun (take n after)
  ran : {f : OpenedFile} → o.value ≡ Some f → {out : Text} → Pages ws (take (f.words + f.network.count) begun) 0 out → Printed ws o begun out

-- The bytes become words, a chunk at a time: each call is lent the words after those that the calls before put, has room, and keeps its
-- contract. Every chunk but the last has an even count of bytes. How many words they make, whether an odd byte is left, the words.
pub data Converts : Bytes → Words → ℕ → Bool → Words → Type 0 where
  last_chunk : {chunk : Bytes} {words left : Words} {c : Converted} → words_count chunk ≤ length words →
      Leaves (to_words chunk words) (filled chunk words) (said_by done c) left → Converts chunk words c.count c.odd left
  one_chunk : (chunk : Bytes) {rest : Bytes} {words left after : Words} {c : Converted} {count : ℕ} {odd : Bool} →
      length chunk % 2 ≡ 0 → words_count chunk ≤ length words → Leaves (to_words chunk words) (filled chunk words) (said_by done c) left →
      Converts rest (drop c.count left) count odd after → Converts (chunk ++ rest) words (c.count + count) odd (take c.count left ++ after)

-- of the words the file is started, on a table with room for a state
pub record Begins (bytes : Bytes) (words : Words) (table : Table) (count : ℕ) (odd : Bool) (words_left : Words) (o : Said OpenedFile) (begun : Table) : Type 0 where
  pub converts : Converts bytes words count odd words_left
  pub enough_table : most_state ≤ length table
  pub starts : Leaves (started (take count words_left) odd (length table)) (start_table (take count words_left) odd table) o begun

-- whatever the bytes are, exactly their text is printed
abbrev pub CallsPrint : Type 0
CallsPrint =
    (bytes : Bytes) (words : Words) (table : Table) (count : ℕ) (odd : Bool) (words_left : Words) (o : Said OpenedFile) (begun : Table) →
    Begins bytes words table count odd words_left o begun → (out : Text) → Printed (take count words_left) o begun out → out ≡ bench_text bytes

-- ---- the bytes that it reads: as many as the longest file has, and those of one word more, or any number above, are enough
abbrev pub most_bytes : ℕ
most_bytes = 2 * (most_words + 1)

abbrev pub FrontIsEnough : Type 0
FrontIsEnough = (bytes : Bytes) (n : ℕ) → most_bytes ≤ n → bench_text (take n bytes) ≡ bench_text bytes
