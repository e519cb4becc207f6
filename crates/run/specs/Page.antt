-- A call of the run: as many of a file's visits as have lines that surely fit into a lent buffer, from one visit on.
use Rattle.std.specs.Prelude.{ℕ, zero, suc, ◌+◌, ◌-◌, ◌*◌, ◌/◌, ◌%◌, cond, false, ◌&&◌, List, [], ◌++◌, leb, ltb, eqb, length, drop, Result, Ok, Err}
use Rattle.verdict.specs.Lists.{Words, Text}
use Rattle.verdict.specs.declared.Refusal.{Refusal}
use Rattle.run.specs.declared.Page.{Page}
use Rattle.verdict.specs.Verdict.{Verdict, number_of, verdict, done, then}
use Rattle.network.specs.Network.{Network, block_count}
use Rattle.file.specs.File.{File, table_words, file_in, file_checked}
use Rattle.text.specs.Text.{head_line, end_line, longest_line}
use Rattle.run.specs.Visits.{visited, visit_line, visits_state, visits_lines}
use Rattle.run.specs.Bench.{visit_count}

-- the first line stands before visit 0, the last line after the last visit
abbrev pub first_line : File → ℕ → Text
first_line f from = cond (eqb from 0) (head_line (block_count f.network) (table_words f)) []

abbrev pub last_line : File → ℕ → Text
last_line f next = cond (eqb next (visit_count f)) (end_line f.run) []

-- ---- how many visits

-- the bytes that the line of a visit may take in a run of at most 1000 scans
abbrev pub visit_room : ℕ
visit_room = 26

-- the least room of a call: for the first line, one visit, the last line
abbrev pub least_room : ℕ
least_room = 2 * longest_line + visit_room

-- of so many that are left from visit v on: one after the other, as long as there is room for whatever line the next may have
unfoldable pub fitting : Network → ℕ → ℕ → List ℕ → ℕ → ℕ
unfolding visit_line
fitting net v zero state room = zero
fitting net v (suc left) state room =
    cond (ltb room visit_room) zero
    (suc
    (fitting net (v + 1) left (visited net (v % block_count net) state)
    (room - length (visit_line net (v / block_count net + 1) (v % block_count net) state))))

-- of a file's, after the first line and with room kept for the last
abbrev pub many : File → List ℕ → ℕ → ℕ → ℕ
many f state from room = fitting f.network from (visit_count f - from) state (room - longest_line - length (first_line f from))

-- ---- the call, for a state of so many words and a buffer with so much room

-- how many words a state has: the table's, and one for each block
abbrev pub state_words : File → ℕ
state_words f = table_words f + block_count f.network

-- the file's refusals, then 12 for a state that has not exactly so many words, a visit that is past the file's, or a buffer with less
-- than the least room
unfoldable pub run_verdict : Words → ℕ → ℕ → ℕ → Verdict
run_verdict ws size from room =
    then (file_checked ws false)
    (cond (eqb size (state_words (file_in ws)) && (leb from (visit_count (file_in ws)) && leb least_room room)) done (verdict 12 0))

-- what m visits print, with the first line before them and the last after them where they stand there
unfoldable pub run_lines : File → List ℕ → ℕ → ℕ → Text
unfolding visits_lines head_line end_line
run_lines f state from m = first_line f from ++ visits_lines f.network from m state ++ last_line f (from + m)

-- those of a call
abbrev pub page : Words → List ℕ → ℕ → ℕ → Text
page ws state from room = run_lines (file_in ws) state from (many (file_in ws) state from room)

-- where to go on: the visit after those that were made; past the last visit where the last line is put
abbrev pub next_visit : File → ℕ → ℕ
next_visit f next = cond (eqb next (visit_count f)) (next + 1) next

-- what a call says: its verdict, the visit to go on from, and how many bytes it put
pub record Went : Type 0 where
  pub verdict : Verdict
  pub next : ℕ
  pub bytes : ℕ

abbrev pub went : Verdict → ℕ → ℕ → Went
went v next bytes = record { verdict = v; next = next; bytes = bytes }

unfoldable pub run_went : Words → List ℕ → ℕ → ℕ → Went
unfolding run_verdict run_lines fitting
run_went ws state from room =
    cond (eqb (run_verdict ws (length state) from room).number 0)
    (went done (next_visit (file_in ws) (from + many (file_in ws) state from room)) (length (page ws state from room)))
    (went (run_verdict ws (length state) from room) from 0)

-- what the answer of a call from a visit on says: a refused one goes on there, and has put nothing
abbrev pub went_from : ℕ → Result Page Refusal → Went
went_from from (Ok p) = went done p.next p.bytes
went_from from (Err r) = went (verdict (number_of r.fault) r.place) from 0

unfoldable pub run_state : Words → List ℕ → ℕ → ℕ → List ℕ
unfolding run_verdict visits_state fitting
run_state ws state from room =
    cond (eqb (run_verdict ws (length state) from room).number 0)
    (visits_state (file_in ws).network from (many (file_in ws) state from room) state) state

-- the lines at the front; what stands after them stays
unfoldable pub run_text : Words → List ℕ → ℕ → Text → Text
unfolding run_verdict run_lines fitting
run_text ws state from text =
    cond (eqb (run_verdict ws (length state) from (length text)).number 0)
    (page ws state from (length text) ++ drop (length (page ws state from (length text))) text)
    text
