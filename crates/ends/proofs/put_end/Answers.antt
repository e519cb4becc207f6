-- `ends::put_end` meets its contract: the word and the scans, one after the other.
use native.Mathlib.Omega.{arith}
use mathlib.Core.Path.{◌≡◌, refl, sym, ◌∙◌}
use mathlib.Core.Bool.{true}
use Prim.Native.Nat.{◌+◌, ◌≤◌}
use lib.ListN.{length}
use Rattle.verdict.specs.Promise.{Leaves}
use Rattle.text.specs.Text.{end_line, longest_line, line_fits, place_after, laid}
use Rattle.text.proofs.Putting.{put_long, put_then, put_as}
use Rattle.text.proofs.Laying.{room_left, put_laid}
use Rattle.ends.proofs.put_end.Goals as goal
use Rattle.ends.proofs.put_end.Goals.{Else-not-line_fits, After-put_field}

-- the line fits, where the test says so
fitting : (c : Else-not-line_fits) → let x = c.args in line_fits (length x.text.now) x.at ≡ true
fitting c = sym c.line_fits.ensures ∙ c.if-not-line_fits.false

room : (c : Else-not-line_fits) → let x = c.args in x.at + longest_line ≤ length x.text.now
room c = let x = c.args in room_left (length x.text.now) x.at (fitting c)

pub put_bytes-next-requires : goal.put_bytes-next-requires
put_bytes-next-requires c = omega (arith, room (goal.at.put_bytes-next-requires c).Else-not-line_fits)

pub put_field-requires : goal.put_field-requires
put_field-requires c = omega (arith, room (goal.at.put_field-requires c).Else-not-line_fits, c.put_bytes-next.ensures.few, c.put_bytes-next.ensures.reaches, put_long c.put_bytes-next.ensures)

laid_line : (c : After-put_field) → let x = c.args in
    line_fits (length x.text.now) x.at ≡ true → Leaves (place_after x.at (end_line x.scans) x.text.now) (laid x.at (end_line x.scans) x.text.now) c.put_field.result c.put_field.new.text
unfolding end_line
laid_line c e =
    let x = c.args in
    put_laid {bytes = end_line x.scans} e (put_as (omega arith) refl (put_then c.put_bytes-next.ensures c.put_field.ensures))

pub returns-clause-answer : goal.returns-clause-answer
returns-clause-answer c = (laid_line (goal.at.returns-clause-answer c).After-put_field (fitting (goal.at.returns-clause-answer c).Else-not-line_fits)).answers

pub returns-clause-text : goal.returns-clause-text
returns-clause-text c = (laid_line (goal.at.returns-clause-text c).After-put_field (fitting (goal.at.returns-clause-text c).Else-not-line_fits)).leaves
