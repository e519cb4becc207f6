use Rattle.std.proofs.Common.{arith, ◌∙◌, sym}
use native.Mathlib.Nat.{le_refl}
use Rattle.text.specs.Text.{decimal}
use Rattle.text.specs.Inner.{Put}
use Rattle.text.proofs.Laying.{decimal_few}
use Rattle.text.proofs.Putting.{put_long, put_one, put_then, put_as, put_few}
use Rattle.text.proofs.Labels.{low_eight, label_width, label_digits}
use Rattle.ends.proofs.put.put_field.Goals as goal
use Rattle.ends.proofs.put.put_field.Goals.{After-put_bytes-next}

put_label : (c : After-put_bytes-next) → Put 5 c.args.text.now c.args.at (decimal c.args.n) c.put_bytes-next.result c.put_bytes-next.new.text
put_label c =
    let n = c.args.n in
    put_few (decimal_few n)
    (put_as (le_refl _) (label_digits n c.label-word.ensures (c.to_le_bytes.ensures ∙ sym (low_eight c.label-word.result))) c.put_bytes-next.ensures)

pub overflow_sub-digits : goal.overflow_sub-digits
overflow_sub-digits c = omega (arith, label_width c.args.n c.label-word.ensures)

pub bounds-text-next : goal.bounds-text-next
bounds-text-next c =
    let p = put_label (goal.at.bounds-text-next c).After-put_bytes-next in
    omega (arith, p.few, p.reaches, put_long p)

pub returns : goal.returns
returns c =
    let p = put_label (goal.at.returns c).After-put_bytes-next in
    put_then p (put_one _ _ c.args.byte (omega (arith, p.few, p.reaches, put_long p)))
