use Rattle.std.proofs.Common.{arith, sym, ◌∙◌, ◌/◌, ◌%◌, ◌^◌}
use Rattle.text.proofs.Putting.{put_as, put_reaching}
use Rattle.text.proofs.Labels.{low_length, low_eight, low_over}
use Rattle.lines.proofs.put_label.Goals as goal

pub returns : goal.returns
returns c =
    let x = c.args.label in
    low_over (x / 2 ^ 56 % 8) x (omega arith)
    (put_reaching 8 (low_length 8 x) (put_as (omega arith) (c.to_le_bytes.ensures ∙ sym (low_eight x)) c.put_bytes.ensures))
