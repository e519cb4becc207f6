use Rattle.std.proofs.Common.{arith, refl}
use Rattle.text.proofs.Putting.{over_long, over_few, put_as, put_reaching}
use Rattle.text.proofs.Labels.{label_few, front_put}
use Rattle.lines.proofs.put_front.Goals as goal

pub put_label-next-requires-2 : goal.put_label-next-requires-2
put_label-next-requires-2 c = omega (arith, c.requires, over_few c.put_label-next.ensures, c.put_label-next.ensures.reaches, over_long c.put_label-next.ensures)

pub put_bytes-requires : goal.put_bytes-requires
put_bytes-requires c = omega (arith, label_few c.args.scan, label_few c.args.block, c.requires, over_few c.put_label-next-2.ensures, c.put_label-next-2.ensures.reaches, over_long c.put_label-next-2.ensures, over_few c.put_label-next.ensures, c.put_label-next.ensures.reaches, over_long c.put_label-next.ensures)

pub returns : goal.returns
returns c =
    let x = c.args in
    front_put x.scan x.block x.out c.put_label-next.ensures c.put_label-next-2.ensures
    (put_reaching 8 refl (put_as (omega arith) c.output_fields.ensures c.put_bytes.ensures))
