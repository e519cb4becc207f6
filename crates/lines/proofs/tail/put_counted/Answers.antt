use Rattle.text.specs.Text.{decimal}
use Rattle.text.proofs.Labels.{end_put}
use Rattle.lines.proofs.tail.put_counted.Goals as goal

pub returns : goal.returns
returns c =
    let x = c.args in
    end_put (decimal x.pointer) x.count c.put_number-next.ensures c.put_bytes-next.ensures c.put_number-next-2.ensures c.put_bytes.ensures
