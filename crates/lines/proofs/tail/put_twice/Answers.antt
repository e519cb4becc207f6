use Rattle.std.proofs.Common.{arith, ◌+◌, ◌≤◌, length}
use Rattle.text.specs.Text.{decimal}
use Rattle.text.proofs.Putting.{put_long}
use Rattle.text.proofs.Laying.{places_few}
use Rattle.text.proofs.Labels.{end_put}
use Rattle.lines.proofs.tail.put_twice.Goals as goal

pub put_digits-next-requires : goal.put_digits-next-requires
put_digits-next-requires g c =
    let x = c.args in
    let room : x.at + g.row.N ≤ length x.text.now = omega (arith, c.requires.0, c.requires.1, places_few x.n) in
    (c.requires.0, room)

pub put_digits-next-requires-2 : goal.put_digits-next-requires-2
put_digits-next-requires-2 g c =
    let p = c.put_digits-next.ensures in
    let q = c.put_bytes-next.ensures in
    let room : c.put_bytes-next.result + g.row.N ≤ length c.put_bytes-next.new.text =
    omega (arith, c.requires.0, c.requires.1, places_few c.args.n, p.few, p.reaches, put_long p, q.reaches, put_long q)
    in
    (c.requires.0, room)

pub returns : goal.returns
returns g c =
    let n = c.args.n in
    end_put (decimal n) n c.put_digits-next.ensures c.put_bytes-next.ensures c.put_digits-next-2.ensures c.put_bytes.ensures
