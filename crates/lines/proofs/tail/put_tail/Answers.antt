use Rattle.std.proofs.Common.{arith, sym, ap}
use Rattle.text.specs.Text.{places, digits, decimal}
use Rattle.text.proofs.Putting.{put_as}
use Rattle.text.proofs.Labels.{uncounted_put}
use Rattle.lines.specs.Tail.{tail_text}
use Rattle.lines.specs.declared.tail.Tail.{Tail}
use Rattle.lines.proofs.tail.put_tail.Goals as goal

pub returns-in-Plain : goal.returns-in-Plain
unfolding tail_text decimal digits places
returns-in-Plain c = put_as (omega arith) (sym (ap (λ (t : Tail). tail_text t c.args.count) c.in-Plain.is)) c.put_bytes.ensures

pub returns-in-Pointed : goal.returns-in-Pointed
unfolding tail_text
returns-in-Pointed c =
    put_as (omega arith) (sym (ap (λ (t : Tail). tail_text t c.args.count) c.in-Pointed.is))
    (uncounted_put (decimal c.in-Pointed.pointer) c.put_number-next.ensures c.put_bytes-in-Pointed.ensures)

pub returns-in-Compared : goal.returns-in-Compared
unfolding tail_text
returns-in-Compared c =
    put_as (omega arith) (sym (ap (λ (t : Tail). tail_text t c.args.count) c.in-Compared.is)) c.put_counted.ensures
