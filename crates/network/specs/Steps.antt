-- The words of a network as the code tests them, one after the other.
use Rattle.std.specs.Prelude.{ℕ, zero, suc, ◌+◌, ◌*◌, Bool, cond, leb, ltb, length, drop, Result, Ok, Err}
use Rattle.verdict.specs.Lists.{Words}
use Rattle.verdict.specs.declared.Fault.{Fault}
use Rattle.verdict.specs.declared.Fault.TheVariants.{Count, LeftOver}
use Rattle.verdict.specs.declared.Refusal.{Refusal}
use Rattle.verdict.specs.Verdict.{refusal, and_then}
use Rattle.section.specs.Walk.{word, reached}
use Rattle.table.specs.declared.sizes.Sizes.{Sizes}
use Rattle.areas.specs.Areas.{areas_end, areas_tested}
use Rattle.record.specs.Record.{record_words, block_in}
use Rattle.rules.specs.Judge.{tested}
use Rattle.network.specs.declared.checker.Opened.{Opened}
use Rattle.network.specs.Check.{most_blocks}

unfoldable pub records_tested : Sizes → Words → ℕ → ℕ → ℕ → Result Unit Refusal
records_tested z ws from j zero = Ok (tt {0})
records_tested z ws from j (suc n) =
    and_then (tested z j (block_in (drop (from + record_words * j) ws)) (from + record_words * j) (length ws)) (λ (_ : Unit).
    records_tested z ws from (j + 1) n)

abbrev pub few_test : Bool → Result Unit Fault
few_test few = cond few (Ok tt) (Err Count)

abbrev pub opened_by : Words → Sizes → Opened
opened_by ws z = record { sizes = z; count = word ws (areas_end ws); next = areas_end ws + 1 + record_words * word ws (areas_end ws) }

abbrev pub front_tested : Words → Result Opened Refusal
front_tested ws =
    and_then (areas_tested ws) (λ (z : Sizes).
    and_then (reached (few_test (leb (word ws (areas_end ws)) most_blocks)) (length ws) (areas_end ws + 0)) (λ (_ : Unit).
    and_then (records_tested z ws (areas_end ws + 1) 0 (word ws (areas_end ws))) (λ (_ : Unit).
    Ok (opened_by ws z))))

abbrev pub whole_tested : Words → Result Opened Refusal
whole_tested ws = and_then (front_tested ws) (λ (o : Opened). cond (ltb o.next (length ws)) (Err (refusal LeftOver (o.next + 1))) (Ok o))
