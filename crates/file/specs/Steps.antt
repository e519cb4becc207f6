-- The words of a file as the code tests them, one after the other.
use Rattle.std.specs.Prelude.{ℕ, ◌+◌, Bool, cond, ◌||◌, eqb, ltb, length, Result, Ok, Err}
use Rattle.verdict.specs.Lists.{Words}
use Rattle.verdict.specs.declared.Fault.{Fault}
use Rattle.verdict.specs.declared.Fault.TheVariants.{Missing, Count, Limit, LeftOver}
use Rattle.verdict.specs.declared.Refusal.{Refusal}
use Rattle.verdict.specs.Verdict.{refusal, and_then}
use Rattle.section.specs.Limit.{counted_test}
use Rattle.section.specs.Walk.{word, reached}
use Rattle.table.specs.Table.{total}
use Rattle.network.specs.declared.checker.Opened.{Opened}
use Rattle.network.specs.Steps.{front_tested}
use Rattle.file.specs.declared.checker.OpenedFile.{OpenedFile}
use Rattle.file.specs.declared.checker.Rest.{Rest}
use Rattle.file.specs.File.{most_scans}

abbrev pub count_test : Bool → Result Unit Fault
count_test allows = cond allows (Ok tt) (Err Count)

-- an image's count, and then its words, which only have to be there
abbrev pub image_tested : Words → ℕ → ℕ → Result Unit Refusal
image_tested ws at table =
    and_then (reached (count_test (eqb (word ws at) table)) (length ws) at) (λ (_ : Unit).
    cond (ltb (length ws) (at + 1 + table)) (Err (refusal Missing (length ws + 1))) (Ok tt))

-- a run's count, and then its scans
abbrev pub run_tested : Words → ℕ → Result Unit Refusal
run_tested ws at =
    and_then (reached (count_test (eqb (word ws at) 1)) (length ws) at) (λ (_ : Unit).
    reached (counted_test most_scans (word ws (at + 1)) Limit) (length ws) (at + 1))

-- both, and then nothing
abbrev pub tail_tested : Words → ℕ → ℕ → Bool → Result Unit Refusal
tail_tested ws at table odd =
    and_then (image_tested ws at table) (λ (_ : Unit).
    and_then (run_tested ws (at + 1 + table)) (λ (_ : Unit).
    cond (ltb (at + 1 + table + 2) (length ws) || odd) (Err (refusal LeftOver (at + 1 + table + 2 + 1))) (Ok tt)))

-- what is spelled after a network that ends before an index, where the table has so many words
abbrev pub rest_by : Words → ℕ → ℕ → Rest
rest_by ws at table = record { image = at + 1; words = table; scans = word ws (at + 1 + table + 1) }

-- what stands after an opened network
abbrev pub file_by : Words → Opened → OpenedFile
file_by ws o = record { network = o; image = o.next + 1; words = total o.sizes; scans = word ws (o.next + 1 + total o.sizes + 1) }

abbrev pub file_tested : Words → Bool → Result OpenedFile Refusal
file_tested ws odd =
    and_then (front_tested ws) (λ (o : Opened). and_then (tail_tested ws o.next (total o.sizes) odd) (λ (_ : Unit). Ok (file_by ws o)))
