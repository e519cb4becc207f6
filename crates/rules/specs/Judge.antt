-- The words of a record as the code tests them, one after the other: each step has what the steps before it found.
use Rattle.std.specs.Prelude.{ℕ, ◌+◌, ◌*◌, cond, Result, Ok, Err}
use Rattle.verdict.specs.declared.Fault.{Fault}
use Rattle.verdict.specs.declared.Fault.TheVariants.{Kind as NoKind, Length, Class as NoClass, Input as NoInput, Coil}
use Rattle.verdict.specs.declared.Refusal.{Refusal}
use Rattle.verdict.specs.Verdict.{and_then}
use Rattle.section.specs.Limit.{counted_test, up_to_test}
use Rattle.section.specs.Walk.{reached}
use Rattle.level.specs.Level.{at_level}
use Rattle.table.specs.declared.sizes.Sizes.{Sizes}
use Rattle.table.specs.Area.{reference_test}
use Rattle.record.specs.declared.{Block.Block}
use Rattle.rules.specs.declared.codes.Kind.{Kind}
use Rattle.rules.specs.declared.codes.Class.{Class}
use Rattle.rules.specs.declared.codes.Class.TheVariants.{Area as AnArea, Constant}
use Rattle.rules.specs.declared.codes.Source.{Source}
use Rattle.rules.specs.declared.codes.Source.TheVariants.{Never, Always, OpenCoil, ClosedCoil, OpenDiscrete, ClosedDiscrete, TopOutput, MiddleOutput, BottomOutput}
use Rattle.rules.specs.declared.codes.Unknown.{Unknown}
use Rattle.rules.specs.declared.rules.Classes.{Classes}
use Rattle.rules.specs.Rules.{rule, allows}
use Rattle.rules.specs.Codes.{kind_number, class_number, kind_from, class_from, source_from}
use Rattle.rules.specs.Fault.{constant_in, top_words}

-- an unknown number is a fault
abbrev pub faulting : {A : Type 0} → Fault → Result A Unknown → Result A Fault
faulting fault (Ok x) = Ok x
faulting fault (Err e) = Err fault

abbrev pub kind_test : ℕ → Result Kind Fault
kind_test n = faulting NoKind (kind_from n)

abbrev pub source_test : ℕ → Result Source Fault
source_test n = faulting NoInput (source_from n)

abbrev pub class_test : Classes → ℕ → Result Class Fault
class_test classes n = and_then (faulting NoClass (class_from n)) (λ c. cond (allows classes (class_number c)) (Ok c) (Err NoClass))

abbrev pub number_test : Sizes → Class → ℕ → ℕ → Result Unit Fault
number_test z (AnArea a) number words = reference_test z a number words
number_test z Constant number words = up_to_test (constant_in z) number NoClass

abbrev pub contact_test : Sizes → ℕ → Source → ℕ → Result Unit Fault
contact_test z earlier Never number = up_to_test 0 number NoInput
contact_test z earlier Always number = up_to_test 0 number NoInput
contact_test z earlier OpenCoil number = counted_test (16 * z.coils) number NoInput
contact_test z earlier ClosedCoil number = counted_test (16 * z.coils) number NoInput
contact_test z earlier OpenDiscrete number = counted_test (16 * z.discretes) number NoInput
contact_test z earlier ClosedDiscrete number = counted_test (16 * z.discretes) number NoInput
contact_test z earlier TopOutput number = counted_test earlier number NoInput
contact_test z earlier MiddleOutput number = counted_test earlier number NoInput
contact_test z earlier BottomOutput number = counted_test earlier number NoInput

unfoldable pub tested : Sizes → ℕ → Block → ℕ → ℕ → Result Unit Refusal
tested z earlier b at size =
    and_then (reached (kind_test b.kind) size (at + 0)) (λ k.
    and_then (reached (counted_test (at_level (rule (kind_number k)).most z.level) b.n Length) size (at + 1)) (λ _.
    and_then (reached (class_test (rule (kind_number k)).top b.top.class) size (at + 2)) (λ c.
    and_then (reached (number_test z c b.top.number (top_words (rule (kind_number k)).pointer b.n)) size (at + 3)) (λ _.
    and_then (reached (class_test (rule (kind_number k)).middle b.middle.class) size (at + 4)) (λ d.
    and_then (reached (number_test z d b.middle.number (b.n + (rule (kind_number k)).extra)) size (at + 5)) (λ _.
    and_then (reached (source_test b.inputs.top.code) size (at + 6)) (λ s.
    and_then (reached (contact_test z earlier s b.inputs.top.number) size (at + 7)) (λ _.
    and_then (reached (source_test b.inputs.middle.code) size (at + 8)) (λ t.
    and_then (reached (contact_test z earlier t b.inputs.middle.number) size (at + 9)) (λ _.
    and_then (reached (source_test b.inputs.bottom.code) size (at + 10)) (λ u.
    and_then (reached (contact_test z earlier u b.inputs.bottom.number) size (at + 11)) (λ _.
    and_then (reached (up_to_test (16 * z.coils) b.coils.top Coil) size (at + 12)) (λ _.
    and_then (reached (up_to_test (16 * z.coils) b.coils.middle Coil) size (at + 13)) (λ _.
    reached (up_to_test (16 * z.coils) b.coils.bottom Coil) size (at + 14)))))))))))))))
