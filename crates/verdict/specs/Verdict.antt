-- The refusals' numbers and places, and what an answer says by them: the number and place, 0 and 0 where it is done, and the value
-- where it has one.
use Rattle.std.specs.Prelude.{ℕ, cond, eqb, Result, Ok, Err, Option, Some, None}
use Rattle.verdict.specs.declared.Fault.{Fault}
use Rattle.verdict.specs.declared.Fault.TheVariants.{Missing, Count, Limit, Kind, Length, Class, Start, Operand, Input, Coil, LeftOver, Call}
use Rattle.verdict.specs.declared.Refusal.{Refusal}

-- the number of each refusal
abbrev pub number_of : Fault → ℕ
number_of Missing = 1
number_of Count = 2
number_of Limit = 3
number_of Kind = 4
number_of Length = 5
number_of Class = 6
number_of Start = 7
number_of Operand = 8
number_of Input = 9
number_of Coil = 10
number_of LeftOver = 11
number_of Call = 12

abbrev pub refusal : Fault → ℕ → Refusal
refusal fault place = record { fault = fault; place = place }

-- a number and a place
pub record Verdict : Type 0 where
  pub number : ℕ
  pub place : ℕ

abbrev pub verdict : ℕ → ℕ → Verdict
verdict number place = record { number = number; place = place }

abbrev pub done : Verdict
done = verdict 0 0

-- a refusal of a call and not of a word has place 0
abbrev pub placeless : ℕ → Verdict
placeless number = verdict number 0

-- one verdict after another: the first that refuses
abbrev pub then : Verdict → Verdict → Verdict
then v w = cond (eqb v.number 0) w v

-- what an answer says: its number and place, and the value where it has one
pub record Said (A : Type 0) : Type 0 where
  pub verdict : Verdict
  pub value : Option A

-- a verdict, with the value where it is done
abbrev pub said_by : {A : Type 0} → Verdict → A → Said A
said_by v x = record { verdict = v; value = cond (eqb v.number 0) (Some x) None }

-- what an answer of the code says
abbrev pub numbered : {A : Type 0} → Result A Refusal → Said A
numbered (Ok x) = record { verdict = done; value = Some x }
numbered (Err r) = record { verdict = verdict (number_of r.fault) r.place; value = None }

-- the number of a test's refusal, 0 where it passes
abbrev pub fault_number : {A : Type 0} → Result A Fault → ℕ
fault_number (Ok x) = 0
fault_number (Err fault) = number_of fault

-- an answer, and what follows it where it is no refusal
abbrev pub and_then : {A B E : Type 0} → Result A E → (A → Result B E) → Result B E
and_then (Ok x) f = f x
and_then (Err e) f = Err e
