-- What a kind's call answers and leaves, by the indexes of a block's words, for a table of any length: the outputs, and the destination and
-- the pointer written; or a refusal, at place 0, and then nothing changes.
use Rattle.std.specs.Prelude.{ℕ, ◌≡◌, false, Result, Ok, Err}
use Rattle.verdict.specs.Lists.{Table}
use Rattle.runs.specs.Run.{unless}
use Rattle.verdict.specs.declared.Refusal.{Refusal}
use Rattle.verdict.specs.Verdict.{Verdict, number_of, verdict, placeless}
use Rattle.blocks.specs.declared.{Power.Power, Outputs.Outputs}
use Rattle.blocks.specs.Effect.{Effect}
use Rattle.blocks.specs.Work.{effect_put, shows, outputs}

-- the verdict on a block, and its outputs, which are all off where it is refused
pub record Worked : Type 0 where
  pub verdict : Verdict
  pub outputs : Outputs

abbrev pub no_outputs : Outputs
no_outputs = shows false false false 0

-- a block that has done its work, and one that is refused
abbrev pub finished : Outputs → Worked
finished out = record { verdict = placeless 0; outputs = out }

abbrev pub refused : ℕ → Worked
refused number = record { verdict = placeless number; outputs = no_outputs }

-- what a call's answer says: a refusal shows no outputs
abbrev pub worked : Result Outputs Refusal → Worked
worked (Ok out) = finished out
worked (Err r) = record { verdict = verdict (number_of r.fault) r.place; outputs = no_outputs }

-- unless a refusal is earned, an effect's outputs, and its destination, the n words from d on, and then its pointer, at p, written
pub record Does (number : ℕ) (on : Power) (e : Effect) (d n p : ℕ) (t : Table) (r : Worked) (table : Table) : Type 0 where
  pub answers : r ≡ unless number (finished (outputs on e)) (refused number)
  pub leaves : table ≡ unless number (effect_put d n p e t) t
