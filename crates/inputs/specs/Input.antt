-- The power that a block's inputs pass: never, always, a contact, or an output of an earlier block in this scan.
use Rattle.std.specs.Prelude.{ℕ, ◌-◌, Bool, true, false, not, cond, List, eqb, get_or}
use Rattle.verdict.specs.Lists.{Table}
use Rattle.bits.specs.Bit.{bit}
use Rattle.runs.specs.Run.{run}
use Rattle.record.specs.declared.{Input.Input, Inputs.Inputs}
use Rattle.network.specs.Network.{Network}
use Rattle.blocks.specs.declared.{Power.Power, Outputs.Outputs}
use Rattle.blocks.specs.Answer.{no_outputs}

-- the bit of a coil, and of a discrete input: reference 1 is worth 32768 in its area's first word
abbrev pub coil : Network → Table → ℕ → Bool
coil net t number = bit (run t 0 net.sizes.coils) number

abbrev pub discrete_input : Network → Table → ℕ → Bool
discrete_input net t number = bit (run t net.sizes.coils net.sizes.discretes) number

-- the outputs of an earlier block numbered from 1
abbrev pub of_block : List Outputs → ℕ → Outputs
of_block outs number = get_or outs (number - 1) no_outputs

-- Codes: 0 never, 1 always; 2 and 3 open and closed contact of a coil, 4 and 5 of a discrete input: an open contact passes
-- power when its bit is 1, a closed one when it is 0; 6, 7, 8 the top, middle, bottom output of an earlier block. No input that
-- the checker takes has another code.
unfoldable pub passes : Network → Table → List Outputs → Input → Bool
passes net t outs input =
    cond (eqb input.code 0) false
    (cond (eqb input.code 1) true
    (cond (eqb input.code 2) (coil net t input.number)
    (cond (eqb input.code 3) (not (coil net t input.number))
    (cond (eqb input.code 4) (discrete_input net t input.number)
    (cond (eqb input.code 5) (not (discrete_input net t input.number))
    (cond (eqb input.code 6) (of_block outs input.number).top
    (cond (eqb input.code 7) (of_block outs input.number).middle
    (of_block outs input.number).bottom)))))))

abbrev pub power_on : Network → Table → List Outputs → Inputs → Power
power_on net t outs inputs = record {
  top = passes net t outs inputs.top;
  middle = passes net t outs inputs.middle;
  bottom = passes net t outs inputs.bottom;
}
