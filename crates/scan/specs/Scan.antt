-- One scan: blocks run in order; a block takes its three inputs from the table as earlier blocks left it and from earlier
-- outputs.
use Rattle.std.specs.Prelude.{ℕ, cond, ◌&&◌, List, [], ◌∷◌, ◌++◌, map, eqb, leb, length, drop}
use Rattle.verdict.specs.Lists.{Words, Table}
use Rattle.record.specs.declared.Block.{Block}
use Rattle.table.specs.Table.{total}
use Rattle.network.specs.Network.{Network, block_count}
use Rattle.verdict.specs.Verdict.{Verdict, verdict, done, then}
use Rattle.network.specs.Check.{checked, network_in}
use Rattle.blocks.specs.declared.Outputs.{Outputs}
use Rattle.blocks.specs.Work.{block_outputs, block_table}
use Rattle.blocks.specs.Packed.{packed}
use Rattle.inputs.specs.Input.{power_on}

-- the table, and the outputs of the blocks that have run
pub record State : Type 0 where
  pub table : Table
  pub outs : List Outputs

-- a table before the first block, when there are no outputs yet
abbrev pub fresh : Table → State
fresh t = record { table = t; outs = [] }

-- one block
unfoldable pub step : Network → Block → State → State
step net b s = record {
  table = block_table net b s.table (power_on net s.table s.outs b.inputs);
  outs = s.outs ++ block_outputs net b s.table (power_on net s.table s.outs b.inputs) ∷ [];
}

-- blocks in order
unfoldable pub steps : Network → List Block → State → State
steps net [] s = s
steps net (b ∷ bs) s = steps net bs (step net b s)

-- the state after a scan of a network
abbrev pub scanned : Network → Table → State
scanned net t = steps net net.blocks (fresh t)

-- the network's refusals, then 12 for a table that has not exactly the words of the areas, or outputs shorter than the count: of a
-- table and of a list it takes how long they are
unfoldable pub scan_verdict : Words → ℕ → ℕ → Verdict
scan_verdict ws size room =
    then (checked ws) (cond (eqb size (total (network_in ws).sizes) && leb (block_count (network_in ws)) room) done (verdict 12 0))

-- the table after the scan, for outputs with so much room
unfoldable pub scan_table : Words → Table → ℕ → Table
unfolding scan_verdict steps
scan_table ws t room = cond (eqb (scan_verdict ws (length t) room).number 0) (scanned (network_in ws) t).table t

-- the outputs in a lent list of records, one for each block; entries after the count stay
unfoldable pub scan_records : Words → Table → List Outputs → List Outputs
unfolding scan_verdict steps
scan_records ws t list =
    cond (eqb (scan_verdict ws (length t) (length list)).number 0) ((scanned (network_in ws) t).outs ++ drop (block_count (network_in ws)) list) list

-- the same in a list of numbers, each a record packed
unfoldable pub scan_packed : Words → Table → List ℕ → List ℕ
unfolding scan_verdict steps
scan_packed ws t numbers =
    cond (eqb (scan_verdict ws (length t) (length numbers)).number 0)
    (map packed (scanned (network_in ws) t).outs ++ drop (block_count (network_in ws)) numbers) numbers
