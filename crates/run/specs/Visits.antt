-- A run goes by visits: visit v, counted from 0, is that of block v % count + 1 in scan v / count + 1. What the block finds is a state, the
-- table and after it a word for each block, its outputs when it was last visited, packed; the visit leaves a state and prints a line.
-- Assumes nothing.
use Rattle.std.specs.Prelude.{ℕ, zero, suc, ◌+◌, ◌/◌, ◌%◌, List, [], ◌++◌, map, take, drop, set}
use Rattle.verdict.specs.Lists.{Table, Text}
use Rattle.table.specs.Table.{total}
use Rattle.network.specs.Network.{Network, block_count, block_of}
use Rattle.blocks.specs.declared.{Power.Power, Outputs.Outputs}
use Rattle.blocks.specs.Work.{block_outputs, block_table}
use Rattle.blocks.specs.Packed.{packed, unpacked}
use Rattle.inputs.specs.Input.{power_on}
use Rattle.scan.specs.Scans.{pointer_of}
use Rattle.text.specs.Text.{pointer_field, line}

-- a state: its table, and the packed outputs after it
abbrev pub table_in : Network → List ℕ → Table
table_in net state = take (total net.sizes) state

abbrev pub packs_in : Network → List ℕ → List ℕ
packs_in net state = drop (total net.sizes) state

-- ---- the visit of block k + 1, whose scan's k earlier blocks have their outputs in the state

-- the power on its inputs, its outputs, and the table that it leaves
abbrev pub visit_power : Network → ℕ → List ℕ → Power
visit_power net k state = power_on net (table_in net state) (map unpacked (take k (packs_in net state))) (block_of net k).inputs

abbrev pub visit_outputs : Network → ℕ → List ℕ → Outputs
visit_outputs net k state = block_outputs net (block_of net k) (table_in net state) (visit_power net k state)

abbrev pub visit_table : Network → ℕ → List ℕ → Table
visit_table net k state = block_table net (block_of net k) (table_in net state) (visit_power net k state)

-- the state that it leaves
unfoldable pub visited : Network → ℕ → List ℕ → List ℕ
visited net k state = visit_table net k state ++ set (packs_in net state) k (packed (visit_outputs net k state))

-- its line in scan s
unfoldable pub visit_line : Network → ℕ → ℕ → List ℕ → Text
unfolding line pointer_field
visit_line net s k state =
    line s (k + 1) (visit_outputs net k state) (pointer_field (block_of net k).kind (pointer_of net (block_of net k) (visit_table net k state)))

-- ---- m visits from visit v on

-- the state after them
unfoldable pub visits_state : Network → ℕ → ℕ → List ℕ → List ℕ
visits_state net v zero state = state
visits_state net v (suc m) state = visited net ((v + m) % block_count net) (visits_state net v m state)

-- their lines, in order
unfoldable pub visits_lines : Network → ℕ → ℕ → List ℕ → Text
unfolding visit_line visits_state
visits_lines net v zero state = []
visits_lines net v (suc m) state =
    visits_lines net v m state ++ visit_line net ((v + m) / block_count net + 1) ((v + m) % block_count net) (visits_state net v m state)
