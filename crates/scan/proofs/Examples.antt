-- The cases P1 to P14, computed by the definitions.
use mathlib.Core.Path.{refl}
use mathlib.Core.Bool.{xor}
use mathlib.Core.List.{flat_map}
use Rattle.bits.specs.Bit.{bit, value, matrix}
use Rattle.matrix.specs.Logic.{combined}
use Rattle.search.specs.Search.{first}
use Rattle.matrix.specs.Move.{moved}
use Rattle.pointer.specs.Pointer.{reset, in_range, advanced}
use Rattle.table.specs.Table.{reference_fault, start_of}
use Rattle.areas.specs.Areas.{sizes_faults, areas_section}
use Rattle.rules.specs.Rules.{rule, allows}
use Rattle.record.specs.Record.{block_in, spelled}
use Rattle.network.specs.Network.{words_of}
use Rattle.rules.specs.Fault.{faults}
use Rattle.section.specs.Walk.{seek}
use Rattle.section.specs.Section.{section_earns, earned, meaning, judged_from, whole, records_earn, records_in}
use Rattle.network.specs.Check.{block_faults, blocks_section, network_in, checked}
use Rattle.blocks.specs.Work.{block_outputs, block_table}
use Rattle.inputs.specs.Input.{passes}
use Rattle.scan.specs.Scan.{step, steps, scan_verdict, scan_table, scan_records}
use Rattle.scan.specs.Cases.{AsDocument01}

pub as_document_01 : AsDocument01
unfolding scan_verdict scan_table scan_records step steps passes block_table block_outputs
    combined first moved reset in_range advanced start_of matrix value bit xor
    words_of flat_map spelled network_in meaning records_in block_in
    checked whole judged_from earned section_earns records_earn areas_section sizes_faults blocks_section block_faults seek faults reference_fault rule allows
as_document_01 = (refl, refl, refl)
