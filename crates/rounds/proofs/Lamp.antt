-- MBIT's middle lamp: what is true of a block in its turn is carried to the scan's outputs, to what the calls leave and to what the bench
-- prints. Assumes nothing.
use mathlib.Core.Path.{ap, ◌∙◌}
use Rattle.words.specs.Words.{words_in, odd_byte}
use Rattle.network.specs.Network.{block_of}
use Rattle.network.specs.Check.{network_in}
use Rattle.file.specs.File.{File, file_in}
use Rattle.blocks.specs.declared.Outputs.{Outputs}
use Rattle.blocks.proofs.Modified.{middle_follows}
use Rattle.scan.specs.Scans.{scans_table}
use Rattle.rounds.specs.Demand3.{visit, power_at}
use Rattle.rounds.specs.Bench.{report_in}
use Rattle.rounds.specs.Lamp.{LampScanned, LampRecords, LampPacked, LampPrinted}
use Rattle.rounds.proofs.Visits.{own_output}
use Rattle.rounds.proofs.Called.{records_show, numbers_show}
use Rattle.rounds.proofs.Printed.{said_count, said_lit}

pub lamp_scanned : LampScanned
lamp_scanned net i M t =
    ap (λ (out : Outputs). out.middle) (own_output net t i M.there)
    ∙ middle_follows net (block_of net i) (visit net i t).table M.modifies (power_at net i t)

pub lamp_records : LampRecords
lamp_records ws i m lent left lists records answers K M j l =
    ap (λ (out : Outputs). out.middle) (records_show ws i m lent left lists records answers K M.there j l)
    ∙ lamp_scanned (network_in ws) i M (lent j)

pub lamp_packed : LampPacked
lamp_packed ws i m lent left lists numbers answers K M j l =
    ap (λ (out : Outputs). out.middle) (numbers_show ws i m lent left lists numbers answers K M.there j l)
    ∙ lamp_scanned (network_in ws) i M (lent j)

pub lamp_printed : LampPrinted
lamp_printed bytes fine i M =
    let f : File = file_in (words_in bytes) in
    record {
      for_each = said_count (words_in bytes) (odd_byte bytes) fine i M.there report_in;
      lit_where_it_lights = λ j l.
          said_lit (words_in bytes) (odd_byte bytes) fine i M.there j l ∙ lamp_scanned f.network i M (scans_table f.network f.image j);
    }
