-- `scan::located::blocks_of` meets its contract: the reader gives each block.
use Rattle.std.proofs.Common.{◌≡◌, ◌<◌, ◌∙◌, sym, arith}
use Rattle.std.specs.Prelude.{Result, Ok}
use lib.ListN.{length-set}
use Rattle.verdict.specs.declared.Refusal.{Refusal}
use Rattle.record.specs.declared.Block.{Block}
use Rattle.network.specs.Check.{network_in}
use Rattle.network.specs.Network.{block_of}
use Rattle.scan.proofs.Scanning.{sizes_are, below_most, next_read}
use Rattle.scan.proofs.Locating.{one_filled, is_located}
use Rattle.scan.proofs.located.blocks_of.Goals as goal
use Rattle.scan.proofs.located.blocks_of.Goals.{After-record_at}

module _ (c : After-record_at) where
  abbrev inside : c.loop-k.k < c.args.opened.count
  inside = omega (arith, c.loop-k-test.true, c.count-k-end.ensures)

  few : c.loop-k.k < 128
  few = below_most c.args.words.now c.args.opened c.loop-k.k c.requires inside

  read : c.record_at.result ≡ Ok (block_of (network_in c.args.words.now) c.loop-k.k)
  read = next_read c.args.words.now c.args.opened c.loop-k.k c.requires inside c.record_at.result c.record_at.ensures

pub returns-in_default : goal.returns-in_default
returns-in_default c = absurd (c.in_default.not-Ok _ (read (goal.at.returns-in_default c).After-record_at))

pub bounds-blocks-k : goal.bounds-blocks-k
bounds-blocks-k c = few (goal.at.bounds-blocks-k c).After-record_at

pub loop-k-preserved : goal.loop-k-preserved
loop-k-preserved c =
    let x = c.args in
    let o = c.loop-k.invariant in
    let net = network_in x.words.now in
    let same : ◌≡◌ {A = Result Block Refusal} (Ok c.in-Ok.block) (Ok (block_of net c.loop-k.k)) = sym c.in-Ok.is ∙ read (goal.at.loop-k-preserved c).After-record_at in
    let block : c.in-Ok.block ≡ block_of net c.loop-k.k = cc in
    record {
      entries = length-set c.loop-k.blocks c.loop-k.k _ ∙ o.entries;
      filled = one_filled net c.loop-k.blocks o.filled (omega (arith, o.entries, few (goal.at.loop-k-preserved c).After-record_at))
          (c.located.ensures ∙ is_located net c.loop-k.k (c.sizes.ensures ∙ sizes_are x.words.now c.requires.opens) block);
    }
