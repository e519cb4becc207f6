-- `outputs::scan` meets its contract: the list is filled from the numbers of the blocks.
use Rattle.std.proofs.Common.{◌≡◌, ◌≤◌, ◌∙◌, length, sym, arith}
use lib.ListN.{take}
use Rattle.outputs.proofs.Recording.{few, room_for, front_count, list_kept, list_filled}
use Rattle.outputs.proofs.scan.Goals as goal
use Rattle.outputs.proofs.scan.Goals.{In_ok-count}

pub returns-in_err-count-clause-outputs : goal.returns-in_err-count-clause-outputs
returns-in_err-count-clause-outputs c =
    let x = c.args in list_kept x.words.now x.table.now x.outputs.now c.in_err-count.field-0.0 c.in_err-count.ensures.answer

-- the numbers of the blocks
module _ (c : In_ok-count) where
  whole : length (take c.in_ok-count.count c.numbers_of.new.numbers) ≡ c.in_ok-count.count
  whole =
      let x = c.args in
      front_count x.words.now x.table.now x.outputs.now c.in_ok-count.count c.in_ok-count.ensures.answer c.numbers_of.new.numbers c.numbers_of.ensures.numbers

  inside : c.in_ok-count.count ≤ length c.args.outputs.now
  inside = let x = c.args in room_for x.words.now x.table.now x.outputs.now c.in_ok-count.count c.in_ok-count.ensures.answer

pub slice_bounds-numbers-end : goal.slice_bounds-numbers-end
slice_bounds-numbers-end c =
    let x = c.args in
    let l = few x.words.now x.table.now x.outputs.now c.in_ok-count.count c.in_ok-count.ensures.answer in
    omega (arith, l, c.type_inv.numbers)

pub slice_bounds-fill-end : goal.slice_bounds-fill-end
slice_bounds-fill-end c = sym (whole (goal.at.slice_bounds-fill-end c).In_ok-count)

pub fill-requires : goal.fill-requires
fill-requires c = omega (arith, whole (goal.at.fill-requires c).In_ok-count, inside (goal.at.fill-requires c).In_ok-count)

pub returns-clause-outputs : goal.returns-clause-outputs
returns-clause-outputs c =
    let x = c.args in
    c.fill.ensures
    ∙ list_filled x.words.now x.table.now x.outputs.now c.in_ok-count.count c.in_ok-count.ensures.answer c.numbers_of.new.numbers c.numbers_of.ensures.numbers
