-- A plan: what a run needs of each block of a network, worked out once.
--
-- A run's state is a list of words: the table, and after it one word for each block, its outputs packed, top worth 1,
-- middle 2, bottom 4. So the outputs of block 1 stand at the index that is the table's total, those of block 2 after it.
use Rattle.std.specs.Prelude.{ℕ, zero, suc, ◌+◌, ◌-◌, ◌/◌, ◌%◌, ◌^◌, true, false, cond, eqb, ltb, length, take, drop, replicate, Option, Some, None}
use mathlib.Core.List.{List, [], ◌∷◌, ◌++◌, map}
use Rattle.verdict.specs.Lists.{Words}
use Rattle.table.specs.declared.sizes.Sizes.{Sizes}
use Rattle.table.specs.Table.{start_of}
use Rattle.matrix.specs.declared.logic.Operation.TheVariants.{And, Or, Xor, Comp}
use Rattle.record.specs.declared.{Node.Node, Input.Input, Block.Block}
use Rattle.network.specs.declared.checker.Opened.{Opened}
use Rattle.network.specs.Network.{Network}
use Rattle.network.specs.Check.{most_blocks, read_at}
use Rattle.pointed.specs.declared.place.Place.{Place}
use Rattle.kinds.specs.declared.task.Work.{Work}
use Rattle.pointed.specs.declared.place.Place.TheVariants as place
use Rattle.kinds.specs.declared.task.Work.TheVariants as work
use Rattle.plan.specs.declared.{Look.Look, Spot.Spot, Step.Step}
use Rattle.plan.specs.declared.Look.TheVariants.{Fixed, Contact, Earlier}
use Rattle.plan.specs.declared.Output.TheVariants.{Top, Middle, Bottom}

-- the one bit of a word that is discrete i's, counted from 0: the first of sixteen is worth 32768
abbrev pub mask_of : ℕ → ℕ
mask_of i = 2 ^ (15 - i % 16)

-- ---- an input. Codes: 0 never and 1 always; 2 and 3 open and closed contact of a coil, 4 and 5 of a discrete input; 6, 7, 8 the top,
-- middle, bottom output of an earlier block, counted from 0.
unfoldable pub look_of : Sizes → Input → Look
look_of z input =
    cond (eqb input.code 0) (Fixed false)
    (cond (eqb input.code 1) (Fixed true)
    (cond (eqb input.code 2) (Contact ((input.number - 1) / 16) (mask_of (input.number - 1)) (mask_of (input.number - 1)))
    (cond (eqb input.code 3) (Contact ((input.number - 1) / 16) (mask_of (input.number - 1)) 0)
    (cond (eqb input.code 4) (Contact (z.coils + (input.number - 1) / 16) (mask_of (input.number - 1)) (mask_of (input.number - 1)))
    (cond (eqb input.code 5) (Contact (z.coils + (input.number - 1) / 16) (mask_of (input.number - 1)) 0)
    (cond (eqb input.code 6) (Earlier (input.number - 1) Top)
    (cond (eqb input.code 7) (Earlier (input.number - 1) Middle)
    (Earlier (input.number - 1) Bottom))))))))

-- ---- a coil: an index and the mask of its bit there
abbrev pub spot : ℕ → ℕ → Spot
spot at mask = record { at = at; mask = mask }

unfoldable pub spot_of : ℕ → Option Spot
spot_of number = cond (eqb number 0) None (Some (spot ((number - 1) / 16) (mask_of (number - 1))))

-- ---- a pointer, and a block's work; a number of no kind has a work that is refused
unfoldable pub place_of : Sizes → Node → Place
place_of z node =
    cond (eqb node.class 9) (place.Constant node.number)
    (cond (eqb node.class 4) (place.Holding (start_of z node.class node.number)) (place.Input (start_of z node.class node.number)))

unfoldable pub work_of : Sizes → Block → Work
work_of z b =
    cond (eqb b.kind 1) (work.Combine And (start_of z b.top.class b.top.number) (start_of z b.middle.class b.middle.number))
    (cond (eqb b.kind 2) (work.Combine Or (start_of z b.top.class b.top.number) (start_of z b.middle.class b.middle.number))
    (cond (eqb b.kind 3) (work.Combine Xor (start_of z b.top.class b.top.number) (start_of z b.middle.class b.middle.number))
    (cond (eqb b.kind 4) (work.Combine Comp (start_of z b.top.class b.top.number) (start_of z b.middle.class b.middle.number))
    (cond (eqb b.kind 5) (work.Compare (start_of z b.top.class b.top.number) (start_of z b.middle.class b.middle.number))
    (cond (eqb b.kind 6) (work.Modify (place_of z b.top) (start_of z b.middle.class b.middle.number))
    (cond (eqb b.kind 7) (work.Sense (place_of z b.top) (start_of z b.middle.class b.middle.number))
    (cond (eqb b.kind 8) (work.Rotate (start_of z b.top.class b.top.number) (start_of z b.middle.class b.middle.number))
    work.Unknown)))))))

-- ---- a block's step
unfoldable pub step_of : Sizes → Block → Step
step_of z b = record {
  work = work_of z b;
  n = b.n;
  inputs = look_of z b.inputs.top ∷ look_of z b.inputs.middle ∷ look_of z b.inputs.bottom ∷ [];
  coils = spot_of b.coils.top ∷ spot_of b.coils.middle ∷ spot_of b.coils.bottom ∷ [];
}

-- ---- a lent list with the steps of blocks, one after the other, at its front; what stands after them stays
abbrev pub steps_put : Sizes → List Block → List Step → List Step
steps_put z blocks old = map (step_of z) blocks ++ drop (length blocks) old

-- how many of so many blocks have room for their steps in a list: the smaller of the two
abbrev pub planned_count : ℕ → ℕ → ℕ
planned_count count room = cond (ltb room count) room count

-- a block that the reader gives, before others; where it refuses there is none
abbrev pub given : Option Block → List Block → List Block
given None rest = []
given (Some b) rest = b ∷ rest

-- the blocks that the reader gives from block k + 1 on, m at most, until it refuses
unfoldable pub reads : Words → Opened → ℕ → ℕ → List Block
reads ws o k zero = []
reads ws o k (suc m) = given (read_at ws o (k + 1)).value (reads ws o (suc k) m)

-- those of an opened network whose steps have room among so many
abbrev pub planned_blocks : Words → Opened → ℕ → List Block
planned_blocks ws o room = reads ws o 0 (planned_count o.count room)

unfoldable pub plan_put : Words → Opened → List Step → List Step
plan_put ws o old = steps_put o.sizes (planned_blocks ws o (length old)) old

-- ---- a network's plan, in a list with room for the steps of 128 blocks, which had no steps
abbrev pub no_step : Step
no_step = record { work = work.Unknown; n = 0; inputs = Fixed false ∷ Fixed false ∷ Fixed false ∷ []; coils = None ∷ None ∷ None ∷ [] }

-- what stands where a list has no step
abbrev pub absent : Step
absent = record { work = work.Combine And 0 0; n = 0; inputs = []; coils = [] }

unfoldable pub no_steps : List Step
no_steps = replicate most_blocks no_step

unfoldable pub plan_of : Network → List Step
plan_of net = steps_put net.sizes (take most_blocks net.blocks) no_steps
