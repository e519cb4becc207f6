-- What the contracts of the crate's own functions cite, beside the definitions that a caller reads: what a block's step says, and what a
-- visit may rely on.
use Rattle.std.specs.Prelude.{ℕ, zero, suc, ◌+◌, ◌-◌, ◌*◌, ◌/◌, ◌%◌, ◌≤◌, ◌<◌, ◌≡◌, Bool, false, List, [], ◌++◌, length, get_or, take, drop, Option, None}
use Rattle.verdict.specs.Lists.{Words, Text}
use Rattle.table.specs.Table.{total}
use Rattle.network.specs.Network.{Network, block_count, block_of}
use Rattle.network.specs.Check.{most_blocks}
use Rattle.network.specs.Sound.{GoodNetwork}
use Rattle.file.specs.declared.checker.OpenedFile.{OpenedFile}
use Rattle.file.specs.File.{file_in, file_checked, opened_file_value}
use Rattle.blocks.specs.declared.{Power.Power, Outputs.Outputs}
use Rattle.text.specs.Text.{decimal, no_pointer, uncounted, label_of, longest_line}
use Rattle.text.specs.Inner.{Put}
use Rattle.pointed.specs.declared.place.Place.{Place}
use Rattle.kinds.specs.declared.task.Work.{Work}
use Rattle.pointed.specs.declared.place.Place.TheVariants.{Constant, Input, Holding}
use Rattle.kinds.specs.declared.task.Work.TheVariants.{Combine, Compare, Modify, Sense, Rotate, Unknown}
use Rattle.kinds.specs.Tasks.{task_answer, task_table}
use Rattle.plan.specs.declared.{Look.Look, Spot.Spot, Step.Step}
use Rattle.plan.specs.declared.Look.TheVariants.{Fixed}
use Rattle.plan.specs.Plan.{step_of, absent, plan_of}
use Rattle.plan.specs.Seen.{sees, look_inside, spot_put, spot_inside}
use Rattle.run.specs.declared.{Page.Page, visits.Course.Course, visits.Turn.Turn, visits.Reached.Reached}
use Rattle.run.specs.Visits.{visit_outputs, visited, visit_line, visits_state, visits_lines}
use Rattle.run.specs.Bench.{visit_count}
use Rattle.run.specs.Page.{visit_room, least_room, fitting, many, state_words, next_visit, page}

-- ---- what a step says, over a state whose table has so many words

-- its inputs and its coils, by their order
abbrev pub look_at : Step → ℕ → Look
look_at step j = get_or step.inputs j (Fixed false)

abbrev pub spot_at : Step → ℕ → Option Spot
spot_at step j = get_or step.coils j None

-- the power on its inputs
abbrev pub power : Bool → Bool → Bool → Power
power top middle bottom = record { top = top; middle = middle; bottom = bottom }

abbrev pub power_seen : List ℕ → ℕ → Step → Power
power_seen state size step = power (sees state size (look_at step 0)) (sees state size (look_at step 1)) (sees state size (look_at step 2))

-- the part of it that its work reads: AND to COMP only the top input, CMPR not the bottom one
abbrev pub power_read : Work → Power → Power
power_read (Combine operation s d) on = power on.top false false
power_read (Compare s p) on = power on.top on.middle false
power_read (Modify p d) on = on
power_read (Sense p s) on = on
power_read (Rotate s d) on = on
power_read Unknown on = on

abbrev pub power_in : List ℕ → ℕ → Step → Power
power_in state size step = power_read step.work (power_seen state size step)

-- its work on the table of a state: its outputs, which a refusal has off, and the state afterwards
abbrev pub work_outputs : List ℕ → ℕ → Step → Outputs
work_outputs state size step = (task_answer step.work step.n (take size state) (power_in state size step)).outputs

abbrev pub work_state : List ℕ → ℕ → Step → List ℕ
work_state state size step = task_table step.work step.n (take size state) (power_in state size step) ++ drop size state

-- three coils
abbrev pub spots_put : List ℕ → Step → Outputs → List ℕ
spots_put state step out =
    spot_put (spot_put (spot_put state (spot_at step 0) out.top) (spot_at step 1) out.middle) (spot_at step 2) out.bottom

-- a pointer, and where it has to lie
abbrev pub shown_at : List ℕ → Place → ℕ
shown_at state (Constant v) = v
shown_at state (Input at) = get_or state at 0
shown_at state (Holding at) = get_or state at 0

abbrev pub place_inside : ℕ → Place → Type 0
place_inside words (Constant v) = 0 ≤ words
place_inside words (Input at) = at < words
place_inside words (Holding at) = at < words

-- where a work's pointer has to lie, what stands for it in a line, and whether the line tells the count
abbrev pub pointer_inside : ℕ → Work → Type 0
pointer_inside words (Combine operation s d) = 0 ≤ words
pointer_inside words (Compare s p) = p < words
pointer_inside words (Modify p d) = place_inside words p
pointer_inside words (Sense p s) = place_inside words p
pointer_inside words (Rotate s d) = 0 ≤ words
pointer_inside words Unknown = 0 ≤ words

abbrev pub field_in : List ℕ → Work → Text
field_in state (Combine operation s d) = no_pointer
field_in state (Compare s p) = decimal (get_or state p 0)
field_in state (Modify p d) = decimal (shown_at state p)
field_in state (Sense p s) = decimal (shown_at state p)
field_in state (Rotate s d) = no_pointer
field_in state Unknown = no_pointer

abbrev pub told : Work → Outputs → Outputs
told (Combine operation s d) out = uncounted out
told (Compare s p) out = out
told (Modify p d) out = uncounted out
told (Sense p s) out = uncounted out
told (Rotate s d) out = uncounted out
told Unknown out = uncounted out

-- ---- what the functions ask for

-- the step's looks are into a state of so many words
pub record Looking (step : Step) (words size : ℕ) : Type 0 where
  pub top : look_inside words size (look_at step 0)
  pub middle : look_inside words size (look_at step 1)
  pub bottom : look_inside words size (look_at step 2)

pub record Working (step : Step) (words size : ℕ) : Type 0 where
  pub looking : Looking step words size
  pub inside : size ≤ words

pub record AllSpotted (step : Step) (words : ℕ) : Type 0 where
  pub top : spot_inside words (spot_at step 0)
  pub middle : spot_inside words (spot_at step 1)
  pub bottom : spot_inside words (spot_at step 2)

-- block k + 1 of a network, with its step, and a state of the network's own
pub record Planned (net : Network) (k : ℕ) (state : List ℕ) (step : Step) (size : ℕ) : Type 0 where
  pub good : GoodNetwork net
  pub there : k < block_count net
  pub exact : length state ≡ total net.sizes + block_count net
  pub sized : size ≡ total net.sizes
  pub is : step ≡ step_of net.sizes (block_of net k)

-- some network's
pub record Visitable (k : ℕ) (state : List ℕ) (step : Step) (size : ℕ) : Type 0 where
  pub net : Network
  pub stepped : Planned net k state step size

-- ---- what a visit does: it gives the block's outputs and leaves the state
pub record Visits (net : Network) (k : ℕ) (state : List ℕ) (out : Outputs) (after : List ℕ) : Type 0 where
  pub outputs : out ≡ visit_outputs net k state
  pub leaves : after ≡ visited net k state

-- ---- whose turn it is: a visit by its scan and its block
abbrev pub turn : ℕ → ℕ → Turn
turn scan block = record { scan = scan; block = block }

abbrev pub turn_at : ℕ → ℕ → Turn
turn_at v count = turn (v / count + 1) (v % count)

-- m blocks of a scan from block k + 1 on: the state after them, and their lines
unfoldable pub blocks_state : Network → ℕ → ℕ → List ℕ → List ℕ
blocks_state net k zero state = state
blocks_state net k (suc m) state = visited net (k + m) (blocks_state net k m state)

unfoldable pub blocks_lines : Network → ℕ → ℕ → ℕ → List ℕ → Text
unfolding blocks_state visit_line
blocks_lines net s k zero state = []
blocks_lines net s k (suc m) state = blocks_lines net s k m state ++ visit_line net s (k + m) (blocks_state net k m state)

-- a block's turn in a scan, with its step in the plan, the scan's label and its own among those of the blocks
pub record Turned (net : Network) (scan : ℕ) (state : List ℕ) (course : Course) (label k : ℕ) : Type 0 where
  pub long : k < length course.plan.now
  pub stepped : Planned net k state (get_or course.plan.now k absent) course.size
  pub scan_label : label ≡ label_of scan
  pub few : k < length course.labels.now
  pub block_label : get_or course.labels.now k 0 ≡ label_of (k + 1)
  pub scan_small : scan ≤ 9999

-- of some network in some scan, and room for a line
pub record Turnable (state : List ℕ) (course : Course) (label k : ℕ) (text : Text) (at : ℕ) : Type 0 where
  pub net : Network
  pub scan : ℕ
  pub turned : Turned net scan state course label k
  pub room : at + longest_line ≤ length text

-- the state is left as the visit leaves it, and its line is put
pub record Lined (net : Network) (scan k : ℕ) (state : List ℕ) (text : Text) (at next : ℕ) (left after : List ℕ) : Type 0 where
  pub leaves : left ≡ visited net k state
  pub puts : at + longest_line ≤ length text → Put visit_room text at (visit_line net scan k state) next after

-- ---- the blocks of a scan from one on: a network's own state, plan and labels
pub record InScan (net : Network) (scan : ℕ) (state : List ℕ) (course : Course) (first end : ℕ) : Type 0 where
  pub good : GoodNetwork net
  pub exact : length state ≡ total net.sizes + block_count net
  pub sized : course.size ≡ total net.sizes
  pub plan_is : course.plan.now ≡ plan_of net
  pub labels_are : (k : ℕ) → k < block_count net → get_or course.labels.now k 0 ≡ label_of (k + 1)
  pub labels_long : length course.labels.now ≡ most_blocks
  pub scan_small : scan ≤ 9999
  pub some : first ≤ end
  pub few : end ≤ block_count net

-- some network's from the one whose turn it is, and room for their lines and one more
pub record Scannable (state : List ℕ) (course : Course) (t : Turn) (end : ℕ) (text : Text) (at : ℕ) : Type 0 where
  pub net : Network
  pub row : InScan net t.scan state course t.block end
  pub room : at + visit_room * (end - t.block) + longest_line ≤ length text

pub record ScanMade (net : Network) (scan first m : ℕ) (state : List ℕ) (text : Text) (at next : ℕ) (left after : List ℕ) : Type 0 where
  pub leaves : left ≡ blocks_state net first m state
  pub puts : at + visit_room * m + longest_line ≤ length text → Put (visit_room * m) text at (blocks_lines net scan first m state) next after

-- ---- a file that was checked before, a state of its own and a visit of it
pub record Ready (ws : Words) (f : OpenedFile) (state : List ℕ) (from : ℕ) : Type 0 where
  pub opened : f ≡ opened_file_value ws
  pub accepted : (file_checked ws false).number ≡ 0
  pub exact : length state ≡ state_words (file_in ws)
  pub high : from ≤ visit_count (file_in ws)

-- how many visits fit from one on, of so many in all, with room kept for one more line
abbrev pub fit : Network → List ℕ → ℕ → ℕ → Text → ℕ → ℕ
fit net state from all text at = fitting net from (all - from) state (length text - longest_line - at)

-- the state is left as these leave it, and their lines are put
pub record Made (net : Network) (state : List ℕ) (from all : ℕ) (text : Text) (at : ℕ) (r : Reached) (left after : List ℕ) : Type 0 where
  pub reaches : r.visit ≡ from + fit net state from all text at
  pub leaves : left ≡ visits_state net from (fit net state from all text at) state
  pub puts : Put (length text) text at (visits_lines net from (fit net state from all text at) state) r.at after
  pub room : r.at + longest_line ≤ length text

-- ---- a call: a file, a state, a visit and a buffer with which it is not refused
pub record Taken (ws : Words) (f : OpenedFile) (state : List ℕ) (from : ℕ) (text : Text) : Type 0 where
  pub ready : Ready ws f state from
  pub enough : least_room ≤ length text

-- the visit to go on from, the state that is left, the lines at the front of the buffer, and how many bytes they are
pub record Done (ws : Words) (state : List ℕ) (from : ℕ) (text : Text) (r : Page) (left : List ℕ) (after : Text) : Type 0 where
  pub goes_on : r.next ≡ next_visit (file_in ws) (from + many (file_in ws) state from (length text))
  pub counted : r.bytes ≡ length (page ws state from (length text))
  pub leaves : left ≡ visits_state (file_in ws).network from (many (file_in ws) state from (length text)) state
  pub puts : after ≡ page ws state from (length text) ++ drop (length (page ws state from (length text))) text
