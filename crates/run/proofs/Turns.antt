-- The laws of turns: the blocks of a scan are visits, the line that is put for a block's turn is the visit's, and one block after another.
-- Assumes nothing.
use mathlib.Core.Path.{◌≡◌, refl, sym, ap, ap₂, ◌∙◌, subst}
use mathlib.Core.List.{List, ◌++◌}
use Prim.Native.Nat.{ℕ, zero, suc, ◌+◌, ◌-◌, ◌*◌, ◌/◌, ◌%◌, ◌≤◌, ◌<◌}
use native.Mathlib.Omega.{arith}
use lib.ListN.{length, get_or}
use Rattle.table.specs.Table.{total}
use Rattle.network.specs.Network.{Network, block_count, block_of}
use Rattle.plan.proofs.Plans.{plan_has, plan_long}
use Rattle.blocks.specs.declared.Outputs.{Outputs}
use Rattle.scan.specs.Scans.{pointer_of}
use Rattle.text.specs.Text.{label_of, label_text, labelled_line, line, pointer_field, longest_line, place_after, laid}
use Rattle.plan.specs.declared.Step.{Step}
use Rattle.plan.specs.Plan.{absent}
use Rattle.kinds.specs.declared.task.Work.{Work}
use Rattle.run.specs.Inner.{field_in, told}
use Rattle.run.proofs.Following.{outputs_told, field_shown}
use Rattle.text.specs.Inner.{Put}
use Rattle.text.proofs.Labels.{label_says, labelled}
use Rattle.text.proofs.Laying.{laid_put}
use Rattle.text.proofs.Putting.{put_none, put_long, put_as, put_then, put_few}
use Rattle.run.specs.declared.visits.{Course.Course, Turn.Turn}
use Rattle.run.specs.Visits.{visit_outputs, visit_table, visited, visit_line, visits_state, visits_lines}
use Rattle.run.specs.Page.{visit_room}
use Rattle.run.specs.Inner.{blocks_state, blocks_lines, Turned, Turnable, Lined, InScan, Scannable, ScanMade}
use Rattle.run.proofs.Visiting.{scan_of, block_in_scan, visit_short, visit_exact}

-- ---- the blocks of a scan are visits
module _ (net : Network) (scans k : ℕ) (state : List ℕ) where
  abbrev first : ℕ
  first = scans * block_count net + k

  number : (m : ℕ) → first + m ≡ scans * block_count net + (k + m)
  number m = omega arith

  block_of_visit : (m : ℕ) → k + m < block_count net → (first + m) % block_count net ≡ k + m
  block_of_visit m l = ap (λ (v : ℕ). v % block_count net) (number m) ∙ block_in_scan (block_count net) scans (k + m) l

  scan_of_visit : (m : ℕ) → k + m < block_count net → (first + m) / block_count net ≡ scans
  scan_of_visit m l = ap (λ (v : ℕ). v / block_count net) (number m) ∙ scan_of (block_count net) scans (k + m) l

  pub row_state : (m : ℕ) → k + m ≤ block_count net → blocks_state net k m state ≡ visits_state net first m state
  unfolding blocks_state visits_state
  row_state zero l = refl
  row_state (suc m) l = ap₂ (visited net) (sym (block_of_visit m (omega (arith, l)))) (row_state m (omega (arith, l)))

  pub row_lines : (m : ℕ) → k + m ≤ block_count net → blocks_lines net (scans + 1) k m state ≡ visits_lines net first m state
  unfolding blocks_lines visits_lines
  row_lines zero l = refl
  row_lines (suc m) l =
      let u : k + m < block_count net = omega (arith, l) in
      λ i. row_lines m (omega (arith, l)) i ++ visit_line net (sym (scan_of_visit m u) i + 1) (sym (block_of_visit m u) i) (row_state m (omega (arith, l)) i)

-- ---- the line of a turn: its outputs are the visit's, and what stands for its pointer
module _ {net : Network} {scan : ℕ} {state : List ℕ} {course : Course} {label k : ℕ} (T : Turned net scan state course label k)
    {shown : Outputs} (o : shown ≡ visit_outputs net k state) {left : List ℕ} (left_is : left ≡ visited net k state)
    {mark : List ℕ} (m : mark ≡ pointer_field (block_of net k).kind (pointer_of net (block_of net k) (visit_table net k state))) where
  block_low : k + 1 ≤ 128
  block_low = omega (arith, T.stepped.there, T.stepped.good.few)

  abbrev the_line : List ℕ
  the_line = labelled_line label (get_or course.labels.now k 0) shown mark

  line_put : the_line ≡ visit_line net scan k state
  unfolding visit_line
  line_put =
      labelled label (get_or course.labels.now k 0) scan (k + 1) shown mark
      (ap label_text T.scan_label ∙ label_says scan (omega (arith, T.scan_small)))
      (ap label_text T.block_label ∙ label_says (k + 1) (omega (arith, block_low)))
      ∙ ap₂ (line scan (k + 1)) o m

  line_room : length (visit_line net scan k state) ≤ visit_room
  line_room = visit_short net T.stepped.good k T.stepped.there state scan (omega (arith, T.scan_small))

  pub is_lined : {text after : List ℕ} {at next : ℕ} → next ≡ place_after at the_line text → after ≡ laid at the_line text
      → Lined net scan k state text at next left after
  is_lined {text} {after} {at} {next} p q = record {
    leaves = left_is;
    puts = λ room.
        let few : length the_line ≤ visit_room = omega (arith, line_room, ap length line_put) in
        let put = laid_put at the_line text room (omega (arith, few)) (record { answers = p; leaves = q }) in
        put_few {most = longest_line} line_room (put_as (omega arith) line_put put);
  }

-- the same, by the step's work
module _ {net : Network} {scan : ℕ} {state : List ℕ} {course : Course} {label k : ℕ} (T : Turned net scan state course label k)
    {out : Outputs} (o : out ≡ visit_outputs net k state) {left : List ℕ} (left_is : left ≡ visited net k state) where
  pub lined_by : (w : Work) → (get_or course.plan.now k absent).work ≡ w → {mark : List ℕ} → mark ≡ field_in left w
      → {text after : List ℕ} {at next : ℕ}
      → next ≡ place_after at (labelled_line label (get_or course.labels.now k 0) (told w out) mark) text
      → after ≡ laid at (labelled_line label (get_or course.labels.now k 0) (told w out) mark) text
      → Lined net scan k state text at next left after
  lined_by w e m p q =
      is_lined T (ap (λ (v : Work). told v out) (sym e) ∙ outputs_told T.stepped o) left_is
      (m ∙ ap (field_in left) (sym e) ∙ field_shown T.stepped left_is) p q

-- ---- one block more of a scan
module _ {net : Network} {scan : ℕ} {state₀ : List ℕ} {course : Course} {first end : ℕ} (R : InScan net scan state₀ course first end) where
  -- what holds after m blocks
  pub row_exact : (m : ℕ) → first + m ≤ end → length (blocks_state net first m state₀) ≡ total net.sizes + block_count net
  unfolding blocks_state
  row_exact zero l = R.exact
  row_exact (suc m) l = visit_exact net R.good (first + m) (omega (arith, l, R.few)) (blocks_state net first m state₀) (row_exact m (omega (arith, l)))

  pub row_turned : {state : List ℕ} {label : ℕ} (m : ℕ) → label ≡ label_of scan → first + m < end → state ≡ blocks_state net first m state₀
      → Turned net scan state course label (first + m)
  row_turned {state} m q l e =
      let there : first + m < block_count net = omega (arith, l, R.few) in
      let plan_size_is : length course.plan.now ≡ 128 = ap length R.plan_is ∙ plan_long net in
      record {
        stepped = record {
          good = R.good;
          there = there;
          exact = ap length e ∙ row_exact m (omega (arith, l));
          sized = R.sized;
          is = ap (λ (p : List Step). get_or p (first + m) absent) R.plan_is ∙ plan_has net (first + m) there (omega (arith, there, R.good.few));
        };
        long = omega (arith, plan_size_is, there, R.good.few);
        scan_label = q;
        few = omega (arith, there, R.good.few, R.labels_long);
        block_label = R.labels_are (first + m) there;
        scan_small = R.scan_small;
      }

  pub row_more : {state left text₀ text after : List ℕ} {at next end' : ℕ} (m : ℕ) → state ≡ blocks_state net first m state₀
      → Put (visit_room * m) text₀ at (blocks_lines net scan first m state₀) next text
      → Lined net scan (first + m) state text next end' left after → next + longest_line ≤ length text
      → (left ≡ blocks_state net first (suc m) state₀) × Put (visit_room * suc m) text₀ at (blocks_lines net scan first (suc m) state₀) end' after
  unfolding blocks_state blocks_lines
  row_more m e p l room = (
    l.leaves ∙ ap (visited net (first + m)) e,
    put_as (omega arith) (ap (λ (s : List ℕ). blocks_lines net scan first m state₀ ++ visit_line net scan (first + m) s) e) (put_then p (l.puts room)),
  )

-- ---- the walk over the blocks of a scan: what holds when block k + 1 is next
pub record ScanGoing (state₀ : List ℕ) (course : Course) (t : Turn) (label end : ℕ) (text₀ : List ℕ) (at : ℕ) (state text : List ℕ) (next k : ℕ) : Type 0 where
  pub rowable : Scannable state₀ course t end text₀ at
  pub scan_label : label ≡ label_of t.scan
  pub low : t.block ≤ k
  pub high : k ≤ end
  pub so_far : (net : Network) → InScan net t.scan state₀ course t.block end
      → (state ≡ blocks_state net t.block (k - t.block) state₀) × Put (visit_room * (k - t.block)) text₀ at (blocks_lines net t.scan t.block (k - t.block) state₀) next text

pub row_start : {state₀ : List ℕ} {course : Course} {t : Turn} {label end : ℕ} {text₀ : List ℕ} {at : ℕ}
    → Scannable state₀ course t end text₀ at → label ≡ label_of t.scan → ScanGoing state₀ course t label end text₀ at state₀ text₀ at t.block
unfolding blocks_state blocks_lines
row_start {state₀} {t = t} {text₀ = text₀} {at = at} r q =
    let z : t.block - t.block ≡ 0 = omega arith in
    record {
      rowable = r;
      scan_label = q;
      low = omega arith;
      high = r.row.some;
      so_far = λ net row. subst (λ (m : ℕ). (state₀ ≡ blocks_state net t.block m state₀) × Put (visit_room * m) text₀ at (blocks_lines net t.scan t.block m state₀) at text₀) (sym z)
          (refl, put_none 0 text₀ at (omega (arith, r.room)));
    }

module _ {state₀ : List ℕ} {course : Course} {t : Turn} {label end : ℕ} {text₀ : List ℕ} {at : ℕ} {state text : List ℕ} {next k : ℕ}
    (g : ScanGoing state₀ course t label end text₀ at state text next k) where
  here : t.block + (k - t.block) ≡ k
  here = omega (arith, g.low)

  own : (state ≡ blocks_state g.rowable.net t.block (k - t.block) state₀) × Put (visit_room * (k - t.block)) text₀ at (blocks_lines g.rowable.net t.scan t.block (k - t.block) state₀) next text
  own = g.so_far g.rowable.net g.rowable.row

  pub row_text_long : length text ≡ length text₀
  row_text_long = put_long own.1

  pub row_state_long : length state ≡ length state₀
  row_state_long = ap length own.0 ∙ row_exact g.rowable.row (k - t.block) (omega (arith, here, g.high)) ∙ sym g.rowable.row.exact

  pub line_fits_here : k < end → next + longest_line ≤ length text
  line_fits_here l = omega (arith, l, g.low, g.rowable.room, own.1.few, own.1.reaches, row_text_long)

  pub is_turned : k < end → (net : Network) → InScan net t.scan state₀ course t.block end → Turned net t.scan state course label k
  is_turned l net r = subst (Turned net t.scan state course label) here (row_turned r (k - t.block) g.scan_label (omega (arith, here, l)) (g.so_far net r).0)

  pub is_turnable : k < end → Turnable state course label k text next
  is_turnable l = record { net = g.rowable.net; scan = t.scan; turned = is_turned l g.rowable.net g.rowable.row; room = line_fits_here l }

  pub row_step : k < end → {state' text' : List ℕ} {next' : ℕ}
      → ((net : Network) (scan : ℕ) → Turned net scan state course label k → Lined net scan k state text next next' state' text')
      → ScanGoing state₀ course t label end text₀ at state' text' next' (k + 1)
  row_step l {state'} {text'} {next'} d =
      let n : suc (k - t.block) ≡ k + 1 - t.block = omega (arith, g.low) in
      record {
        rowable = g.rowable;
        scan_label = g.scan_label;
        low = omega (arith, g.low);
        high = omega (arith, l);
        so_far = λ net r.
            subst (λ (m : ℕ). (state' ≡ blocks_state net t.block m state₀) × Put (visit_room * m) text₀ at (blocks_lines net t.scan t.block m state₀) next' text') n
            (row_more r (k - t.block) (g.so_far net r).0 (g.so_far net r).1
            (subst (λ (j : ℕ). Lined net t.scan j state text next next' state' text') (sym here) (d net t.scan (is_turned l net r))) (line_fits_here l));
      }

  pub row_done : end ≤ k → (net : Network) → InScan net t.scan state₀ course t.block end → ScanMade net t.scan t.block (end - t.block) state₀ text₀ at next state text
  row_done l net r =
      let e : k ≡ end = omega (arith, l, g.high) in
      let both = subst (λ (j : ℕ). (state ≡ blocks_state net t.block (j - t.block) state₀) × Put (visit_room * (j - t.block)) text₀ at (blocks_lines net t.scan t.block (j - t.block) state₀) next text) e (g.so_far net r) in
      record { leaves = both.0; puts = λ room. both.1 }
