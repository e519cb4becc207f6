-- The laws of the walk over scans: after some visits the state and the text are those of the definitions, the blocks of the next one's scan,
-- their steps and their labels are in place, and as many fit as the definition says.
use mathlib.Core.Path.{◌≡◌, refl, sym, ap, ap₂, ◌∙◌, subst}
use mathlib.Core.List.{List, ◌++◌}
use mathlib.Core.Logic.{◌⊎◌, ⊎_elim}
use Prim.Native.Nat.{ℕ, min, ◌+◌, ◌-◌, ◌*◌, ◌/◌, ◌%◌, ◌≤◌, ◌<◌}
use native.Mathlib.Decide.{dec_lt}
use Rattle.std.proofs.Math.Nat.{min-le_left, min-le_right, min-eq_left, min-eq_right}
use native.Mathlib.Nat.{le_refl, mod-lt, div-add-mod', div-le_of_le-mul}
use native.Mathlib.Omega.{arith}
use lib.ListN.{length, get_or}
use Rattle.section.proofs.Walk.{le_of_not_lt}
use Rattle.table.specs.Table.{total}
use Rattle.network.specs.Network.{Network, block_count}
use Rattle.network.specs.Sound.{GoodNetwork}
use Rattle.plan.specs.Plan.{plan_of}
use Rattle.text.specs.Text.{label_of, longest_line}
use Rattle.plan.specs.declared.Step.{Step}
use Rattle.text.specs.Inner.{Put}
use Rattle.text.proofs.Putting.{put_none, put_long, put_as, put_then, put_few}
use Rattle.run.specs.declared.visits.{Course.Course, Turn.Turn, Reached.Reached}
use Rattle.run.specs.Visits.{visits_state, visits_lines}
use Rattle.run.specs.Page.{visit_room, fitting}
use Rattle.run.specs.Inner.{turn_at, blocks_lines, InScan, Scannable, ScanMade, fit, Made}
use Rattle.run.proofs.Visiting.{states_join, lines_join, visits_exact}
use Rattle.run.proofs.Fitting.{fits_none, fits_few, fits_on}
use Rattle.run.proofs.Turns.{row_state, row_lines}

-- what is put is as long as the buffer at most
put_all : {most at next : ℕ} {before bytes after : List ℕ} → Put most before at bytes next after → Put (length before) before at bytes next after
put_all p = put_few (omega (arith, p.reaches, p.room)) p

-- where there is room for the longest lines and one more, there is room for one more after shorter ones
less_put : (next most : ℕ) {bytes room : ℕ} → bytes ≤ most → next + most + longest_line ≤ room → next + bytes + longest_line ≤ room
less_put next most l u = omega (arith, l, u)

-- what is below two numbers is below the smaller
both_above : (n a b : ℕ) → n < a → n < b → n < min a b
both_above n a b l u = elim (dec_lt a b) [
  | yes h ↦ omega (arith, l, min-eq_left {n = a} {m = b} (omega (arith, h)))
  | no h ↦ omega (arith, u, min-eq_right {n = b} {m = a} (le_of_not_lt h))
]

-- visits from one on, of so many in all: a state of the network's own, its plan and its labels, and room for one more line
pub record Ahead (net : Network) (count size : ℕ) (plan : List Step) (labels state : List ℕ) (from all : ℕ) (text : List ℕ) (at : ℕ) : Type 0 where
  pub good : GoodNetwork net
  pub counted : count ≡ block_count net
  pub some : 0 < count
  pub sized : size ≡ total net.sizes
  pub exact : length state ≡ total net.sizes + block_count net
  pub high : from ≤ all
  pub scans : all ≤ count * 9998
  pub room : at + longest_line ≤ length text
  pub plan_is : plan ≡ plan_of net
  pub labels_are : (k : ℕ) → k < count → get_or labels k 0 ≡ label_of (k + 1)
  pub labels_long : length labels ≡ 128

-- what holds after some visits
pub record Going (net : Network) (count : ℕ) (course : Course) (state₀ : List ℕ) (from all : ℕ) (text₀ : List ℕ) (at : ℕ) (state text : List ℕ) (visit next : ℕ) : Type 0 where
  pub ahead : Ahead net count course.size course.plan.now course.labels.now state₀ from all text₀ at
  pub made : ℕ
  pub reaches : visit ≡ from + made
  pub high : visit ≤ all
  pub leaves : state ≡ visits_state net from made state₀
  pub puts : Put (length text₀) text₀ at (visits_lines net from made state₀) next text
  pub room : next + longest_line ≤ length text₀
  pub rest : fit net state₀ from all text₀ at ≡ made + fit net state visit all text₀ next

pub none_made : {net : Network} {count : ℕ} {course : Course} {state₀ : List ℕ} {from all : ℕ} {text₀ : List ℕ} {at : ℕ} → Ahead net count course.size course.plan.now course.labels.now state₀ from all text₀ at
    → Going net count course state₀ from all text₀ at state₀ text₀ from at
unfolding visits_state visits_lines
none_made {from = from} {text₀ = text₀} {at = at} a = record {
  ahead = a;
  made = 0;
  reaches = omega arith;
  high = a.high;
  leaves = refl;
  puts = put_none (length text₀) text₀ at (omega (arith, a.room));
  room = a.room;
  rest = omega arith;
}

module _ {net : Network} {count : ℕ} {course : Course} {state₀ : List ℕ} {from all : ℕ} {text₀ : List ℕ} {at : ℕ} {state text : List ℕ} {visit next : ℕ}
    (g : Going net count course state₀ from all text₀ at state text visit next) where
  some_blocks : 0 < block_count net
  some_blocks = omega (arith, g.ahead.some, g.ahead.counted)

  pub few_blocks : count ≤ 128
  few_blocks = omega (arith, g.ahead.counted, g.ahead.good.few)

  pub state_exact : length state ≡ total net.sizes + block_count net
  state_exact = ap length g.leaves ∙ visits_exact net g.ahead.good from g.made state₀ some_blocks g.ahead.exact

  -- the next one's scan
  pub scan_low : visit / count ≤ 9998
  scan_low = div-le_of_le-mul count {m = visit} {n = 9998} (omega (arith, g.high, g.ahead.scans))

  module _ {t : Turn} (turn_is : t ≡ turn_at visit count) where
    abbrev k : ℕ
    k = t.block

    scan_is : t.scan ≡ visit / count + 1
    scan_is = ap (λ (x : Turn). x.scan) turn_is

    block_is : k ≡ visit % count
    block_is = ap (λ (x : Turn). x.block) turn_is

    block_below : k < count
    block_below = omega (arith, block_is, mod-lt visit g.ahead.some)

    -- so many at once, which is some where there is room for one
    module _ {many end : ℕ} (so_many : many ≡ min ((length text₀ - longest_line - next) / visit_room) (all - visit)) (stops : end ≡ min (k + many) count)
        (l : visit < all) (u : visit_room ≤ length text₀ - longest_line - next) where
      fits_now : many ≤ all - visit
      fits_now = omega (arith, so_many, min-le_right ((length text₀ - longest_line - next) / visit_room) (all - visit))

      room_now : visit_room * many ≤ length text₀ - longest_line - next
      room_now = omega (arith, so_many, min-le_left ((length text₀ - longest_line - next) / visit_room) (all - visit))

      some_now : 0 < many
      some_now = omega (arith, so_many, both_above 0 ((length text₀ - longest_line - next) / visit_room) (all - visit) (omega (arith, u)) (omega (arith, l)))

      -- how far the blocks of this scan go
      pub further : k < end
      further = omega (arith, stops, both_above k (k + many) count (omega (arith, some_now)) block_below)

      pub inside : end ≤ count
      inside = omega (arith, stops, min-le_right (k + many) count)

      pub few_blocks_now : end ≤ k + many
      few_blocks_now = omega (arith, stops, min-le_left (k + many) count)

      abbrev m : ℕ
      m = end - k

      few : m ≤ many
      few = omega (arith, further, few_blocks_now)

      -- the visits of this scan, by their scan
      first_is : visit / count * block_count net + k ≡ visit
      first_is = ap (λ (c : ℕ). visit / count * c + k) (sym g.ahead.counted) ∙ omega (arith, block_is, div-add-mod' visit count)

      pub is_row : InScan net t.scan state course k end
      is_row = record {
        good = g.ahead.good;
        exact = state_exact;
        sized = g.ahead.sized;
        plan_is = g.ahead.plan_is;
        labels_are = λ j u. g.ahead.labels_are j (omega (arith, u, g.ahead.counted));
        labels_long = g.ahead.labels_long;
        scan_small = omega (arith, scan_is, scan_low);
        some = omega (arith, further);
        few = omega (arith, inside, g.ahead.counted);
      }

      pub row_room : next + visit_room * m + longest_line ≤ length text
      row_room = omega (arith, few, room_now, g.room, put_long g.puts)

      pub is_rowable : Scannable state course t end text next
      is_rowable = record { net = net; row = is_row; room = row_room }

      -- after them there is room for one more line
      pub row_after : {next' : ℕ} {state' text' : List ℕ} → ScanMade net t.scan k m state text next next' state' text' → next' + longest_line ≤ length text₀
      row_after d =
          let put = d.puts row_room in
          subst (λ (j : ℕ). j + longest_line ≤ length text₀) (sym put.reaches)
          (less_put next (visit_room * m) put.few (subst (λ (j : ℕ). next + visit_room * m + longest_line ≤ j) (put_long g.puts) row_room))

      -- and it is the next one's turn
      pub row_made : {next' : ℕ} {state' text' : List ℕ} → ScanMade net t.scan k m state text next next' state' text'
          → Going net count course state₀ from all text₀ at state' text' (visit + m) next'
      row_made {next'} {state'} {text'} d =
          let inside : k + m ≤ block_count net = omega (arith, further, inside, g.ahead.counted) in
          let here : state' ≡ visits_state net visit m state =
          d.leaves ∙ row_state net (visit / count) k state m inside ∙ ap (λ (v : ℕ). visits_state net v m state) first_is in
          let lines : blocks_lines net t.scan k m state ≡ visits_lines net visit m state =
          ap (λ (x : ℕ). blocks_lines net x k m state) scan_is ∙ row_lines net (visit / count) k state m inside ∙ ap (λ (v : ℕ). visits_lines net v m state) first_is in
          let put = d.puts row_room in
          let placed : next' ≡ next + length (visits_lines net visit m state) = put.reaches ∙ ap (λ (x : List ℕ). next + length x) lines in
          let on = fits_on net g.ahead.good some_blocks visit (all - visit) state (length text₀ - longest_line - next) (omega (arith, g.high, g.ahead.scans, g.ahead.counted)) m
          (omega (arith, few, fits_now)) (omega (arith, few, room_now)) in
          let left : all - visit - m ≡ all - (visit + m) = omega arith in
          let less : length text₀ - longest_line - next - length (visits_lines net visit m state) ≡ length text₀ - longest_line - next' = omega (arith, placed) in
          let then : fit net state visit all text₀ next ≡ m + fit net state' (visit + m) all text₀ next' =
          on ∙ (λ i. m + fitting net (visit + m) (left i) (sym here i) (less i)) in
          record {
            ahead = g.ahead;
            made = g.made + m;
            reaches = omega (arith, g.reaches);
            high = omega (arith, g.high, few, fits_now);
            leaves = here ∙ ap₂ (λ (v : ℕ) (x : List ℕ). visits_state net v m x) g.reaches g.leaves ∙ sym (states_join net from g.made state₀ m);
            puts = put_all
                (put_as (le_refl (length text₀ + visit_room * m))
                (ap (λ (x : List ℕ). visits_lines net from g.made state₀ ++ x) (lines ∙ ap₂ (λ (v : ℕ) (x : List ℕ). visits_lines net v m x) g.reaches g.leaves) ∙ sym (lines_join net from g.made state₀ m))
                (put_then g.puts put));
            room = row_after d;
            rest = omega (arith, g.rest, then);
          }

  -- where none is left, or there is no room for one more
  pub all_made : (all ≤ visit) ⊎ (length text₀ - longest_line - next < visit_room) → {r : Reached} → r.visit ≡ visit → r.at ≡ next → Made net state₀ from all text₀ at r state text
  all_made h {r} v n = record { reaches = omega (arith, v, g.reaches, e); leaves = g.leaves ∙ ap (λ (m : ℕ). visits_state net from m state₀) (sym e); puts = all_put; room = omega (arith, n, g.room) }
    where
      none : fit net state visit all text₀ next ≡ 0
      none = ⊎_elim
          (λ l. omega (arith, l, fits_few net visit (all - visit) state (length text₀ - longest_line - next)))
          (λ u. fits_none net visit (all - visit) state (length text₀ - longest_line - next) u)
          h

      e : fit net state₀ from all text₀ at ≡ g.made
      e = omega (arith, g.rest, none)

      all_put : Put (length text₀) text₀ at (visits_lines net from (fit net state₀ from all text₀ at) state₀) r.at text
      all_put =
          subst (λ (j : ℕ). Put (length text₀) text₀ at (visits_lines net from (fit net state₀ from all text₀ at) state₀) j text) (sym n)
          (put_as (le_refl (length text₀)) (ap (λ (m : ℕ). visits_lines net from m state₀) (sym e)) g.puts)

-- the same, of as many in all
pub made_of : {net : Network} {state : List ℕ} {from all every : ℕ} {text : List ℕ} {at : ℕ} {r : Reached} {left after : List ℕ} → all ≡ every
    → Made net state from all text at r left after → Made net state from every text at r left after
made_of {net} {state} {from} {all} {every} {text} {at} {r} {left} {after} e m = subst (λ (n : ℕ). Made net state from n text at r left after) e m

-- ---- no visit at all
pub none_at_all : (net : Network) (state : List ℕ) (from all : ℕ) (text : List ℕ) (at : ℕ) → all ≤ from → at + longest_line ≤ length text → {r : Reached} → r.visit ≡ from → r.at ≡ at
    → Made net state from all text at r state text
unfolding visits_state visits_lines
none_at_all net state from all text at l room {r} v n = record {
  reaches = omega (arith, v, none);
  leaves = ap (λ (m : ℕ). visits_state net from m state) (sym none);
  puts = subst (λ (j : ℕ). Put (length text) text at (visits_lines net from (fit net state from all text at) state) j text) (sym n)
      (put_as (le_refl (length text)) (ap (λ (m : ℕ). visits_lines net from m state) (sym none)) (put_none (length text) text at (omega (arith, room))));
  room = omega (arith, n, room);
}
  where
    none : fit net state from all text at ≡ 0
    none = omega (arith, l, fits_few net from (all - from) state (length text - longest_line - at))
