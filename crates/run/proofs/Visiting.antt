-- The laws of visits: a visit by its scan and its block, the length of its line, the state that visits leave, and visits one after the
-- other. Assumes nothing.
use mathlib.Core.Path.{◌≡◌, sym, ap, ap₂, ◌∙◌}
use mathlib.Core.List.{List, ◌++◌, append_assoc, append-nil}
use Prim.Native.Nat.{ℕ, zero, suc, ◌+◌, ◌*◌, ◌/◌, ◌%◌, ◌≤◌, ◌<◌}
use native.Mathlib.Nat.{add_comm, add-mul-div_right, add-mul-mod_self_right, div-eq_of_lt, mod-eq_of_lt, mod-lt}
use native.Mathlib.Omega.{arith}
use lib.ListN.{length, length-append, length-drop, length-set}
use lib.Seq.{length-take-le}
use Rattle.table.specs.Table.{total}
use Rattle.network.specs.Network.{Network, block_count, block_of}
use Rattle.network.specs.Sound.{GoodNetwork}
use Rattle.blocks.specs.Truths.{Runs}
use Rattle.blocks.proofs.Counted.{count_fits}
use Rattle.blocks.proofs.Written.{same_long}
use Rattle.scan.specs.Scans.{pointer_of}
use Rattle.text.proofs.Laying.{line_short}
use Rattle.run.specs.Visits.{table_in, packs_in, visit_power, visit_outputs, visit_table, visited, visit_line, visits_state, visits_lines}
use Rattle.run.specs.Page.{visit_room}

-- ---- a visit's number, by the scans before it and the blocks before it in its scan
module _ (count scans k : ℕ) (l : k < count) where
  some : 0 < count
  some = omega (arith, l)

  pub scan_of : (scans * count + k) / count ≡ scans
  scan_of = ap (λ (n : ℕ). n / count) (add_comm (scans * count) k) ∙ add-mul-div_right k scans some ∙ ap (λ (n : ℕ). n + scans) (div-eq_of_lt l) ∙ omega arith

  pub block_in_scan : (scans * count + k) % count ≡ k
  block_in_scan = ap (λ (n : ℕ). n % count) (add_comm (scans * count) k) ∙ add-mul-mod_self_right k scans count ∙ mod-eq_of_lt l

-- ---- visits one after the other
module _ (net : Network) (v m : ℕ) (state : List ℕ) where
  pub states_join : (n : ℕ) → visits_state net v (m + n) state ≡ visits_state net (v + m) n (visits_state net v m state)
  unfolding visits_state
  states_join zero = let e : m + 0 ≡ m = omega arith in ap (λ (k : ℕ). visits_state net v k state) e
  states_join (suc n) =
      let e : m + suc n ≡ suc (m + n) = omega arith in
      let number : v + (m + n) ≡ v + m + n = omega arith in
      ap (λ (k : ℕ). visits_state net v k state) e
      ∙ ap₂ (λ (k : ℕ) (s : List ℕ). visited net (k % block_count net) s) number (states_join n)

  pub lines_join : (n : ℕ) → visits_lines net v (m + n) state ≡ visits_lines net v m state ++ visits_lines net (v + m) n (visits_state net v m state)
  unfolding visits_lines
  lines_join zero = let e : m + 0 ≡ m = omega arith in ap (λ (k : ℕ). visits_lines net v k state) e ∙ sym (append-nil (visits_lines net v m state))
  lines_join (suc n) =
      let e : m + suc n ≡ suc (m + n) = omega arith in
      let number : v + (m + n) ≡ v + m + n = omega arith in
      ap (λ (k : ℕ). visits_lines net v k state) e
      ∙ (λ i. lines_join n i ++ visit_line net (number i / block_count net + 1) (number i % block_count net) (states_join n i))
      ∙ append_assoc (visits_lines net v m state) (visits_lines net (v + m) n (visits_state net v m state))
      (visit_line net ((v + m + n) / block_count net + 1) ((v + m + n) % block_count net) (visits_state net (v + m) n (visits_state net v m state)))

-- ---- a block's count has room in a packed number and in a line, and a line is short, in scans that are not too high
module _ (net : Network) (good : GoodNetwork net) (k : ℕ) (there : k < block_count net) (state : List ℕ) where
  pub visit_fits : (visit_outputs net k state).count < 8192
  visit_fits = count_fits net k (block_of net k) (table_in net state) (good.blocks k there) (visit_power net k state)

  pub visit_short : (s : ℕ) → s < 10000 → length (visit_line net s k state) ≤ visit_room
  unfolding visit_line
  visit_short s l =
      line_short s (k + 1) l (omega (arith, there, good.few)) (visit_outputs net k state) (omega (arith, visit_fits))
      (block_of net k).kind (pointer_of net (block_of net k) (visit_table net k state))

-- ---- a state is as long as before
module _ (net : Network) (good : GoodNetwork net) where
  -- exactly the words of the table, and one for each block
  abbrev pub Exact : List ℕ → Type 0
  Exact state = length state ≡ total net.sizes + block_count net

  pub table_exact : (state : List ℕ) → Exact state → length (table_in net state) ≡ total net.sizes
  table_exact state e = length-take-le (total net.sizes) state (omega (arith, e))

  pub packs_exact : (state : List ℕ) → Exact state → length (packs_in net state) ≡ block_count net
  packs_exact state e = length-drop (total net.sizes) state ∙ omega (arith, e)

  pub runs_there : (k : ℕ) → k < block_count net → (state : List ℕ) → Exact state → Runs net k (block_of net k) (table_in net state)
  runs_there k l state e = record { good = good.blocks k l; exact = table_exact state e }

  pub visit_table_exact : (k : ℕ) → k < block_count net → (state : List ℕ) → Exact state → length (visit_table net k state) ≡ total net.sizes
  visit_table_exact k l state e = same_long net k (block_of net k) (table_in net state) (runs_there k l state e) (visit_power net k state) ∙ table_exact state e

  pub visit_exact : (k : ℕ) → k < block_count net → (state : List ℕ) → Exact state → Exact (visited net k state)
  unfolding visited
  visit_exact k l state e =
      length-append (visit_table net k state) _
      ∙ ap₂ ◌+◌ (visit_table_exact k l state e) (length-set (packs_in net state) k _ ∙ packs_exact state e)

  pub visits_exact : (v m : ℕ) (state : List ℕ) → 0 < block_count net → Exact state → Exact (visits_state net v m state)
  unfolding visits_state
  visits_exact v zero state l e = e
  visits_exact v (suc m) state l e = visit_exact ((v + m) % block_count net) (mod-lt (v + m) l) (visits_state net v m state) (visits_exact v m state l e)
