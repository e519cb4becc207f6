-- The lines of visits by scans: those of a run's first scans are, scan by scan and block by block, what the scans show. So what is known of
-- scans is known of what the bench prints. Assumes nothing.
use mathlib.Core.Path.{◌≡◌, refl, sym, ap, ap₂, ◌∙◌, subst}
use mathlib.Core.List.{List, [], ◌∷◌, ◌++◌, map, append_assoc, map-append}
use Prim.Native.Nat.{ℕ, zero, suc, ◌+◌, ◌*◌, ◌≤◌, ◌<◌}
use native.Mathlib.Nat.{suc-mul}
use native.Mathlib.Omega.{arith}
use lib.ListN.{length, get_or, take, drop, set, length-append}
use lib.Seq.{set_split, take_at, drop_at, length-take-le}
use Rattle.verdict.specs.Lists.{Table, Text}
use Rattle.table.specs.Table.{total}
use Rattle.network.specs.Network.{Network, block_count, block_of}
use Rattle.network.specs.Sound.{GoodNetwork}
use Rattle.blocks.specs.declared.Outputs.{Outputs}
use Rattle.blocks.specs.Answer.{no_outputs}
use Rattle.blocks.specs.Packed.{packed, unpacked}
use Rattle.blocks.specs.Work.{block_outputs, block_table}
use Rattle.inputs.specs.Input.{power_on}
use Rattle.scan.specs.Scan.{State, step, steps, scanned}
use Rattle.scan.specs.Scans.{pointer_of, scan_pointers, scans_table}
use Rattle.scan.proofs.Scanning.{after, after_next, after_all}
use Rattle.scan.proofs.Own.{own_output, own_pointer}
use Rattle.scan.proofs.Packing.{unpack_pack}
use Rattle.scan.proofs.Repeating.{table_next}
use Rattle.text.specs.Text.{pointer_field, line}
use Rattle.run.specs.Visits.{table_in, packs_in, visit_outputs, visit_table, visited, visit_line, visits_state, visits_lines}
use Rattle.run.proofs.Visiting.{scan_of, block_in_scan, states_join, lines_join, packs_exact, visit_fits, visit_table_exact, visit_exact}

-- ---- the lines of scans

-- the line of the block after the first i, in scan s, which is of table t
abbrev pub block_line : Network → Table → ℕ → ℕ → Text
block_line net t s i =
    line s (i + 1) (get_or (scanned net t).outs i no_outputs) (pointer_field (block_of net i).kind (get_or (scan_pointers net t) i 0))

-- of the first i blocks
unfoldable pub scan_lines : Network → Table → ℕ → ℕ → Text
unfolding line pointer_field
scan_lines net t s zero = []
scan_lines net t s (suc i) = scan_lines net t s i ++ block_line net t s i

-- of j scans, scan s the first, each of the table that the one before left
unfoldable pub scans_lines : Network → Table → ℕ → ℕ → Text
unfolding scan_lines scans_table
scans_lines net t s zero = []
scans_lines net t s (suc j) = scans_lines net t s j ++ scan_lines net (scans_table net t j) (s + j) (block_count net)

-- ---- what a state has of a scan of table t after k blocks: its table, and the outputs of those blocks
record Holds (net : Network) (t : Table) (k : ℕ) (state : List ℕ) : Type 0 where
  exact : length state ≡ total net.sizes + block_count net
  table : table_in net state ≡ (after net t k).table
  outs : map unpacked (take k (packs_in net state)) ≡ (after net t k).outs

module _ (net : Network) (good : GoodNetwork net) (t : Table) where
  -- ---- one block more
  module _ (k : ℕ) (l : k < block_count net) (state : List ℕ) (h : Holds net t k state) where
    -- what the block does is what it does in the scan
    abbrev outputs_of : Table → List Outputs → Outputs
    outputs_of u outs = block_outputs net (block_of net k) u (power_on net u outs (block_of net k).inputs)

    abbrev table_of : Table → List Outputs → Table
    table_of u outs = block_table net (block_of net k) u (power_on net u outs (block_of net k).inputs)

    outputs_are : visit_outputs net k state ≡ outputs_of (after net t k).table (after net t k).outs
    outputs_are = ap₂ outputs_of h.table h.outs

    table_is : visit_table net k state ≡ (after net t (suc k)).table
    unfolding step
    table_is = ap₂ table_of h.table h.outs ∙ sym (ap (λ (s : State). s.table) (after_next net t k l))

    -- its line
    line_is : (s : ℕ) → visit_line net s k state ≡ block_line net t s k
    unfolding visit_line
    line_is s =
        ap₂ (λ (out : Outputs) (p : ℕ). line s (k + 1) out (pointer_field (block_of net k).kind p))
        (outputs_are ∙ sym (own_output net t k l))
        (ap (pointer_of net (block_of net k)) table_is ∙ sym (own_pointer net t k l))

    -- and the state afterwards
    packs_next : map unpacked (take (suc k) (set (packs_in net state) k (packed (visit_outputs net k state)))) ≡ (after net t (suc k)).outs
    unfolding step
    packs_next =
        let packs : List ℕ = packs_in net state in
        let out : Outputs = visit_outputs net k state in
        let inside : k < length packs = omega (arith, packs_exact net good state h.exact, l) in
        let long : length (take k packs ++ packed out ∷ []) ≡ suc k =
        length-append (take k packs) (packed out ∷ []) ∙ ap (λ (n : ℕ). n + 1) (length-take-le k packs (omega (arith, inside))) ∙ omega arith in
        ap (λ (x : List ℕ). map unpacked (take (suc k) x)) (set_split packs k (packed out) inside ∙ sym (append_assoc (take k packs) (packed out ∷ []) (drop (suc k) packs)))
        ∙ ap (map unpacked) (take_at (take k packs ++ packed out ∷ []) (drop (suc k) packs) (suc k) long)
        ∙ map-append unpacked (take k packs) (packed out ∷ [])
        ∙ ap₂ (λ (x : List Outputs) (y : Outputs). x ++ y ∷ []) h.outs (unpack_pack out (visit_fits net good k l state) ∙ outputs_are)
        ∙ sym (ap (λ (s : State). s.outs) (after_next net t k l))

    one_more : Holds net t (suc k) (visited net k state)
    unfolding visited
    one_more =
        let seam : length (visit_table net k state) ≡ total net.sizes = visit_table_exact net good k l state h.exact in
        let rest : List ℕ = set (packs_in net state) k (packed (visit_outputs net k state)) in
        record {
          exact = visit_exact net good k l state h.exact;
          table = take_at (visit_table net k state) rest (total net.sizes) seam ∙ table_is;
          outs = ap (λ (x : List ℕ). map unpacked (take (suc k) x)) (drop_at (visit_table net k state) rest (total net.sizes) seam) ∙ packs_next;
        }

  -- ---- the first k blocks of a scan that so many scans are before
  module _ (scans : ℕ) (state : List ℕ) (h : Holds net t 0 state) where
    abbrev first : ℕ
    first = scans * block_count net

    some_blocks : (k : ℕ) → k ≤ block_count net → Holds net t k (visits_state net first k state)
    unfolding visits_state
    some_blocks zero u = h
    some_blocks (suc k) u =
        subst (λ (b : ℕ). Holds net t (suc k) (visited net b (visits_state net first k state))) (sym (block_in_scan (block_count net) scans k u))
        (one_more k u (visits_state net first k state) (some_blocks k (omega arith)))

    some_lines : (k : ℕ) → k ≤ block_count net → visits_lines net first k state ≡ scan_lines net t (scans + 1) k
    unfolding visits_lines scan_lines
    some_lines zero u = refl
    some_lines (suc k) u =
        ap₂ ◌++◌ (some_lines k (omega arith))
        (ap₂ (λ (s b : ℕ). visit_line net (s + 1) b (visits_state net first k state)) (scan_of (block_count net) scans k u) (block_in_scan (block_count net) scans k u)
        ∙ line_is k u (visits_state net first k state) (some_blocks k (omega arith)) (scans + 1))

-- ---- a state before a scan: its table is as it is, and there are no outputs yet
begins : (net : Network) (t : Table) (state : List ℕ) → length state ≡ total net.sizes + block_count net → table_in net state ≡ t → Holds net t 0 state
unfolding after steps
begins net t state e q = record { exact = e; table = q; outs = refl }

module _ (net : Network) (good : GoodNetwork net) (t : Table) (state : List ℕ) (start : Holds net t 0 state) where
  -- after j scans
  module _ (j : ℕ) where
    abbrev there : List ℕ
    there = visits_state net 0 (j * block_count net) state

    abbrev left : Table
    left = scans_table net t j

  next_visits : (j : ℕ) → suc j * block_count net ≡ j * block_count net + block_count net
  next_visits j = suc-mul j (block_count net)

  after_scans : (j : ℕ) → Holds net (left j) 0 (there j)
  unfolding visits_state scans_table
  after_scans zero = let z : 0 * block_count net ≡ 0 = omega arith in subst (λ (n : ℕ). Holds net t 0 (visits_state net 0 n state)) (sym z) start
  after_scans (suc j) =
      let whole : Holds net (left j) (block_count net) (visits_state net (j * block_count net) (block_count net) (there j)) =
      some_blocks net good (left j) j (there j) (after_scans j) (block_count net) (omega arith) in
      let same : there (suc j) ≡ visits_state net (j * block_count net) (block_count net) (there j) =
      ap (λ (n : ℕ). visits_state net 0 n state) (next_visits j) ∙ states_join net 0 (j * block_count net) state (block_count net)
      ∙ ap (λ (n : ℕ). visits_state net n (block_count net) (there j)) (omega arith) in
      begins net (left (suc j)) (there (suc j)) (ap length same ∙ whole.exact)
      (ap (table_in net) same ∙ whole.table ∙ ap (λ (s : State). s.table) (after_all net (left j)) ∙ sym (table_next net j t))

  by_scans : (j : ℕ) → visits_lines net 0 (j * block_count net) state ≡ scans_lines net t 1 j
  unfolding visits_lines scans_lines
  by_scans zero = let z : 0 * block_count net ≡ 0 = omega arith in ap (λ (n : ℕ). visits_lines net 0 n state) z
  by_scans (suc j) =
      let number : j + 1 ≡ 1 + j = omega arith in
      ap (λ (n : ℕ). visits_lines net 0 n state) (next_visits j)
      ∙ lines_join net 0 (j * block_count net) state (block_count net)
      ∙ ap₂ ◌++◌ (by_scans j)
      (ap (λ (n : ℕ). visits_lines net n (block_count net) (there j)) (omega arith)
      ∙ some_lines net good (left j) j (there j) (after_scans j) (block_count net) (omega arith)
      ∙ ap (λ (s : ℕ). scan_lines net (left j) s (block_count net)) number)

-- ---- a run's first scans, of table t, whatever stands after the table in the state
pub run_by_scans : (net : Network) → GoodNetwork net → (t packs : List ℕ) → length t ≡ total net.sizes → length packs ≡ block_count net
    → (j : ℕ) → visits_lines net 0 (j * block_count net) (t ++ packs) ≡ scans_lines net t 1 j
run_by_scans net good t packs e f j =
    by_scans net good t (t ++ packs) (begins net t (t ++ packs) (length-append t packs ∙ ap₂ ◌+◌ e f) (take_at t packs (total net.sizes) e)) j
