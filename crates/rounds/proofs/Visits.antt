-- One visit of a compare block with power and no reset: what it reports is what the search finds, its pointer goes on to that, it counts how
-- far, and its own pointer step leaves its matrices as they were. Assumes nothing.
use mathlib.Core.Path.{◌≡◌, refl, sym, ap, ap₂, ◌∙◌, subst}
use mathlib.Core.Bool.{Bool, cond, xor}
use mathlib.Core.List.{List, [], ◌∷◌}
use mathlib.Core.Logic.{◌⊎◌, inl, inr, ⊎_elim}
use mathlib.Core.Option.{Option, none, some}
use Prim.Native.Nat.{ℕ, suc, ◌+◌, ◌-◌, ◌*◌, ◌≤◌, ◌<◌}
use native.Mathlib.Omega.{arith}
use lib.Dec.{eqb, ltb}
use lib.ListN.{length, get_or}
use Rattle.bits.specs.Bit.{bit}
use Rattle.pointer.specs.declared.Pointer.{Pointer}
use Rattle.runs.specs.Run.{run, placed}
use Rattle.search.specs.Search.{differing, first_differing}
use Rattle.matrix.proofs.Runs.{word_inside}
use Rattle.pointer.specs.Pointer.{reset, in_range}
use Rattle.pointer.proofs.Pointers.{size_right, steps as sized_steps}
use Rattle.record.specs.declared.Block.{Block}
use Rattle.table.specs.Table.{total, start_of}
use Rattle.network.specs.Network.{Network, block_of, block_count}
use Rattle.rules.specs.Sound.{GoodBlock}
use Rattle.rules.proofs.KindFacts.{Compared, accepted_means}
use Rattle.blocks.specs.declared.Power.{Power}
use Rattle.blocks.specs.declared.Outputs.{Outputs}
use Rattle.blocks.specs.Kind.{kind_of}
use Rattle.blocks.specs.View.{View, first_word, seen, view}
use Rattle.blocks.specs.Effect.{Effect, idle, into, zeroed, starts_at, found, compare, effect_of}
use Rattle.blocks.specs.Work.{pointer_node, matrix_put, change_put, one_word, effect_on, block_outputs}
use Rattle.blocks.proofs.Puts.{run_bits, bit_outside}
use Rattle.blocks.proofs.Written.{coils_spare_word}
use Rattle.blocks.specs.Answer.{no_outputs}
use Rattle.scan.specs.Scan.{scanned}
use Rattle.rounds.specs.Demand3.{visit, power_at, source_in, matrix_in, register_index, register_in, source_found, matrix_found, after_step, done_by, report, SameBits, Steady, Scanning}
use Rattle.rounds.specs.Counts.{count}
use Rattle.scan.proofs.Kept.{exact_after}
use Rattle.scan.proofs.Own.{own_output as scan_output}
use Rattle.scan.proofs.Scanning.{after}
use Rattle.rounds.proofs.Climb.{from, ends, ends_low, found as finds}

-- ---- the block's own output among the scan's
pub own_output : (net : Network) (t : List ℕ) (i : ℕ) → i < block_count net
    → get_or (scanned net t).outs i no_outputs ≡ block_outputs net (block_of net i) (visit net i t).table (power_at net i t)
unfolding after
own_output net t i l = scan_output net t i l

-- ---- one word put
module _ (t : List ℕ) (p x : ℕ) (h : p < length t) where
  abbrev put : List ℕ
  put = placed t p (x ∷ [])

  pub put_there : get_or put p 0 ≡ x
  put_there =
      let n : p + 0 ≡ p = omega arith in
      ap (λ (k : ℕ). get_or put k 0) (sym n) ∙ word_inside t p (x ∷ []) (omega (arith, h)) 0 (omega arith)

  -- a run that leaves the word out has the same bits
  same_run : (s n : ℕ) → (p < s) ⊎ (s + n ≤ p) → SameBits n (run put s n) (run t s n)
  same_run s n a q l u =
      run_bits put s n q l u
      ∙ bit_outside t p (x ∷ []) (omega (arith, h)) (16 * s + q) (⊎_elim (λ e. inr (omega arith)) (λ e. inl (omega arith)) a)
      ∙ sym (run_bits t s n q l u)

-- ---- a visit
module _ {net : Network} {i m : ℕ} {given : ℕ → List ℕ} (R : Scanning net m given) (S : Steady net i m given) where
  b : Block
  b = block_of net i

  n : ℕ
  n = b.n

  pw : ℕ
  pw = register_index net i

  good : GoodBlock net.sizes i b
  unfolding b
  good = R.accepted.blocks i S.there

  facts : Compared net.sizes b
  unfolding b
  facts = (accepted_means net.sizes i b good).compare S.compares

  pub some_words : 1 ≤ (block_of net i).n
  unfolding b
  some_words = facts.some

  module _ (j : ℕ) (h : j < m) where
    t : List ℕ
    t = (visit net i (given j)).table

    on : Power
    on = power_at net i (given j)

    q : ℕ
    q = get_or t pw 0

    f : ℕ → Bool
    f = differing (source_found net i (given j)) (matrix_found net i (given j))

    v : View
    v = seen (source_found net i (given j)) (matrix_found net i (given j)) q

    long : length t ≡ total net.sizes
    unfolding t after
    long = exact_after net (given j) R.accepted (R.right_size j h) i (omega (arith, S.there))

    -- the pointer stands in the table, after the coils
    pointer_inside : pw < length t
    unfolding pw b
    pointer_inside = omega (arith, long, facts.pointer_and_matrix)

    after_coils : net.sizes.coils ≤ pw
    unfolding pw b start_of
    after_coils = subst (λ (c : ℕ). net.sizes.coils ≤ start_of net.sizes c b.middle.number) (sym facts.held) (omega arith)

    -- the search starts at the pointer, which counts as 0 at the end or past it
    starts : (in_range (into n q)).at ≡ from f (16 * n) q
    unfolding in_range n
    starts =
        ap (λ (p : Pointer). p.at)
        (sized_steps (into n q) (cond (ltb q (16 * n)) q 0) (size_right (16 * n) (omega arith) (omega (arith, facts.some)) (omega (arith, facts.few))))

    -- what the block is to do
    effect_is : effect_on net b t on ≡ found n v (from f (16 * n) q) (finds f (16 * n) q)
    unfolding b n pw t on q f v kind_of view effect_of compare
    effect_is =
        ap (λ (k : ℕ). effect_of (kind_of k) (eqb (pointer_node (kind_of k) b).class 4) n (view (kind_of k) net b t) on) S.compares
        ∙ ap (λ (c : ℕ). compare n (seen (source_found net i (given j)) (matrix_found net i (given j)) (cond (eqb c 9) b.middle.number q)) on) facts.held
        ∙ ap (λ (a : Bool). cond a (sought (starts_at n v on)) (idle (cond on.middle (some (zeroed n v on).at) none))) (S.powered j h)
        ∙ ap (λ (a : Bool). sought (in_range (cond a (reset (into n q) 0) (into n q))).at) (S.not_reset j h)
        ∙ ap sought starts
      where
        sought : ℕ → Effect
        sought x = found n v x (first_differing v.source v.destination n x)

    -- the table with a new pointer
    pointed : ℕ → List ℕ
    pointed x = placed t pw (x ∷ [])

    -- a compare writes its pointer and nothing else before its coils
    stepped_is : (x : ℕ) (o : Option ℕ) → matrix_put pw (one_word (found n v x o).pointer) (change_put pw n (found n v x o).destination t) ≡ pointed (ends f (16 * n) o)
    unfolding matrix_put change_put pointed found
    stepped_is x none = refl
    stepped_is x (some p) = refl

    step_is : (x : ℕ) (o : Option ℕ) → matrix_put pw (one_word (found n v x o).pointer) t ≡ pointed (ends f (16 * n) o)
    unfolding matrix_put pointed found
    step_is x none = refl
    step_is x (some p) = refl

    found_here : Option ℕ
    found_here = finds f (16 * n) q

    stepped_here : after_step net i (given j) ≡ pointed (ends f (16 * n) found_here)
    unfolding b pw t on found_here
    stepped_here = ap (λ (e : Effect). matrix_put pw (one_word e.pointer) t) effect_is ∙ step_is (from f (16 * n) q) found_here

    done_pointer : get_or (done_by net i (given j)) pw 0 ≡ ends f (16 * n) found_here
    unfolding b n pw t on kind_of found_here pointed
    done_pointer =
        coils_spare_word net b t on i (record { good = good; exact = long }) pw after_coils
        ∙ ap₂ (λ (e : Effect) (k : ℕ). get_or (matrix_put (first_word net (pointer_node (kind_of k) b)) (one_word e.pointer) (change_put pw n e.destination t)) pw 0) effect_is S.compares
        ∙ ap (λ (u : List ℕ). get_or u pw 0) (stepped_is (from f (16 * n) q) found_here)
        ∙ put_there t pw (ends f (16 * n) found_here) pointer_inside

    -- what it reports: what the search finds above its pointer
    reported_is : (x : ℕ) (o : Option ℕ) → cond (found n v x o).middle (some (ends f (16 * n) o)) none ≡ o
    unfolding found
    reported_is x none = refl
    reported_is x (some p) = refl

    report_is : report net i (given j) ≡ found_here
    unfolding b n pw t on block_outputs found_here
    report_is =
        ap₂ (λ (out : Outputs) (x : ℕ). cond out.middle (some x) none) (own_output net (given j) i S.there) done_pointer
        ∙ ap (λ (e : Effect). cond e.middle (some (ends f (16 * n) found_here)) none) effect_is
        ∙ reported_is (from f (16 * n) q) found_here

    -- what it counts: from its pointer to where it ends
    counted_is : (x : ℕ) (o : Option ℕ) → (found n v x o).count ≡ ends f (16 * n) o - x
    unfolding found
    counted_is x none = refl
    counted_is x (some p) = refl

    count_is : count net i (given j) ≡ ends f (16 * n) found_here - from f (16 * n) q
    unfolding b n t on block_outputs found_here
    count_is =
        ap (λ (out : Outputs). out.count) (own_output net (given j) i S.there)
        ∙ ap (λ (e : Effect). e.count) effect_is
        ∙ counted_is (from f (16 * n) q) found_here

    -- ---- what holds of the visit, in the words of demand 3

    pub visit_reports :
        report net i (given j)
        ≡ finds (differing (source_found net i (given j)) (matrix_found net i (given j))) (16 * (block_of net i).n) (register_in net i (visit net i (given j)).table)
    unfolding b n pw t q f found_here
    visit_reports = report_is

    pub visit_counts :
        count net i (given j)
        ≡ ends (differing (source_found net i (given j)) (matrix_found net i (given j))) (16 * (block_of net i).n)
        (finds (differing (source_found net i (given j)) (matrix_found net i (given j))) (16 * (block_of net i).n) (register_in net i (visit net i (given j)).table))
        - from (differing (source_found net i (given j)) (matrix_found net i (given j))) (16 * (block_of net i).n) (register_in net i (visit net i (given j)).table)
    unfolding b n pw t q f found_here
    visit_counts = count_is

    -- the pointer when the block is done is one of its positions
    pub done_low : register_in net i (done_by net i (given j)) ≤ 16 * (block_of net i).n
    unfolding b n pw found_here
    done_low = subst (λ (x : ℕ). x ≤ 16 * n) (sym done_pointer) (ends_low f (16 * n) (omega (arith, facts.some)) q)

    -- the next visit finds the pointer where this one left it
    pub next_pointer : suc j < m
        → register_in net i (visit net i (given (suc j))).table
        ≡ ends (differing (source_found net i (given j)) (matrix_found net i (given j))) (16 * (block_of net i).n)
        (finds (differing (source_found net i (given j)) (matrix_found net i (given j))) (16 * (block_of net i).n) (register_in net i (visit net i (given j)).table))
    unfolding b n pw t q f found_here pointed
    next_pointer l =
        S.nothing_else.pointer_stays j l
        ∙ ap (λ (u : List ℕ). get_or u pw 0) stepped_here
        ∙ put_there t pw (ends f (16 * n) found_here) pointer_inside

    -- and the same differences
    pub next_differs : suc j < m → (p : ℕ) → 1 ≤ p → p ≤ 16 * (block_of net i).n
        → differing (source_found net i (given (suc j))) (matrix_found net i (given (suc j))) p ≡ differing (source_found net i (given j)) (matrix_found net i (given j)) p
    unfolding b n pw t pointed
    next_differs l p low high =
        let x : ℕ = ends f (16 * n) found_here in
        ap₂ xor
        (S.nothing_else.source_stays j l p low high
        ∙ ap (λ (u : List ℕ). bit (source_in net i u) p) stepped_here
        ∙ same_run t pw x pointer_inside (first_word net b.top) n S.source_leaves_out p low high)
        (S.nothing_else.matrix_stays j l p low high
        ∙ ap (λ (u : List ℕ). bit (matrix_in net i u) p) stepped_here
        ∙ same_run t pw x pointer_inside (pw + 1) n (inl (omega arith)) p low high)
