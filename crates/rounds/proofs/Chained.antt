-- Scans of one table, each of what the one before left: where every other block's destination, pointer and coils and the block's own
-- coils lie outside a compare block's words, nothing but its own pointer step changes these. Assumes nothing.
use mathlib.Core.Path.{◌≡◌, refl, sym, ap, ◌∙◌, subst}
use mathlib.Core.Bool.{Bool, true, false, cond}
use mathlib.Core.List.{List}
use mathlib.Core.Logic.{inl, inr, ⊎_elim}
use Prim.Native.Nat.{ℕ, zero, suc, ◌+◌, ◌-◌, ◌≤◌, ◌<◌}
use native.Mathlib.Omega.{arith}
use borrow.Author.Tests.{eqb-true, eqb-false, eq-eqb, ne_eqb}
use lib.Dec.{eqb}
use lib.ListN.{length}
use Rattle.table.specs.Table.{total, start_of}
use Rattle.network.specs.Network.{Network, block_of, block_count}
use Rattle.rules.proofs.KindFacts.{accepted_means}
use Rattle.blocks.specs.Truths.{Runs}
use Rattle.inputs.specs.Input.{power_on}
use Rattle.scan.specs.Scan.{State, step, steps, scanned}
use Rattle.rounds.specs.Demand3.{visit, power_at, register_index, register_in, after_step, done_by}
use Rattle.rounds.specs.Tests.{coils_outside, block_outside, all_outside, Chain, ChainIsSteady, ChainKeepsPointer}
use Rattle.scan.proofs.Kept.{exact_after, scanned_exact}
use Rattle.scan.proofs.Scanning.{after, after_next, after_all}
use Rattle.rounds.proofs.Apart.{Keeps, keeps_same, keeps_on, both_true, lie_apart, block_keeps, own_keeps}

-- every block passes its test
each_outside : (net : Network) (i K : ℕ) → all_outside net i K ≡ true → (k : ℕ) → k < K
    → cond (eqb k i) (coils_outside net i (block_of net i).coils) (block_outside net i (block_of net k)) ≡ true
unfolding all_outside
each_outside net i zero e k l = absurd (omega arith)
each_outside net i (suc K) e k l = go (eqb k K) refl (both_true _ _ e) (λ h m. each_outside net i K h k m)
  where
    less : (k ≡ K → ⊥) → k < K
    less n = omega arith

    go : (a : Bool) → eqb k K ≡ a → (cond (eqb K i) (coils_outside net i (block_of net i).coils) (block_outside net i (block_of net K)) ≡ true) × (all_outside net i K ≡ true)
        → (all_outside net i K ≡ true → k < K → cond (eqb k i) (coils_outside net i (block_of net i).coils) (block_outside net i (block_of net k)) ≡ true)
        → cond (eqb k i) (coils_outside net i (block_of net i).coils) (block_outside net i (block_of net k)) ≡ true
    go true q h more =
        subst (λ (x : ℕ). cond (eqb x i) (coils_outside net i (block_of net i).coils) (block_outside net i (block_of net x)) ≡ true) (sym (eqb-true k K q)) h.0
    go false q h more = more h.1 (less (eqb-false k K q))

none_yet : (net : Network) (i : ℕ) (t : List ℕ) → Keeps net i t (after net t 0).table
unfolding after steps
none_yet net i t = keeps_same

module _ {net : Network} {i m : ℕ} {given : ℕ → List ℕ} (C : Chain net i m given) where
  -- the pointer stands after the coils
  held : net.sizes.coils ≤ register_index net i
  unfolding start_of
  held =
      subst (λ (c : ℕ). net.sizes.coils ≤ start_of net.sizes c (block_of net i).middle.number)
      (sym ((accepted_means net.sizes i (block_of net i) (C.accepted.blocks i C.there)).compare C.compares).held) (omega arith)

  other_outside : (k : ℕ) → k < block_count net → (k ≡ i → ⊥) → block_outside net i (block_of net k) ≡ true
  other_outside k l n =
      sym (ap (λ (a : Bool). cond a (coils_outside net i (block_of net i).coils) (block_outside net i (block_of net k))) (ne_eqb k i n))
      ∙ each_outside net i (block_count net) C.others_outside k l

  own_outside : coils_outside net i (block_of net i).coils ≡ true
  own_outside =
      sym (ap (λ (a : Bool). cond a (coils_outside net i (block_of net i).coils) (block_outside net i (block_of net i))) (eq-eqb i i refl))
      ∙ each_outside net i (block_count net) C.others_outside i C.there

  -- ---- in one scan
  module _ (t : List ℕ) (long : length t ≡ total net.sizes) where
    runs : (k : ℕ) → k < block_count net → Runs net k (block_of net k) (after net t k).table
    runs k l = record { good = C.accepted.blocks k l; exact = exact_after net t C.accepted long k (omega arith) }

    one_keeps : (k : ℕ) → k < block_count net → (k ≡ i → ⊥) → Keeps net i (after net t k).table (after net t (suc k)).table
    unfolding step
    one_keeps k l n =
        subst (λ (s : State). Keeps net i (after net t k).table s.table) (sym (after_next net t k l))
        (block_keeps net i k (block_of net k) (after net t k).table (runs k l) (power_on net (after net t k).table (after net t k).outs (block_of net k).inputs) held (other_outside k l n))

    -- the blocks before it
    before_it : (k : ℕ) → k ≤ i → Keeps net i t (after net t k).table
    before_it zero l = none_yet net i t
    before_it (suc k) l = keeps_on (before_it k (omega arith)) (one_keeps k (omega (arith, C.there)) (λ e. omega arith))

    -- and after it
    after_it : (r : ℕ) → suc i + r ≤ block_count net → Keeps net i (after net t (suc i)).table (after net t (suc i + r)).table
    after_it zero l = let n : suc i ≡ suc i + 0 = omega arith in subst (λ (k : ℕ). Keeps net i (after net t (suc i)).table (after net t k).table) n keeps_same
    after_it (suc r) l =
        let n : suc (suc i + r) ≡ suc i + suc r = omega arith in
        keeps_on (after_it r (omega arith))
        (subst (λ (k : ℕ). Keeps net i (after net t (suc i + r)).table (after net t k).table) n (one_keeps (suc i + r) (omega arith) (λ e. omega arith)))

    own_coils : Keeps net i (after_step net i t) (after net t (suc i)).table
    unfolding after step
    own_coils =
        subst (λ (s : State). Keeps net i (after_step net i t) s.table) (sym (after_next net t i C.there))
        (own_keeps net i i (visit net i t).table (runs i C.there) (power_at net i t) held C.compares own_outside)

    -- from its own pointer step to the scan's end
    to_the_end : Keeps net i (after_step net i t) (scanned net t).table
    to_the_end =
        let n : suc i + (block_count net - suc i) ≡ block_count net = omega (arith, C.there) in
        keeps_on own_coils
        (subst (λ (s : State). Keeps net i (after net t (suc i)).table s.table) (after_all net t)
        (subst (λ (k : ℕ). Keeps net i (after net t (suc i)).table (after net t k).table) n (after_it (block_count net - suc i) (omega (arith, C.there)))))

    scanned_long : length (scanned net t).table ≡ total net.sizes
    scanned_long = scanned_exact net t C.accepted long

  -- ---- from scan to scan
  sizes_stay : (j : ℕ) → j < m → length (given j) ≡ total net.sizes
  sizes_stay zero l = C.first_size
  sizes_stay (suc j) l = ap length (C.goes_on j l) ∙ scanned_long (given j) (sizes_stay j (omega arith))

  to_the_next : (j : ℕ) → suc j < m → Keeps net i (after_step net i (given j)) (visit net i (given (suc j))).table
  unfolding after
  to_the_next j l =
      keeps_on (to_the_end (given j) (sizes_stay j (omega arith)))
      (subst (λ (t : List ℕ). Keeps net i t (visit net i (given (suc j))).table) (C.goes_on j l) (before_it (given (suc j)) (sizes_stay (suc j) l) i (omega arith)))

  -- the pointer at the scan's end is the one that the block left
  pointer_at_end : (j : ℕ) → j < m → register_in net i (scanned net (given j)).table ≡ register_in net i (done_by net i (given j))
  unfolding after step
  pointer_at_end j l =
      let long : length (given j) ≡ total net.sizes = sizes_stay j l in
      (to_the_end (given j) long).pointer_kept
      ∙ sym (own_coils (given j) long).pointer_kept
      ∙ ap (λ (s : State). register_in net i s.table) (after_next net (given j) i C.there)

pub chain_is_steady : ChainIsSteady
chain_is_steady net i m given C = (
  record { accepted = C.accepted; right_size = sizes_stay C },
  record {
    there = C.there;
    compares = C.compares;
    powered = C.powered;
    not_reset = C.not_reset;
    source_leaves_out = ⊎_elim (λ l. inr (omega arith)) (λ l. inl (omega arith)) (lie_apart _ _ (register_index net i) 1 C.source_leaves_out);
    nothing_else = record {
      source_stays = λ j l. (to_the_next C j l).source_kept;
      matrix_stays = λ j l. (to_the_next C j l).matrix_kept;
      pointer_stays = λ j l. (to_the_next C j l).pointer_kept;
    };
  },
)

pub chain_keeps_pointer : ChainKeepsPointer
chain_keeps_pointer net i m given C j l = pointer_at_end C j l
