-- A block whose destination, pointer and coils lie outside a compare block's words leaves these as they were. Assumes nothing.
use mathlib.Core.Path.{◌≡◌, refl, sym, ap₂, ◌∙◌, subst}
use mathlib.Core.Bool.{Bool, true, false, not, ◌&&◌, ◌||◌, false≢true}
use mathlib.Core.List.{List}
use mathlib.Core.Logic.{◌⊎◌, inl, inr, ⊎_elim}
use mathlib.Core.Option.{some}
use Prim.Native.Nat.{ℕ, ◌+◌, ◌-◌, ◌*◌, ◌/◌, ◌≤◌, ◌<◌}
use native.Mathlib.Omega.{arith}
use borrow.Author.Tests.{leb-true, le-leb, eqb-true, eq-eqb, ne_eqb}
use lib.Dec.{eqb, leb}
use lib.ListN.{length}
use Rattle.bits.specs.Bit.{bit}
use Rattle.runs.specs.Run.{run}
use Rattle.record.specs.declared.Block.{Block}
use Rattle.network.specs.Network.{Network, block_of}
use Rattle.blocks.specs.declared.Power.{Power}
use Rattle.blocks.specs.Kind.{kind_of}
use Rattle.blocks.specs.View.{first_word}
use Rattle.blocks.specs.Effect.{Change, Effect}
use Rattle.blocks.specs.Effect.Change.{stays, becomes, puts}
use Rattle.blocks.specs.Work.{pointer_node, matrix_put, change_put, one_word, effect_on, block_table}
use Rattle.blocks.specs.Truths.{Runs, NoCoil}
use Rattle.blocks.proofs.Places.{Destination, writes}
use Rattle.blocks.proofs.Puts.{Off, Makes, run_bits}
use Rattle.blocks.proofs.Written.{with_pointer, work_spares, work_spares_word, coils_spare, coils_spare_word}
use Rattle.rounds.specs.Demand3.{source_in, matrix_in, register_index, register_in, SameBits}
use Rattle.rounds.specs.Tests.{apart, outside, coil_outside, coils_outside, writes_matrix, writes_pointer, block_outside}

-- ---- tests
pub both_true : (a b : Bool) → (a && b) ≡ true → (a ≡ true) × (b ≡ true)
both_true true b e = (refl, e)
both_true false b e = absurd (false≢true e)

either_true : (a b : Bool) → (a || b) ≡ true → (a ≡ true) ⊎ (b ≡ true)
either_true true b e = inl refl
either_true false b e = inr e

unless_true : (a b : Bool) → (not a || b) ≡ true → a ≡ true → b ≡ true
unless_true true b e h = e
unless_true false b e h = absurd (false≢true h)

pub lie_apart : (s n d k : ℕ) → apart s n d k ≡ true → (s + n ≤ d) ⊎ (d + k ≤ s)
lie_apart s n d k e = ⊎_elim (λ h. inl (leb-true (s + n) d h)) (λ h. inr (leb-true (d + k) s h)) (either_true (leb (s + n) d) (leb (d + k) s) e)

-- ---- a table that keeps a compare block's source, matrix and pointer as they are in another
pub record Keeps (net : Network) (i : ℕ) (t u : List ℕ) : Type 0 where
  pub source_kept : SameBits (block_of net i).n (source_in net i u) (source_in net i t)
  pub matrix_kept : SameBits (block_of net i).n (matrix_in net i u) (matrix_in net i t)
  pub pointer_kept : register_in net i u ≡ register_in net i t

pub keeps_same : {net : Network} {i : ℕ} {t : List ℕ} → Keeps net i t t
keeps_same = record { source_kept = λ p l u. refl; matrix_kept = λ p l u. refl; pointer_kept = refl }

pub keeps_on : {net : Network} {i : ℕ} {t u v : List ℕ} → Keeps net i t u → Keeps net i u v → Keeps net i t v
keeps_on a b = record {
  source_kept = λ p l u. b.source_kept p l u ∙ a.source_kept p l u;
  matrix_kept = λ p l u. b.matrix_kept p l u ∙ a.matrix_kept p l u;
  pointer_kept = b.pointer_kept ∙ a.pointer_kept;
}

module _ (net : Network) (i : ℕ) where
  -- the words that are kept lie outside k words from d on: those of the source, and the pointer with the matrix after it
  record Outside (d k : ℕ) : Type 0 where
    from_source : (first_word net (block_of net i).top + (block_of net i).n ≤ d) ⊎ (d + k ≤ first_word net (block_of net i).top)
    from_pointer : (register_index net i + ((block_of net i).n + 1) ≤ d) ⊎ (d + k ≤ register_index net i)

  outside_means : (d k : ℕ) → outside net i d k ≡ true → Outside d k
  outside_means d k e =
      let h = both_true (apart (first_word net (block_of net i).top) (block_of net i).n d k) (apart (register_index net i) ((block_of net i).n + 1) d k) e in
      record {
        from_source = lie_apart (first_word net (block_of net i).top) (block_of net i).n d k h.0;
        from_pointer = lie_apart (register_index net i) ((block_of net i).n + 1) d k h.1;
      }

  -- the positions of their bits
  abbrev InSource : ℕ → Type 0
  InSource p = (16 * first_word net (block_of net i).top < p) × (p ≤ 16 * (first_word net (block_of net i).top + (block_of net i).n))

  abbrev InMatrix : ℕ → Type 0
  InMatrix p = (16 * register_index net i < p) × (p ≤ 16 * (register_index net i + ((block_of net i).n + 1)))

  off : {d k p : ℕ} → Outside d k → InSource p ⊎ InMatrix p → Off d k p
  off o = ⊎_elim
      (λ h. ⊎_elim (λ l. inl (omega (arith, h.1))) (λ l. inr (omega (arith, h.0))) o.from_source)
      (λ h. ⊎_elim (λ l. inl (omega (arith, h.1))) (λ l. inr (omega (arith, h.0))) o.from_pointer)

  off_word : {d k : ℕ} → Outside d k → (register_index net i < d) ⊎ (d + k ≤ register_index net i)
  off_word o = ⊎_elim (λ l. inl (omega arith)) inr o.from_pointer

  off_coil : (number p : ℕ) → coil_outside net i number ≡ true → InSource p ⊎ InMatrix p → (number ≡ 0) ⊎ (p ≡ number → ⊥)
  off_coil number p e h =
      let counted : 1 ≤ p = ⊎_elim (λ a. omega (arith, a.0)) (λ a. omega (arith, a.0)) h in
      ⊎_elim
      (λ z. inl (eqb-true number 0 z))
      (λ o. inr (λ q. ⊎_elim (λ l. omega arith) (λ l. omega arith) (off (outside_means ((number - 1) / 16) 1 o) h)))
      (either_true (eqb number 0) (outside net i ((number - 1) / 16) 1) e)

  off_coils : (b : Block) (p : ℕ) → coils_outside net i b.coils ≡ true → InSource p ⊎ InMatrix p → NoCoil b p
  off_coils b p e h =
      let a = both_true (coil_outside net i b.coils.top) (coil_outside net i b.coils.middle && coil_outside net i b.coils.bottom) e in
      let c = both_true (coil_outside net i b.coils.middle) (coil_outside net i b.coils.bottom) a.1 in
      record {
        no_top = off_coil b.coils.top p a.0 h;
        no_middle = off_coil b.coils.middle p c.0 h;
        no_bottom = off_coil b.coils.bottom p c.1 h;
      }

  -- a table that has these bits and the pointer of another keeps them
  keeps : (t u : List ℕ) → ((p : ℕ) → InSource p ⊎ InMatrix p → bit u p ≡ bit t p) → register_in net i u ≡ register_in net i t → Keeps net i t u
  keeps t u h k = record {
    source_kept = λ q l m. kept (first_word net (block_of net i).top) q l m (inl (omega arith, omega arith));
    matrix_kept = λ q l m. kept (register_index net i + 1) q l m (inr (omega arith, omega arith));
    pointer_kept = k;
  }
    where
      kept : (s q : ℕ) → 1 ≤ q → q ≤ 16 * (block_of net i).n → InSource (16 * s + q) ⊎ InMatrix (16 * s + q)
          → bit (run u s (block_of net i).n) q ≡ bit (run t s (block_of net i).n) q
      kept s q l m c = run_bits u s (block_of net i).n q l m ∙ h (16 * s + q) c ∙ sym (run_bits t s (block_of net i).n q l m)

  -- ---- another block
  module _ (earlier : ℕ) (b : Block) (t : List ℕ) (r : Runs net earlier b t) (on : Power) (held : net.sizes.coils ≤ register_index net i)
      (e : block_outside net i b ≡ true) where
    tests : ((not (writes_matrix b) || outside net i (first_word net b.middle) b.n) ≡ true)
        × ((((not (writes_pointer b) || outside net i (first_word net (pointer_node (kind_of b.kind) b)) 1)
        && coils_outside net i b.coils)) ≡ true)
    tests = both_true _ _ e

    rest : ((not (writes_pointer b) || outside net i (first_word net (pointer_node (kind_of b.kind) b)) 1) ≡ true)
        × (coils_outside net i b.coils ≡ true)
    rest = both_true _ _ tests.1

    -- what it writes lies outside
    destination_off : Destination net b → Outside (first_word net b.middle) b.n
    destination_off d =
        let does : writes_matrix b ≡ true = ap₂ (λ (x y : Bool). not (x || y)) (ne_eqb b.kind 5 d.no_compare) (ne_eqb b.kind 7 d.no_sense) in
        outside_means _ _ (unless_true _ _ tests.0 does)

    pointer_off : (m : List ℕ) → one_word (effect_on net b t on).pointer ≡ some m → Outside (first_word net (pointer_node (kind_of b.kind) b)) (length m)
    pointer_off m q =
        let p = (writes net earlier b t r on).pointer.each m q in
        let does : writes_pointer b ≡ true =
        ap₂ ◌&&◌ (ap₂ ◌&&◌ (le-leb 5 b.kind p.kind_low) (le-leb b.kind 7 p.kind_high)) (eq-eqb (pointer_node (kind_of b.kind) b).class 4 p.held) in
        subst (Outside (first_word net (pointer_node (kind_of b.kind) b))) (sym p.one_long) (outside_means _ _ (unless_true _ _ rest.0 does))

    pub block_keeps : Keeps net i t (block_table net b t on)
    block_keeps =
        keeps t (block_table net b t on)
        (λ p h.
        coils_spare net b t on earlier r p (off_coils b p rest.1 h)
        ∙ work_spares net b t on earlier r p (λ d. off (destination_off d) h) (λ m q. off (pointer_off m q) h))
        (coils_spare_word net b t on earlier r (register_index net i) held
        ∙ work_spares_word net b t on earlier r (register_index net i) (λ d. off_word (destination_off d)) (λ m q. off_word (pointer_off m q)))

  -- ---- the block itself, after its own pointer step: its coils
  module _ (earlier : ℕ) (t : List ℕ) (r : Runs net earlier (block_of net i) t) (on : Power) (held : net.sizes.coils ≤ register_index net i)
      (compares : (block_of net i).kind ≡ 5) (e : coils_outside net i (block_of net i).coils ≡ true) where
    own : Effect
    own = effect_on net (block_of net i) t on

    -- a compare writes no destination
    no_destination : own.destination ≡ stays
    unfolding own
    no_destination = go own.destination (writes net earlier (block_of net i) t r on).destination
      where
        go : (c : Change) → Makes (Destination net (block_of net i)) (block_of net i).n c → c ≡ stays
        go stays h = refl
        go (becomes m) h = absurd (h.0.no_compare compares)
        go (puts p x) h = absurd (h.0.no_compare compares)

    step_is : with_pointer net (block_of net i) t on ≡ matrix_put (register_index net i) (one_word own.pointer) t
    unfolding own kind_of matrix_put change_put
    step_is =
        ap₂ (λ (k : ℕ) (c : Change). matrix_put (first_word net (pointer_node (kind_of k) (block_of net i))) (one_word own.pointer) (change_put (register_index net i) (block_of net i).n c t))
        compares no_destination

    pub own_keeps : Keeps net i (matrix_put (register_index net i) (one_word (effect_on net (block_of net i) t on).pointer) t) (block_table net (block_of net i) t on)
    unfolding own
    own_keeps =
        subst (λ (u : List ℕ). Keeps net i u (block_table net (block_of net i) t on)) step_is
        (keeps (with_pointer net (block_of net i) t on) (block_table net (block_of net i) t on)
        (λ p h. coils_spare net (block_of net i) t on earlier r p (off_coils (block_of net i) p e h))
        (coils_spare_word net (block_of net i) t on earlier r (register_index net i) held))
