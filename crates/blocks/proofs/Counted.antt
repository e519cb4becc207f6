-- What a compare counts: the pairs that it examines, at most 16n; other kinds count none. Assumes nothing.
use mathlib.Core.Path.{◌≡◌, refl, sym, ap, ap₂, ◌∙◌, subst}
use mathlib.Core.Bool.{Bool, true, false, cond, ◌&&◌}
use mathlib.Core.List.{List}
use mathlib.Core.Option.{Option, none, some}
use Prim.Native.Nat.{ℕ, zero, suc, ◌+◌, ◌-◌, ◌*◌, ◌≤◌, ◌<◌}
use native.Mathlib.Omega.{arith}
use borrow.Author.Tests.{eqb-true, eqb-false, ne_eqb, ltb-true, ltb-false, lt-ltb, le-ltb}
use lib.Dec.{eqb, ltb}
use Rattle.matrix.specs.declared.logic.Operation.{Operation}
use Rattle.matrix.specs.declared.logic.Operation.TheVariants.{And, Or, Xor, Comp}
use Rattle.search.specs.Search.{differing, first, first_differing}
use Rattle.rules.proofs.KindFacts.{accepted_means}
use Rattle.record.specs.declared.Block.{Block}
use Rattle.network.specs.Network.{Network}
use Rattle.blocks.specs.declared.Power.{Power}
use Rattle.blocks.specs.Kind.{Kind, kind_of}
use Rattle.blocks.specs.Kind.Kind.{AND, OR, XOR, COMP, CMPR, MBIT, SENS, BROT}
use Rattle.blocks.specs.View.{View, view}
use Rattle.blocks.specs.Effect.{Effect, idle, logic, zeroed, starts_at, found, compare, rotate, modify, at_one, sense, effect_of}
use Rattle.blocks.specs.Work.{effect_as, block_outputs}
use Rattle.blocks.specs.Truths.{in_vain, looked_at, how_many, CountsPairs, CountAtMost, OnlyComparesCount, CountFits}

-- ---- how many positions a predicate is on at
none_on : (f : ℕ → Bool) (k : ℕ) → ((p : ℕ) → p ≤ k → f p ≡ false) → how_many f k ≡ 0
unfolding how_many
none_on f zero h = refl
none_on f (suc k) h = ap₂ (λ (m : ℕ) (a : Bool). m + cond a 1 0) (none_on f k (λ p l. h p (omega arith))) (h (suc k) (omega arith))

at_most_all : (f : ℕ → Bool) (k : ℕ) → how_many f k ≤ k
unfolding how_many
at_most_all f zero = omega arith
at_most_all f (suc k) = go (f (suc k)) (at_most_all f k)
  where
    go : (a : Bool) → how_many f k ≤ k → how_many f k + cond a 1 0 ≤ suc k
    go true l = omega arith
    go false l = omega arith

-- ---- the search, with one position more at its end
abbrev or_else : Option ℕ → Option ℕ → Option ℕ
or_else none o = o
or_else (some p) o = some p

first_last : (f : ℕ → Bool) (k i : ℕ) → first f i (suc k) ≡ or_else (first f i k) (cond (f (suc (i + k))) (some (suc (i + k))) none)
unfolding first
first_last f zero i = let e : i ≡ i + 0 = omega arith in ap (λ (p : ℕ). cond (f (suc p)) (some (suc p)) none) e
first_last f (suc k) i = go (f (suc i)) (first_last f k (suc i))
  where
    last : ℕ → Option ℕ
    last p = cond (f (suc p)) (some (suc p)) none

    go : (a : Bool) → first f (suc i) (suc k) ≡ or_else (first f (suc i) k) (last (suc i + k))
        → cond a (some (suc i)) (first f (suc i) (suc k)) ≡ or_else (cond a (some (suc i)) (first f (suc i) k)) (last (i + suc k))
    go true e = refl
    go false e = let n : suc i + k ≡ i + suc k = omega arith in e ∙ ap (λ (p : ℕ). or_else (first f (suc i) k) (last p)) n

-- ---- the pairs that a search examines
module _ (v : View) (i : ℕ) where
  abbrev f : ℕ → Bool
  f = differing v.source v.destination

  abbrev reached : ℕ → Option ℕ → ℕ
  reached k none = i + k
  reached k (some p) = p

  -- no position up to the start is examined
  none_looked : (k : ℕ) → k ≤ i → how_many (looked_at v i) k ≡ 0
  none_looked k u = none_on (looked_at v i) k (λ p l. ap (λ (a : Bool). a && in_vain (first f i (p - 1 - i))) (le-ltb i p (omega arith)))

  examined : (k : ℕ) → how_many (looked_at v i) (i + k) ≡ reached k (first f i k) - i
  unfolding first how_many
  examined zero = none_looked (i + 0) (omega arith) ∙ omega arith
  examined (suc k) =
      ap (how_many (looked_at v i)) next
      ∙ ap₂ (λ (m : ℕ) (a : Bool). m + cond a 1 0) (examined k) last_looked
      ∙ go (first f i k) (f (suc (i + k)))
      ∙ ap (λ (o : Option ℕ). reached (suc k) o - i) (sym (first_last f k i))
    where
      next : i + suc k ≡ suc (i + k)
      next = omega arith

      last_looked : looked_at v i (suc (i + k)) ≡ in_vain (first f i k)
      last_looked =
          let e : suc (i + k) - 1 - i ≡ k = omega arith in
          ap₂ (λ (a : Bool) (m : ℕ). a && in_vain (first f i m)) (lt-ltb i (suc (i + k)) (omega arith)) e

      go : (o : Option ℕ) (a : Bool) → reached k o - i + cond (in_vain o) 1 0 ≡ reached (suc k) (or_else o (cond a (some (suc (i + k))) none)) - i
      go none true = omega arith
      go none false = omega arith
      go (some p) a = omega arith

-- ---- a compare
module _ (n : ℕ) (v : View) (on : Power) where
  abbrev from : ℕ
  from = starts_at n v on

  found_counts : (o : Option ℕ) → (found n v from o).count ≡ reached v from (16 * n - from) o - from
  unfolding found
  found_counts none = omega arith
  found_counts (some p) = refl

  power_counts : (found n v from (first_differing v.source v.destination n from)).count ≡ how_many (looked_at v from) (16 * n)
  power_counts =
      found_counts (first_differing v.source v.destination n from)
      ∙ sym (examined v from (16 * n - from))
      ∙ go (ltb (16 * n) from) refl
    where
      -- a start past the end has no position above it
      go : (a : Bool) → ltb (16 * n) from ≡ a → how_many (looked_at v from) (from + (16 * n - from)) ≡ how_many (looked_at v from) (16 * n)
      go true e = none_looked v from (from + (16 * n - from)) (omega (arith, ltb-true (16 * n) from e)) ∙ sym (none_looked v from (16 * n) (omega (arith, ltb-true (16 * n) from e)))
      go false e = let whole : from + (16 * n - from) ≡ 16 * n = omega (arith, ltb-false (16 * n) from e) in ap (how_many (looked_at v from)) whole

pub counts_pairs : CountsPairs
unfolding compare
counts_pairs n v on = go on.top
  where
    go : (a : Bool)
        → (cond a (found n v (starts_at n v on) (first_differing v.source v.destination n (starts_at n v on))) (idle (cond on.middle (some (zeroed n v on).at) none))).count
        ≡ cond a (how_many (looked_at v (starts_at n v on)) (16 * n)) 0
    go true = power_counts n v on
    go false = refl

compare_at_most : (n : ℕ) (v : View) (on : Power) → (compare n v on).count ≤ 16 * n
compare_at_most n v on = subst (λ (m : ℕ). m ≤ 16 * n) (sym (counts_pairs n v on)) (go on.top)
  where
    go : (a : Bool) → cond a (how_many (looked_at v (starts_at n v on)) (16 * n)) 0 ≤ 16 * n
    go true = at_most_all (looked_at v (starts_at n v on)) (16 * n)
    go false = omega arith

-- ---- the other kinds
module _ (b : Block) (on : Power) (views : Kind → View) where
  counts : Kind → ℕ
  counts kind = (effect_as kind b (views kind) on).count

  abbrev None : Kind → Type 0
  None kind = counts kind ≡ 0

  one_of : (a : Bool) (x y : Effect) → x.count ≡ 0 → y.count ≡ 0 → (cond a x y).count ≡ 0
  one_of true x y h k = h
  one_of false x y h k = k

  logic_none : (operation : Operation) (v : View) → (logic operation b.n v on).count ≡ 0
  unfolding logic
  logic_none operation v = one_of on.top _ _ refl refl

  rotate_none : (v : View) → (rotate b.n v on).count ≡ 0
  unfolding rotate
  rotate_none v = one_of on.top _ _ refl refl

  modify_none : (held : Bool) (v : View) → (modify held b.n v on).count ≡ 0
  unfolding modify
  modify_none held v = one_of on.top _ _ (one_of (ltb (16 * b.n) v.pointer) _ _ refl refl) refl

  sense_none : (held : Bool) (v : View) → (sense held b.n v on).count ≡ 0
  unfolding sense
  sense_none held v = one_of on.top _ _ (one_of (ltb (16 * b.n) (at_one held b.n v on).at) _ _ refl refl) refl

  either : (a : Bool) (x y : Kind) → None x → None y → None (cond a x y)
  either true x y h k = h
  either false x y h k = k

  none_counted : (k : ℕ) → (k ≡ 5 → ⊥) → None (kind_of k)
  unfolding kind_of effect_of counts
  none_counted k other =
      either (eqb k 1) AND _ (logic_none And (views AND))
      (either (eqb k 2) OR _ (logic_none Or (views OR))
      (either (eqb k 3) XOR _ (logic_none Xor (views XOR))
      (either (eqb k 4) COMP _ (logic_none Comp (views COMP))
      (subst (λ (a : Bool). None (cond a CMPR (cond (eqb k 6) MBIT (cond (eqb k 7) SENS BROT)))) (sym (ne_eqb k 5 other))
      (either (eqb k 6) MBIT _ (modify_none (eqb b.top.class 4) (views MBIT))
      (either (eqb k 7) SENS BROT (sense_none (eqb b.top.class 4) (views SENS)) (rotate_none (views BROT))))))))

pub only_compares_count : OnlyComparesCount
unfolding block_outputs counts
only_compares_count net b t other on = none_counted b on (λ kind. view kind net b t) b.kind other

-- a block's count, where it is a compare and where it is none
compare_counts : (net : Network) (b : Block) (t : List ℕ) (on : Power) → b.kind ≡ 5 → (block_outputs net b t on).count ≡ (compare b.n (view CMPR net b t) on).count
unfolding block_outputs kind_of effect_of
compare_counts net b t on e = ap (λ (k : ℕ). (effect_as (kind_of k) b (view (kind_of k) net b t) on).count) e

pub count_at_most : CountAtMost
count_at_most net b t on = go (eqb b.kind 5) refl
  where
    go : (a : Bool) → eqb b.kind 5 ≡ a → (block_outputs net b t on).count ≤ 16 * b.n
    go true e = subst (λ (m : ℕ). m ≤ 16 * b.n) (sym (compare_counts net b t on (eqb-true b.kind 5 e))) (compare_at_most b.n (view CMPR net b t) on)
    go false e = omega (arith, only_compares_count net b t (eqb-false b.kind 5 e) on)

pub count_fits : CountFits
count_fits net earlier b t good on = go (eqb b.kind 5) refl
  where
    go : (a : Bool) → eqb b.kind 5 ≡ a → (block_outputs net b t on).count < 8192
    go true e = omega (arith, count_at_most net b t on, ((accepted_means net.sizes earlier b good).compare (eqb-true b.kind 5 e)).few)
    go false e = omega (arith, only_compares_count net b t (eqb-false b.kind 5 e) on)
