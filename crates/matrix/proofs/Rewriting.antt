-- The laws of a run that is rewritten in parts, from its first word on or from its last one back: a part that is rewritten beside what was
-- rewritten before makes one with it, the words outside are still the table's, and a matrix in its place is a run rewritten.
-- Assumes nothing.
use mathlib.Core.Path.{◌≡◌, refl, sym, ap, ap₂, ◌∙◌, subst}
use mathlib.Core.Bool.{Bool}
use mathlib.Core.List.{List}
use mathlib.Core.Logic.{inl, inr}
use Prim.Native.Nat.{ℕ, ◌+◌, ◌-◌, ◌*◌, ◌≤◌, ◌<◌}
use native.Mathlib.Decide.{dec_lt}
use native.Mathlib.Omega.{arith}
use lib.ListN.{length, get_or, set, length-set}
use lib.Seq.{get_or-set_same, get_or-set_other, ext_get_or}
use Rattle.bits.specs.Bit.{word_with, matrix}
use Rattle.bits.proofs.Matrix.{matrix_at, matrix_length}
use Rattle.runs.specs.Run.{placed}
use Rattle.matrix.specs.Inner.{merged_at, Rewritten}
use Rattle.matrix.proofs.Runs.{word_inside, word_outside, placed_length}

pub nothing_yet : (t : List ℕ) (word : ℕ → ℕ) (k : ℕ) → Rewritten t word k k t
nothing_yet t word k = record { long = refl; inside = λ j l u. absurd (omega arith); below = λ j l. refl; above = λ j l. refl }

-- a word that is stored
pub stored : (t : List ℕ) (at v : ℕ) → at < length t → Rewritten t (λ k. v) at (at + 1) (set t at v)
stored t at v h = record {
  long = length-set t at v;
  inside =
      λ k l u.
      let here : k ≡ at = omega arith in
      ap (λ (j : ℕ). get_or (set t at v) j 0) here ∙ get_or-set_same t at v 0 h;
  below = λ k l. get_or-set_other t at k v 0 (λ e. omega arith);
  above = λ k l. get_or-set_other t at k v 0 (λ e. omega arith);
}

module _ {t : List ℕ} {word : ℕ → ℕ} where
  -- the words wanted may be told in another way
  pub restated : {wanted : ℕ → ℕ} {from to : ℕ} {table : List ℕ} → Rewritten t word from to table → ((k : ℕ) → from ≤ k → k < to → word k ≡ wanted k)
      → Rewritten t wanted from to table
  restated r e = record { long = r.long; inside = λ k l u. r.inside k l u ∙ e k l u; below = r.below; above = r.above }

  -- and where it starts and ends
  pub since : {from other to : ℕ} {table : List ℕ} → from ≡ other → Rewritten t word from to table → Rewritten t word other to table
  since {to = to} {table = table} e = subst (λ (k : ℕ). Rewritten t word k to table) e

  pub until : {from to other : ℕ} {table : List ℕ} → to ≡ other → Rewritten t word from to table → Rewritten t word from other table
  until {from = from} {table = table} e = subst (λ (k : ℕ). Rewritten t word from k table) e

  -- what was rewritten is known whole
  pub same : {from to : ℕ} {table other : List ℕ} → Rewritten t word from to table → Rewritten t word from to other → table ≡ other
  same {from} {to} {table} {other} r q =
      ext_get_or 0 table other (r.long ∙ sym q.long)
      (λ k h. elim (dec_lt k from) [
        | yes l ↦ r.below k l ∙ sym (q.below k l)
        | no l ↦ elim (dec_lt k to) [
          | yes u ↦ r.inside k (omega arith) u ∙ sym (q.inside k (omega arith) u)
          | no u ↦ r.above k (omega arith) ∙ sym (q.above k (omega arith))
        ]
      ])

  -- ---- two parts, the second rewritten in the table that the first left
  module _ {from to : ℕ} {table : List ℕ} (r : Rewritten t word from to table) (h : from ≤ to) where
    pub then_after : {next : ℕ} {other : List ℕ} → Rewritten table word to next other → to ≤ next → Rewritten t word from next other
    then_after {next} {other} q u = record {
      long = q.long ∙ r.long;
      inside =
          λ k a b. elim (dec_lt k to) [
            | yes c ↦ q.below k c ∙ r.inside k a c
            | no c ↦ q.inside k (omega arith) b
          ];
      below = λ k a. q.below k (omega arith) ∙ r.below k a;
      above = λ k a. q.above k a ∙ r.above k (omega arith);
    }

    pub then_before : {first : ℕ} {other : List ℕ} → Rewritten table word first from other → first ≤ from → Rewritten t word first to other
    then_before {first} {other} q u = record {
      long = q.long ∙ r.long;
      inside =
          λ k a b. elim (dec_lt k from) [
            | yes c ↦ q.inside k a c
            | no c ↦ q.above k (omega arith) ∙ r.inside k (omega arith) b
          ];
      below = λ k a. q.below k a ∙ r.below k (omega arith);
      above = λ k a. q.above k (omega arith) ∙ r.above k a;
    }

-- ---- a matrix in its place
pub placing : (t : List ℕ) (d n : ℕ) (f : ℕ → Bool) → d + n ≤ length t
    → Rewritten t (λ k. word_with (λ p. f ((k - d) * 16 + p))) d (d + n) (placed t d (matrix n f))
placing t d n f h =
    let m : List ℕ = matrix n f in
    let e : length m ≡ n = matrix_length n f in
    let room : d + length m ≤ length t = omega arith in
    record {
      long = placed_length t d m room;
      inside =
          λ k a b.
          let at : d + (k - d) ≡ k = omega arith in
          ap (λ (j : ℕ). get_or (placed t d m) j 0) (sym at) ∙ word_inside t d m room (k - d) (omega arith) ∙ matrix_at n f (k - d) (omega arith);
      below = λ k a. word_outside t d m room k (inl a);
      above = λ k a. word_outside t d m room k (inr (omega arith));
    }

-- ---- what a merge makes
module _ (word : ℕ → ℕ → ℕ) (t : List ℕ) (a b at : ℕ) where
  pub merged_word : (k i j : ℕ) → i ≡ a + (k - at) → j ≡ b + (k - at) → word (get_or t i 0) (get_or t j 0) ≡ merged_at word t a b at k
  merged_word k i j x y = ap₂ (λ (v w : ℕ). word (get_or t v 0) (get_or t w 0)) x y

  -- from the i-th word on it is what it makes of the words from the i-th on
  pub from_there : (i c : ℕ) {next : ℕ} {table : List ℕ} → i + c ≡ next → Rewritten t (merged_at word t (a + i) (b + i) (at + i)) (at + i) (at + i + c) table
      → Rewritten t (merged_at word t a b at) (at + i) (at + next) table
  from_there i c e q =
      until (omega arith)
      (restated q
      (λ k l u.
      let x : a + i + (k - (at + i)) ≡ a + (k - at) = omega arith in
      let y : b + i + (k - (at + i)) ≡ b + (k - at) = omega arith in
      ap₂ (λ (v w : ℕ). word (get_or t v 0) (get_or t w 0)) x y))

  -- ---- the second part is merged of words that the first left as they were
  module _ {from to : ℕ} {table : List ℕ} (r : Rewritten t (merged_at word t a b at) from to table) (h : from ≤ to) where
    still_merged : (k : ℕ) → get_or table (a + (k - at)) 0 ≡ get_or t (a + (k - at)) 0 → get_or table (b + (k - at)) 0 ≡ get_or t (b + (k - at)) 0
        → merged_at word table a b at k ≡ merged_at word t a b at k
    still_merged k x y = ap₂ word x y

    pub merged_after : {next : ℕ} {other : List ℕ} → (at ≤ a) × (at ≤ b) → at ≤ to → to ≤ next → Rewritten table (merged_at word table a b at) to next other
        → Rewritten t (merged_at word t a b at) from next other
    merged_after p l u q =
        then_after r h (restated q (λ k v w. still_merged k (r.above (a + (k - at)) (omega arith)) (r.above (b + (k - at)) (omega arith)))) u

    pub merged_before : {first : ℕ} {other : List ℕ} → (a ≤ at) × (b ≤ at) → at ≤ first → first ≤ from → Rewritten table (merged_at word table a b at) first from other
        → Rewritten t (merged_at word t a b at) first to other
    merged_before p l u q =
        then_before r h (restated q (λ k v w. still_merged k (r.below (a + (k - at)) (omega arith)) (r.below (b + (k - at)) (omega arith)))) u
