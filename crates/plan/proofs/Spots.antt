-- The laws of spots: a spot put in the state is its coil put in the table, and its index lies in the table. Assumes nothing.
use mathlib.Core.Path.{◌≡◌, refl, sym, ap, ◌∙◌, subst}
use mathlib.Core.Bool.{Bool, true, false, not, cond, ◌&&◌, ◌||◌}
use mathlib.Core.List.{List, [], ◌∷◌, ◌++◌}
use Prim.Native.Nat.{ℕ, zero, suc, ◌+◌, ◌-◌, ◌*◌, ◌/◌, ◌%◌, ◌^◌, ◌≤◌, ◌<◌}
use native.Mathlib.Nat.{zero-add}
use native.Mathlib.Omega.{arith}
use borrow.Author.Tests.{ne_eqb}
use lib.Bits.{and_lt, or_lt}
use lib.ListN.{length, get_or, take, set, get_or-append}
use lib.Pow.{pow-lt}
use lib.Seq.{set-append_left}
use Rattle.bits.specs.Bit.{of, word_with}
use Rattle.bits.specs.Word.{put}
use Rattle.bits.proofs.Laws.{word_of, and_of, or_of, complement_of, one_of}
use Rattle.matrix.specs.Single.{bit_put}
use Rattle.matrix.proofs.Singles.{put_stored}
use Rattle.table.specs.declared.sizes.Sizes.{Sizes}
use Rattle.table.specs.Table.{total}
use Rattle.record.specs.declared.Coils.{Coils}
use Rattle.network.specs.Network.{Network}
use Rattle.blocks.specs.declared.Outputs.{Outputs}
use Rattle.blocks.specs.Work.{coil_put, coils_put}
use Rattle.blocks.proofs.Puts.{coil_length}
use Rattle.plan.specs.declared.Spot.{Spot}
use Rattle.plan.specs.Plan.{mask_of, spot, spot_of}
use Rattle.plan.specs.Seen.{masked, spot_put, spot_inside}
use Rattle.std.specs.Prelude.{Option, Some, None}
use Rattle.plan.proofs.Seeing.{mask_high}

-- every word of a list is below 2 ^ 16, as it is of a lent one
abbrev pub Small : List ℕ → Type 0
Small s = (k : ℕ) → get_or s k 0 < 2 ^ 16

pub small_set : (s : List ℕ) (i v : ℕ) → Small s → v < 2 ^ 16 → Small (set s i v)
small_set [] i v h l k = h k
small_set (w ∷ s) zero v h l zero = l
small_set (w ∷ s) zero v h l (suc k) = h (suc k)
small_set (w ∷ s) (suc i) v h l zero = h zero
small_set (w ∷ s) (suc i) v h l (suc k) = small_set s i v (λ j. h (suc j)) l k

pub small_take : (n : ℕ) (s : List ℕ) → Small s → Small (take n s)
small_take zero s h k = omega arith
small_take (suc n) [] h k = h k
small_take (suc n) (w ∷ s) h zero = h zero
small_take (suc n) (w ∷ s) h (suc k) = small_take n s (λ j. h (suc j)) k

-- ---- a word with the mask's bit put
masked_small : (w m : ℕ) (on : Bool) → w < 2 ^ 16 → m < 2 ^ 16 → masked w m on < 2 ^ 16
masked_small w m true h l = or_lt 16 w m h l
masked_small w m false h l = and_lt 16 w (65535 - m) h (omega arith)

masked_table : (b e on : Bool) → cond on (b || e) (b && not e) ≡ cond e on b
masked_table true true true = refl
masked_table true true false = refl
masked_table true false true = refl
masked_table true false false = refl
masked_table false true true = refl
masked_table false true false = refl
masked_table false false true = refl
masked_table false false false = refl

masked_of : (w m i : ℕ) (on : Bool) → m < 2 ^ 16 → i < 16
    → of (masked w m on) (suc i) ≡ cond on (of w (suc i) || of m (suc i)) (of w (suc i) && not (of m (suc i)))
masked_of w m i true h l = or_of w m i l
masked_of w m i false h l = and_of w (65535 - m) i l ∙ ap (λ (e : Bool). of w (suc i) && e) (complement_of m i h l)

pub masked_put : (w j : ℕ) (on : Bool) → w < 2 ^ 16 → j < 16 → masked w (2 ^ (15 - j)) on ≡ word_with (put w (j + 1) on)
masked_put w j on h l =
    let m : ℕ = 2 ^ (15 - j) in
    let low : m < 2 ^ 16 = pow-lt {j = 16} (omega arith) in
    let worth : 15 - j ≡ 16 - (j + 1) = omega arith in
    word_of (masked w m on) (put w (j + 1) on) (masked_small w m on h low)
    (λ i k.
    masked_of w m i on low k
    ∙ masked_table (of w (suc i)) (of m (suc i)) on
    ∙ ap (λ (e : Bool). cond e on (of w (suc i))) (ap (λ (n : ℕ). of (2 ^ n) (suc i)) worth ∙ one_of (j + 1) i (λ e. omega arith) (omega arith) k))

pub spot_named : (number : ℕ) → (number ≡ 0 → ⊥) → spot_of number ≡ Some (spot ((number - 1) / 16) (mask_of (number - 1)))
unfolding spot_of
spot_named number h = ap (λ (a : Bool). cond a None (Some (spot ((number - 1) / 16) (mask_of (number - 1))))) (ne_eqb number 0 h)

-- ---- a coil that has a number
module _ (net : Network) (number : ℕ) (some : number ≡ 0 → ⊥) (few : number ≤ 16 * net.sizes.coils) (t : List ℕ) (long : length t ≡ total net.sizes) (small : Small t) (on : Bool) where
  stored : List ℕ
  stored = set t ((number - 1) / 16) (masked (get_or t ((number - 1) / 16) 0) (mask_of (number - 1)) on)

  stored_small : Small stored
  unfolding stored
  stored_small =
      small_set t ((number - 1) / 16) _ small
      (masked_small (get_or t ((number - 1) / 16) 0) (mask_of (number - 1)) on (small ((number - 1) / 16)) (omega (arith, mask_high (number - 1))))

  coil_stored : coil_put net number on t ≡ stored
  unfolding coil_put stored
  coil_stored =
      let i : ℕ = (number - 1) / 16 in
      let from : 0 + i ≡ i = zero-add i in
      ap (λ (a : Bool). cond a t (bit_put t 0 net.sizes.coils number on)) (ne_eqb number 0 some)
      ∙ sym (put_stored t 0 net.sizes.coils number (omega arith) (omega arith) few on small
      (masked (get_or t (0 + i) 0) (mask_of (number - 1)) on)
      (masked_put (get_or t (0 + i) 0) ((number - 1) % 16) on (small (0 + i)) (omega arith)))
      ∙ ap (λ (k : ℕ). set t k (masked (get_or t k 0) (mask_of (number - 1)) on)) from

  state_stored : (r : List ℕ) → spot_put (t ++ r) (spot_of number) on ≡ stored ++ r
  unfolding stored
  state_stored r =
      let i : ℕ = (number - 1) / 16 in
      let inside : i < length t = omega arith in
      let same : get_or (t ++ r) i 0 ≡ get_or t i 0 = get_or-append t r 0 i inside in
      ap (λ (p : Option Spot). spot_put (t ++ r) p on) (spot_named number some)
      ∙ ap (λ (w : ℕ). set (t ++ r) i (masked w (mask_of (number - 1)) on)) same
      ∙ set-append_left t r i _ inside

-- ---- a coil of any number
module _ (net : Network) where
  pub spot_coil : (number : ℕ) → number ≤ 16 * net.sizes.coils → (t r : List ℕ) → length t ≡ total net.sizes → Small t → (on : Bool)
      → spot_put (t ++ r) (spot_of number) on ≡ coil_put net number on t ++ r
  unfolding spot_of coil_put
  spot_coil zero few t r long small on = refl
  spot_coil (suc i) few t r long small on =
      let some : suc i ≡ 0 → ⊥ = λ e. omega arith in
      state_stored net (suc i) some few t long small on r ∙ ap (λ (s : List ℕ). s ++ r) (sym (coil_stored net (suc i) some few t long small on))

  pub coil_small : (number : ℕ) → number ≤ 16 * net.sizes.coils → (t : List ℕ) → length t ≡ total net.sizes → Small t → (on : Bool)
      → Small (coil_put net number on t)
  unfolding coil_put
  coil_small zero few t long small on = small
  coil_small (suc i) few t long small on =
      let some : suc i ≡ 0 → ⊥ = λ e. omega arith in
      subst Small (sym (coil_stored net (suc i) some few t long small on)) (stored_small net (suc i) some few t long small on)

  coil_long : (number : ℕ) (t : List ℕ) → length t ≡ total net.sizes → (on : Bool) → length (coil_put net number on t) ≡ total net.sizes
  coil_long number t long on = coil_length net number on t (omega arith) ∙ long

  -- the three coils of a block
  pub spots_coils : (coils : Coils) → coils.top ≤ 16 * net.sizes.coils → coils.middle ≤ 16 * net.sizes.coils → coils.bottom ≤ 16 * net.sizes.coils
      → (t r : List ℕ) → length t ≡ total net.sizes → Small t → (out : Outputs)
      → spot_put (spot_put (spot_put (t ++ r) (spot_of coils.top) out.top) (spot_of coils.middle) out.middle) (spot_of coils.bottom) out.bottom
      ≡ coils_put net coils out t ++ r
  spots_coils coils top middle bottom t r long small out =
      let one : List ℕ = coil_put net coils.top out.top t in
      let two : List ℕ = coil_put net coils.middle out.middle one in
      let one_long : length one ≡ total net.sizes = coil_long coils.top t long out.top in
      let one_small : Small one = coil_small coils.top top t long small out.top in
      let two_long : length two ≡ total net.sizes = coil_long coils.middle one one_long out.middle in
      let two_small : Small two = coil_small coils.middle middle one one_long one_small out.middle in
      ap (λ (s : List ℕ). spot_put (spot_put s (spot_of coils.middle) out.middle) (spot_of coils.bottom) out.bottom)
      (spot_coil coils.top top t r long small out.top)
      ∙ ap (λ (s : List ℕ). spot_put s (spot_of coils.bottom) out.bottom) (spot_coil coils.middle middle one r one_long one_small out.middle)
      ∙ spot_coil coils.bottom bottom two r two_long two_small out.bottom

-- ---- where a spot stands
pub spot_room : (z : Sizes) (number : ℕ) → number ≤ 16 * z.coils → (words : ℕ) → total z ≤ words → spot_inside words (spot_of number)
unfolding spot_of
spot_room z zero few words l = omega arith
spot_room z (suc i) few words l =
    let low : (suc i - 1) / 16 < words = omega (arith, few, l) in
    subst (spot_inside words) (sym (spot_named (suc i) (λ q. omega arith))) low
