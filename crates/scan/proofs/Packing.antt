-- Outputs that are packed and unpacked are the same where their count has room; so are those of a list, and of the first blocks of a scan.
--
use mathlib.Core.Path.{◌≡◌, refl, sym, ap₂, subst}
use mathlib.Core.Bool.{Bool, true, false, cond}
use mathlib.Core.List.{List, [], ◌∷◌, ◌++◌, map}
use Prim.Native.Nat.{ℕ, zero, suc, ◌/◌, ◌%◌, ◌≤◌, ◌<◌}
use native.Mathlib.Omega.{arith}
use borrow.Author.Tests.{eq-eqb, ne_eqb}
use lib.Dec.{eqb}
use lib.ListN.{get_or, get_or-map}
use Rattle.bits.specs.Bit.{bit}
use Rattle.network.specs.Network.{Network, block_of, block_count}
use Rattle.network.specs.Sound.{GoodNetwork}
use Rattle.blocks.specs.declared.Outputs.{Outputs}
use Rattle.blocks.specs.Answer.{no_outputs}
use Rattle.blocks.specs.Work.{shows}
use Rattle.blocks.specs.Packed.{packed, unpacked}
use Rattle.blocks.proofs.Counted.{count_fits}
use Rattle.inputs.specs.Input.{power_on}
use Rattle.scan.specs.Scan.{State, step, steps, scanned}
use Rattle.scan.specs.Truths.{UnpackPack}
use Rattle.scan.proofs.Scanning.{after, after_next, after_all}

-- ---- one number: three binary digits, and the count above them
small : (a : Bool) → cond a 1 0 ≤ 1
small true = omega arith
small false = omega arith

is_digit : (a : Bool) (x : ℕ) → x ≡ cond a 1 0 → eqb x 1 ≡ a
is_digit true x e = eq-eqb x 1 e
is_digit false x e = ne_eqb x 1 (λ q. omega arith)

pub unpack_pack : UnpackPack
unfolding bit
unpack_pack o fits = λ i. shows (top i) (middle i) (bottom i) (count i)
  where
    top : (unpacked (packed o)).top ≡ o.top
    top = is_digit o.top (packed o / 1 % 2) (omega (arith, small o.top, small o.middle, small o.bottom))

    middle : (unpacked (packed o)).middle ≡ o.middle
    middle = is_digit o.middle (packed o / 2 % 2) (omega (arith, small o.top, small o.middle, small o.bottom))

    bottom : (unpacked (packed o)).bottom ≡ o.bottom
    bottom = is_digit o.bottom (packed o / 4 % 2) (omega (arith, small o.top, small o.middle, small o.bottom))

    count : (unpacked (packed o)).count ≡ o.count
    count = omega (arith, fits, small o.top, small o.middle, small o.bottom)

-- ---- a list of outputs
-- by their numbers
pub packed_at : (outs : List Outputs) (i : ℕ) → get_or (map packed outs) i 0 ≡ packed (get_or outs i no_outputs)
packed_at outs i = get_or-map packed outs i no_outputs

-- each count has room
unfoldable pub Fit : List Outputs → Type 0
Fit [] = Unit
Fit (o ∷ os) = (o.count < 8192) × Fit os

fit_more : (os : List Outputs) (o : Outputs) → Fit os → o.count < 8192 → Fit (os ++ o ∷ [])
unfolding Fit
fit_more [] o h l = (l, tt)
fit_more (x ∷ os) o h l = (h.0, fit_more os o h.1 l)

pub fit_at : (os : List Outputs) → Fit os → (i : ℕ) → (get_or os i no_outputs).count < 8192
unfolding Fit
fit_at [] h i = omega arith
fit_at (o ∷ os) h zero = h.0
fit_at (o ∷ os) h (suc i) = fit_at os h.1 i

all_back : (os : List Outputs) → Fit os → map unpacked (map packed os) ≡ os
unfolding Fit
all_back [] h = refl
all_back (o ∷ os) h = ap₂ (λ (x : Outputs) (xs : List Outputs). x ∷ xs) (unpack_pack o h.0) (all_back os h.1)

-- ---- the first k blocks of a scan, and all of them
module _ (net : Network) (t : List ℕ) (good : GoodNetwork net) where
  fit_after : (k : ℕ) → k ≤ block_count net → Fit (after net t k).outs
  unfolding Fit after steps step
  fit_after zero l = tt
  fit_after (suc k) l =
      subst (λ (s : State). Fit s.outs) (sym (after_next net t k (omega arith)))
      (fit_more (after net t k).outs _ (fit_after k (omega arith))
      (count_fits net k (block_of net k) (after net t k).table (good.blocks k (omega arith))
      (power_on net (after net t k).table (after net t k).outs (block_of net k).inputs)))

  pub back_after : (k : ℕ) → k ≤ block_count net → map unpacked (map packed (after net t k).outs) ≡ (after net t k).outs
  back_after k l = all_back (after net t k).outs (fit_after k l)

  pub packed_whole : Fit (scanned net t).outs
  packed_whole = subst (λ (s : State). Fit s.outs) (after_all net t) (fit_after (block_count net) (omega arith))

  pub back_whole : map unpacked (map packed (scanned net t).outs) ≡ (scanned net t).outs
  back_whole = all_back (scanned net t).outs packed_whole
