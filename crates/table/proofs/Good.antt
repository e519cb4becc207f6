-- Good sizes and references: each is allowed, or earns nothing, exactly when its condition holds. Assumes nothing.
use mathlib.Core.Path.{◌≡◌, refl, sym, ap, ap₂}
use mathlib.Core.Bool.{Bool, true, false, cond, not, ◌&&◌, false≢true}
use Prim.Native.Nat.{ℕ, zero, suc, ◌+◌, ◌%◌, ◌≤◌}
use native.Mathlib.Omega.{arith}
use borrow.Author.Tests.{eq-eqb, le-leb, leb-true, eqb-true}
use lib.Dec.{leb, eqb}
use Rattle.level.specs.Level.{most_level}
use Rattle.section.proofs.Limits.{in_count, both}
use Rattle.table.specs.declared.sizes.Sizes.{Sizes}
use Rattle.table.specs.Table.{most_coils, most_discretes, most_inputs, most_holding, allowed, discrete, size_of, offset, bad_start, reference_fault}
use Rattle.table.specs.Sound.{GoodSizes, Placed}
use Rattle.table.proofs.References.{five, allowed_by, reference_inside}

-- ---- sizes
pub sizes_allowed : (z : Sizes) → GoodSizes z → allowed z ≡ true
sizes_allowed z g =
    allowed_by z true true true true true
    (le-leb z.coils most_coils g.coils)
    (le-leb z.discretes most_discretes g.discretes)
    (le-leb z.inputs most_inputs g.inputs)
    (le-leb z.holding most_holding g.holding)
    (in_count most_level z.level g.level_low g.level_high)

all_five : (a b c d e : Bool) → five a b c d e ≡ true → (a ≡ true) × (b ≡ true) × (c ≡ true) × (d ≡ true) × (e ≡ true)
all_five true true true true true h = (refl, refl, refl, refl, refl)
all_five true true true true false h = absurd (false≢true h)
all_five true true true false e h = absurd (false≢true h)
all_five true true false d e h = absurd (false≢true h)
all_five true false c d e h = absurd (false≢true h)
all_five false b c d e h = absurd (false≢true h)

pub allowed_sizes : (z : Sizes) → allowed z ≡ true → GoodSizes z
allowed_sizes z h =
    let t =
    all_five (leb z.coils most_coils) (leb z.discretes most_discretes) (leb z.inputs most_inputs) (leb z.holding most_holding)
    (leb 1 z.level && leb z.level most_level) h in
    let level = both (leb 1 z.level) (leb z.level most_level) t.4 in
    record {
      coils = leb-true z.coils most_coils t.0;
      discretes = leb-true z.discretes most_discretes t.1;
      inputs = leb-true z.inputs most_inputs t.2;
      holding = leb-true z.holding most_holding t.3;
      level_low = leb-true 1 z.level level.0;
      level_high = leb-true z.level most_level level.1;
    }

-- ---- references
aligned_from : (d r : Bool) → (d && not r) ≡ false → d ≡ true → r ≡ true
aligned_from true true p q = refl
aligned_from true false p q = absurd (false≢true (sym p))
aligned_from false r p q = absurd (false≢true q)

positive : (m : ℕ) → eqb m 0 ≡ false → 1 ≤ m
positive zero r = absurd (false≢true (sym r))
positive (suc m) r = omega arith

three : (a b c : Bool) → ◌≡◌ {A = ℕ} (cond a 6 (cond b 7 (cond c 0 8))) 0 → (a ≡ false) × (b ≡ false) × (c ≡ true)
three true b c h = absurd (omega arith)
three false true c h = absurd (omega arith)
three false false true h = (refl, refl, refl)
three false false false h = absurd (omega arith)

pub placed : (z : Sizes) (class number words : ℕ) → reference_fault z class number words ≡ 0 → Placed z class number words
unfolding reference_fault
placed z class number words e =
    let t = three (eqb number 0) (bad_start class number) (leb (offset class number + words) (size_of z class)) e in
    record {
      counted = positive number t.0;
      aligned = λ d. eqb-true (number % 16) 1 (aligned_from (discrete class) (eqb (number % 16) 1) t.1 d);
      inside = leb-true (offset class number + words) (size_of z class) t.2;
    }

pub unplaced : (z : Sizes) (class number words : ℕ) → Placed z class number words → reference_fault z class number words ≡ 0
unplaced z class number words p = reference_inside z class number words (λ e. omega (arith, p.counted)) (go (discrete class) refl) p.inside
  where
    go : (d : Bool) → discrete class ≡ d → bad_start class number ≡ false
    go true e = ap₂ (λ (x y : Bool). x && not y) e (eq-eqb (number % 16) 1 (p.aligned e))
    go false e = ap (λ (x : Bool). x && not (eqb (number % 16) 1)) e
