-- The laws of the tests by a limit: what a number earns in each case, and what it is where it earns nothing. Assumes nothing.
use mathlib.Core.Path.{◌≡◌, refl, ap}
use mathlib.Core.Bool.{Bool, true, false, cond, ◌&&◌, false≢true}
use Prim.Native.Nat.{ℕ, ◌≤◌, ◌<◌}
use native.Mathlib.Decide.{dec_le}
use native.Mathlib.Nat.{lt_of_not-le}
use borrow.Author.Tests.{le-leb, lt-leb, leb-true}
use lib.Dec.{leb}
use Rattle.section.specs.Limit.{counted, up_to}

-- ---- a number from 1 to most
pub in_count : (most k : ℕ) → 1 ≤ k → k ≤ most → (leb 1 k && leb k most) ≡ true
in_count most k l u = simp (le-leb 1 k l, le-leb k most u)

pub below_count : (most k : ℕ) → k < 1 → (leb 1 k && leb k most) ≡ false
below_count most k l = simp (lt-leb 1 k l)

pub above_count : (most k : ℕ) → 1 ≤ k → most < k → (leb 1 k && leb k most) ≡ false
above_count most k l u = simp (le-leb 1 k l, lt-leb k most u)

-- ---- what it earns
pub counted_in : (most n refusal : ℕ) → 1 ≤ n → n ≤ most → counted most n refusal ≡ 0
counted_in most n refusal l u = ap (λ (b : Bool). cond b 0 refusal) (in_count most n l u)

pub counted_low : (most n refusal : ℕ) → n < 1 → counted most n refusal ≡ refusal
counted_low most n refusal l = ap (λ (b : Bool). cond b 0 refusal) (below_count most n l)

pub counted_high : (most n refusal : ℕ) → 1 ≤ n → most < n → counted most n refusal ≡ refusal
counted_high most n refusal l u = ap (λ (b : Bool). cond b 0 refusal) (above_count most n l u)

pub up_to_in : (most n refusal : ℕ) → n ≤ most → up_to most n refusal ≡ 0
up_to_in most n refusal l = ap (λ (b : Bool). cond b 0 refusal) (le-leb n most l)

pub up_to_out : (most n refusal : ℕ) → most < n → up_to most n refusal ≡ refusal
up_to_out most n refusal l = ap (λ (b : Bool). cond b 0 refusal) (lt-leb n most l)

-- ---- a test that earns a number or nothing
pub earns : (b : Bool) (k : ℕ) → (k ≡ 0 → ⊥) → cond b 0 k ≡ 0 → b ≡ true
earns true k h e = refl
earns false k h e = absurd (h e)

pub nothing : (b : Bool) (k : ℕ) → b ≡ true → cond b 0 k ≡ 0
nothing b k e = ap (λ (x : Bool). cond x 0 k) e

pub both : (a b : Bool) → (a && b) ≡ true → (a ≡ true) × (b ≡ true)
both true true e = (refl, refl)
both true false e = absurd (false≢true e)
both false b e = absurd (false≢true e)

pub count_of : (most n refusal : ℕ) → (refusal ≡ 0 → ⊥) → counted most n refusal ≡ 0 → (1 ≤ n) × (n ≤ most)
count_of most n refusal h e =
    let t = both (leb 1 n) (leb n most) (earns (leb 1 n && leb n most) refusal h e) in
    (leb-true 1 n t.0, leb-true n most t.1)

pub most_of : (most n refusal : ℕ) → (refusal ≡ 0 → ⊥) → up_to most n refusal ≡ 0 → n ≤ most
most_of most n refusal h e = leb-true n most (earns (leb n most) refusal h e)

-- ---- a number that is none of those below n is n or more
pub none_below : (n q : ℕ) → ((i : ℕ) → i < n → q ≡ i → ⊥) → n ≤ q
none_below n q h = elim (dec_le n q) [ yes l ↦ l | no l ↦ absurd (h q (lt_of_not-le l) refl) ]
