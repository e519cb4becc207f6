-- The laws of binary digits: how `value` makes a number of them, and how division and remainder take them out again.
-- Each goes by induction on the number of digits, the last one first. Assumes nothing.
use mathlib.Core.Path.{◌≡◌, refl, sym, ap, ap₂, ◌∙◌, subst}
use mathlib.Core.Bool.{Bool, true, false, cond}
use mathlib.Core.Logic.{⊎_elim}
use Prim.Native.Nat.{ℕ, zero, suc, ◌+◌, ◌-◌, ◌*◌, ◌/◌, ◌%◌, ◌^◌, ◌<◌}
use native.Mathlib.Nat.{pow-suc, sub_self, div-one, le_of_suc-le-suc, not-suc-le-zero, eq-or-lt_of_le, div-div-eq-div-mul, mul_comm, lt-suc_self, le_step, mod-one}
use native.Mathlib.Omega.{arith}
use lib.Arith.{digits_div, digits_mod, digits_lt, mod-mul}
use lib.Dec.{eqb}
use lib.Pow.{pow_pos}
use Rattle.bits.specs.Bit.{odd, value}

-- a digit as a number
abbrev pub digit : Bool → ℕ
digit b = cond b 1 0

digit_lt : (b : Bool) → digit b < 2
digit_lt true = omega arith
digit_lt false = omega arith

-- a number's last digit, and the number before it
pub odd_last : (x : ℕ) (b : Bool) → odd (x * 2 + digit b) ≡ b
odd_last x b = ap (λ (r : ℕ). eqb r 1) (digits_mod x (digit_lt b)) ∙ below b
  where
    below : (c : Bool) → eqb (digit c) 1 ≡ c
    below true = refl
    below false = refl

-- the digit in front of the last j + 1 is that in front of the last j of the half
pub half_digit : (x j : ℕ) → x / 2 ^ suc j ≡ x / 2 / 2 ^ j
half_digit x j = ap (λ (d : ℕ). x / d) (pow-suc 2 j ∙ mul_comm (2 ^ j) 2) ∙ sym (div-div-eq-div-mul x 2 (2 ^ j))

digit_odd_go : (r : ℕ) → r < 2 → digit (eqb r 1) ≡ r
digit_odd_go zero h = refl
digit_odd_go (suc zero) h = refl
digit_odd_go (suc (suc r)) h = absurd (omega arith)

pub digit_odd : (x : ℕ) → digit (odd x) ≡ x % 2
digit_odd x = digit_odd_go (x % 2) (omega arith)

-- only the digits 1 to k count
pub value_cong : (k : ℕ) (f g : ℕ → Bool) → ((i : ℕ) → i < k → f (suc i) ≡ g (suc i)) → value k f ≡ value k g
unfolding value
value_cong zero f g e = refl
value_cong (suc k) f g e =
    ap₂ (λ (v : ℕ) (b : Bool). v * 2 + digit b) (value_cong k f g (λ i h. e i (le_step h))) (e k (lt-suc_self k))

pub value_lt : (k : ℕ) (f : ℕ → Bool) → value k f < 2 ^ k
unfolding value
value_lt zero f = omega arith
value_lt (suc k) f = subst (λ (n : ℕ). value k f * 2 + digit (f (suc k)) < n) (sym (pow-suc 2 k)) (digits_lt (value_lt k f) (digit_lt (f (suc k))))

-- the digit of `value k f` at a place is f there: the last one, and one further on from the digits before the last
pub value_digit : (k : ℕ) (f : ℕ → Bool) (i : ℕ) → i < k → odd (value k f / 2 ^ (k - suc i)) ≡ f (suc i)
unfolding value
value_digit zero f i h = absurd (not-suc-le-zero h)
value_digit (suc k) f i h = ⊎_elim last (λ l. earlier l (value_digit k f i l)) (eq-or-lt_of_le (le_of_suc-le-suc h))
  where
    v : ℕ
    v = value k f * 2 + digit (f (suc k))

    last : i ≡ k → odd (v / 2 ^ (suc k - suc i)) ≡ f (suc i)
    last e =
        ap (λ (j : ℕ). odd (v / 2 ^ j)) (ap (λ (j : ℕ). suc k - suc j) e ∙ sub_self (suc k))
        ∙ ap odd (div-one v) ∙ odd_last (value k f) (f (suc k)) ∙ ap (λ (j : ℕ). f (suc j)) (sym e)

    earlier : i < k → odd (value k f / 2 ^ (k - suc i)) ≡ f (suc i) → odd (v / 2 ^ (suc k - suc i)) ≡ f (suc i)
    earlier l e =
        ap (λ (j : ℕ). odd (v / 2 ^ j)) (omega arith)
        ∙ ap odd (half_digit v (k - suc i))
        ∙ ap (λ (x : ℕ). odd (x / 2 ^ (k - suc i))) (digits_div (value k f) (digit_lt (f (suc k))))
        ∙ e

-- the last k digits of a number make it again
pub value_of : (k x : ℕ) → value k (λ p. odd (x / 2 ^ (k - p))) ≡ x % 2 ^ k
unfolding value
value_of zero x = sym (mod-one x)
value_of (suc k) x =
    ap₂ (λ (v b : ℕ). v * 2 + b)
    (value_cong k (λ p. odd (x / 2 ^ (suc k - p))) (λ p. odd (x / 2 / 2 ^ (k - p))) halves ∙ value_of k (x / 2))
    (ap (λ (j : ℕ). digit (odd (x / 2 ^ j))) (sub_self (suc k)) ∙ ap (λ (y : ℕ). digit (odd y)) (div-one x) ∙ digit_odd x)
    ∙ sym (mod-mul x (pow_pos k) (omega arith))
    ∙ ap (λ (n : ℕ). x % n) (sym (pow-suc 2 k))
  where
    halves : (i : ℕ) → i < k → odd (x / 2 ^ (suc k - suc i)) ≡ odd (x / 2 / 2 ^ (k - suc i))
    halves i h = ap (λ (j : ℕ). odd (x / 2 ^ j)) (omega arith) ∙ ap odd (half_digit x (k - suc i))
