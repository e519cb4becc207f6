-- The digits of a number are the kit's: the digits one by one, their count by the five cases of `places`.
use mathlib.Core.Path.{◌≡◌, refl, sym, ap, ap₂, subst}
use mathlib.Core.List.{List, [], ◌∷◌, ◌++◌}
use mathlib.Core.Bool.{Bool, cond}
use Prim.Native.Nat.{ℕ, zero, suc, ◌+◌, ◌/◌, ◌%◌, ◌<◌}
use native.Mathlib.Decide.{dec_lt}
use native.Mathlib.Omega.{arith}
use borrow.Author.Tests.{lt-ltb}
use Rattle.section.proofs.Walk.{le_of_not_lt}
use Rattle.io.specs.Digits.{IsDigitCount, last_digits as kit_digits}
use Rattle.text.specs.Text.{places, digits, decimal, AsTheKit}
use Rattle.text.proofs.Putting.{places_1, places_2, places_3, places_4, places_5}

same_digits : (k n : ℕ) → digits k n ≡ kit_digits 10 k n
unfolding digits
same_digits zero n = refl
same_digits (suc k) n =
    ap₂ (λ (x : List ℕ) (d : ℕ). x ++ d ∷ [])
    (same_digits k (n / 10))
    (sym (ap (λ (b : Bool). cond b (48 + n % 10) (87 + n % 10)) (lt-ltb (n % 10) 10 (omega arith))))

module _ (n : ℕ) where
  counted : {k : ℕ} → places n ≡ k → IsDigitCount 10 1 n k → IsDigitCount 10 1 n (places n)
  counted e f = subst (IsDigitCount 10 1 n) (sym e) f

  fewest : n < 65536 → IsDigitCount 10 1 n (places n)
  fewest l = elim (dec_lt n 10) [
    | yes a ↦ counted (places_1 n a) (omega arith, a, λ (q : 1 < 1). omega (arith, q))
    | no a ↦ elim (dec_lt n 100) [
      | yes b ↦ counted (places_2 n (le_of_not_lt a) b) (omega arith, b, λ (q : 1 < 2). le_of_not_lt a)
      | no b ↦ elim (dec_lt n 1000) [
        | yes d ↦ counted (places_3 n (le_of_not_lt b) d) (omega arith, d, λ (q : 1 < 3). le_of_not_lt b)
        | no d ↦ elim (dec_lt n 10000) [
          | yes e ↦ counted (places_4 n (le_of_not_lt d) e) (omega arith, e, λ (q : 1 < 4). le_of_not_lt d)
          | no e ↦ counted (places_5 n (le_of_not_lt e)) (omega arith, omega (arith, l), λ (q : 1 < 5). le_of_not_lt e)
        ]
      ]
    ]
  ]

pub as_the_kit : AsTheKit
unfolding decimal
as_the_kit n l = (fewest n l, same_digits (places n) n)
