-- The numbering of bits against outside cases: published values and their positions, and the
-- worth of bits 1 and 16. Computed by the definitions. Assumes nothing.
use mathlib.Core.Path.{◌≡◌, refl}
use mathlib.Core.Bool.{Bool, true, false, cond}
use mathlib.Core.List.{List, [], ◌∷◌}
use Prim.Native.Nat.{ℕ, zero, suc}
use lib.Dec.{eqb}
use Rattle.bits.specs.Bit.{bit, value, word_with, matrix}
use Rattle.bits.specs.Word.{rightward, leftward, put}

-- the positions that are on, of the k after i
abbrev on : List ℕ → ℕ → ℕ → List ℕ
on m i zero = []
on m i (suc k) = cond (bit m (suc i)) (suc i ∷ on m (suc i) k) (on m (suc i) k)

-- bit 1 is worth 32768 and bit 16 is worth 1; 100 is 64 + 32 + 4, 500 is 256 + 128 + 64 + 32 + 16 + 4; three registers hold
-- bits 1 to 48
pub numbering :
    ◌≡◌ {A = List (List ℕ)}
    (on (32768 ∷ []) 0 16 ∷ on (1 ∷ []) 0 16 ∷ on (100 ∷ []) 0 16 ∷ on (500 ∷ []) 0 16 ∷ on (0x8001 ∷ 0x8001 ∷ 0x8001 ∷ []) 0 48 ∷ [])
    ((1 ∷ []) ∷ (16 ∷ []) ∷ (10 ∷ 11 ∷ 14 ∷ []) ∷ (8 ∷ 9 ∷ 10 ∷ 11 ∷ 12 ∷ 14 ∷ []) ∷ (1 ∷ 16 ∷ 17 ∷ 32 ∷ 33 ∷ 48 ∷ []) ∷ [])
unfolding bit
numbering = refl

-- there is no bit 0, and none past the last word
pub no_bit : ◌≡◌ {A = List Bool} (bit (0xffff ∷ []) 0 ∷ bit (0xffff ∷ []) 17 ∷ []) (false ∷ false ∷ [])
unfolding bit
no_bit = refl

-- words made of bits
pub words :
    ◌≡◌ {A = List ℕ}
    (word_with (λ p. eqb p 1) ∷ word_with (λ p. eqb p 16) ∷ word_with (rightward 0x0001 0x8001) ∷ word_with (leftward 0x8001 0x8000) ∷ word_with (put 0x0000 16 true) ∷ word_with (put 0xffff 1 false) ∷ word_with (put 0x1234 0 true) ∷ word_with (put 0x1234 17 true) ∷ matrix 2 (λ p. eqb p 17))
    (32768 ∷ 1 ∷ 0xc000 ∷ 0x0003 ∷ 0x0001 ∷ 0x7fff ∷ 0x1234 ∷ 0x1234 ∷ 0x0000 ∷ 0x8000 ∷ [])
unfolding value matrix bit
words = refl
