-- The laws of what is put into a table: every bit afterwards is the one that was put there, or the one that was there before.
-- Assumes nothing.
use mathlib.Core.Path.{◌≡◌, refl, sym, ap, ap₂, ◌∙◌}
use mathlib.Core.Bool.{Bool, true, false, cond, ◌&&◌}
use mathlib.Core.List.{List}
use mathlib.Core.Logic.{◌⊎◌, inl, inr, ⊎_elim}
use mathlib.Core.Option.{Option, none, some}
use Prim.Native.Nat.{ℕ, zero, suc, ◌+◌, ◌-◌, ◌*◌, ◌/◌, ◌%◌, ◌^◌, ◌≤◌, ◌<◌}
use native.Mathlib.Omega.{arith}
use borrow.Author.Tests.{ltb-true, ltb-false, leb-true, leb-false, eqb-true, eqb-false, ne_eqb}
use lib.Dec.{eqb, leb, ltb}
use lib.ListN.{length, get_or}
use Rattle.bits.specs.Bit.{odd, bit, matrix}
use Rattle.bits.proofs.Matrix.{matrix_length, bit_matrix}
use Rattle.bits.proofs.Tests.{eqb_iff}
use Rattle.runs.specs.Run.{run, placed}
use Rattle.matrix.specs.Single.{bit_put}
use Rattle.matrix.proofs.Runs.{run_at, word_inside, word_outside, placed_length}
use Rattle.network.specs.Network.{Network}
use Rattle.blocks.specs.Effect.{Change}
use Rattle.blocks.specs.Effect.Change.{stays, becomes, puts}
use Rattle.blocks.specs.Work.{matrix_put, change_put, coil_put}
use Rattle.blocks.specs.Truths.{matrix_bit, change_bit, coil_bit, or_stays}

-- equal words have equal bits
same_bit : (x y : List ℕ) (i j : ℕ) → i % 16 ≡ j % 16 → get_or x (i / 16) 0 ≡ get_or y (j / 16) 0 → bit x (suc i) ≡ bit y (suc j)
unfolding bit
same_bit x y i j e w = ap₂ (λ (a b : ℕ). odd (a / 2 ^ (15 - b))) w e

-- the bits of a run are the table's
pub run_bits : (t : List ℕ) (s n q : ℕ) → 1 ≤ q → q ≤ 16 * n → bit (run t s n) q ≡ bit t (16 * s + q)
run_bits t s n zero l u = absurd (omega arith)
run_bits t s n (suc q) l u =
    let next : suc (16 * s + q) ≡ 16 * s + suc q = omega arith in
    let at : s + q / 16 ≡ (16 * s + q) / 16 = omega arith in
    same_bit (run t s n) t q (16 * s + q) (omega arith)
    (run_at t s n (q / 16) (omega arith) ∙ ap (λ (k : ℕ). get_or t k 0) at)
    ∙ ap (bit t) next

-- a position outside so many words from an index on
abbrev pub Off : ℕ → ℕ → ℕ → Type 0
Off s words p = (p ≤ 16 * s) ⊎ (16 * (s + words) < p)

-- ---- the bits of a table with a matrix in it
module _ (t : List ℕ) (s : ℕ) (m : List ℕ) (h : s + length m ≤ length t) where
  pub bit_outside : (p : ℕ) → Off s (length m) p → bit (placed t s m) p ≡ bit t p
  unfolding bit
  bit_outside zero o = refl
  bit_outside (suc i) o =
      same_bit (placed t s m) t i i refl (word_outside t s m h (i / 16) (⊎_elim (λ l. inl (omega arith)) (λ l. inr (omega arith)) o))

  bit_inside : (p : ℕ) → 16 * s < p → p ≤ 16 * (s + length m) → bit (placed t s m) p ≡ bit m (p - 16 * s)
  bit_inside zero l u = absurd (omega arith)
  bit_inside (suc i) l u =
      let j : ℕ = i - 16 * s in
      let at : s + j / 16 ≡ i / 16 = omega arith in
      let next : suc j ≡ suc i - 16 * s = omega arith in
      same_bit (placed t s m) m i j (omega arith)
      (ap (λ (k : ℕ). get_or (placed t s m) k 0) (sym at) ∙ word_inside t s m h (j / 16) (omega arith))
      ∙ ap (bit m) next

-- ---- a matrix in its place
matrix_bits : (t : List ℕ) (s : ℕ) (m : List ℕ) → s + length m ≤ length t → (p : ℕ) → bit (placed t s m) p ≡ or_stays (matrix_bit s (some m) p) (bit t p)
matrix_bits t s m h p = go (ltb (16 * s) p) refl (leb p (16 * (s + length m))) refl
  where
    go : (a : Bool) → ltb (16 * s) p ≡ a → (c : Bool) → leb p (16 * (s + length m)) ≡ c
        → bit (placed t s m) p ≡ or_stays (cond (a && c) (some (bit m (p - 16 * s))) none) (bit t p)
    go false e c f = bit_outside t s m h p (inl (ltb-false _ _ e))
    go true e true f = bit_inside t s m h p (ltb-true _ _ e) (leb-true _ _ f)
    go true e false f = bit_outside t s m h p (inr (leb-false _ _ f))

-- ---- a matrix that is to be written, if there is one
abbrev pub Room : ℕ → ℕ → Option (List ℕ) → Type 0
Room words s o = (m : List ℕ) → o ≡ some m → s + length m ≤ words

pub put_length : (s : ℕ) (o : Option (List ℕ)) (t : List ℕ) → Room (length t) s o → length (matrix_put s o t) ≡ length t
unfolding matrix_put
put_length s none t h = refl
put_length s (some m) t h = placed_length t s m (h m refl)

pub put_bits : (s : ℕ) (o : Option (List ℕ)) (t : List ℕ) → Room (length t) s o → (p : ℕ)
    → bit (matrix_put s o t) p ≡ or_stays (matrix_bit s o p) (bit t p)
unfolding matrix_put
put_bits s none t h p = refl
put_bits s (some m) t h p = matrix_bits t s m (h m refl) p

-- what lies outside it stays
pub put_spares : (s : ℕ) (o : Option (List ℕ)) (t : List ℕ) → Room (length t) s o → (p : ℕ) → ((m : List ℕ) → o ≡ some m → Off s (length m) p)
    → bit (matrix_put s o t) p ≡ bit t p
unfolding matrix_put
put_spares s none t h p off = refl
put_spares s (some m) t h p off = bit_outside t s m (h m refl) p (off m refl)

pub put_spares_word : (s : ℕ) (o : Option (List ℕ)) (t : List ℕ) → Room (length t) s o → (k : ℕ) → ((m : List ℕ) → o ≡ some m → (k < s) ⊎ (s + length m ≤ k))
    → get_or (matrix_put s o t) k 0 ≡ get_or t k 0
unfolding matrix_put
put_spares_word s none t h k off = refl
put_spares_word s (some m) t h k off = word_outside t s m (h m refl) k (off m refl)

-- ---- one bit of n words put
module _ (t : List ℕ) (d n p : ℕ) (on : Bool) (h : d + n ≤ length t) where
  area : List ℕ
  area = matrix n (λ q. cond (eqb q p) on (bit (run t d n) q))

  long : length area ≡ n
  unfolding area
  long = matrix_length n (λ q. cond (eqb q p) on (bit (run t d n) q))

  room : d + length area ≤ length t
  room = omega (arith, long)

  one_length : length (bit_put t d n p on) ≡ length t
  unfolding area
  one_length = placed_length t d area room

  -- the words outside stay
  one_word_outside : (k : ℕ) → (k < d) ⊎ (d + n ≤ k) → get_or (bit_put t d n p on) k 0 ≡ get_or t k 0
  unfolding area
  one_word_outside k o = word_outside t d area room k (⊎_elim inl (λ l. inr (omega (arith, long))) o)

  -- and the bits outside, if the position is one of the n words
  area_bit : (q : ℕ) → 1 ≤ q → q ≤ 16 * n → bit area q ≡ cond (eqb q p) on (bit t (16 * d + q))
  unfolding area
  area_bit zero l u = absurd (omega arith)
  area_bit (suc i) l u =
      bit_matrix n (λ q. cond (eqb q p) on (bit (run t d n) q)) i (omega arith)
      ∙ ap (cond (eqb (suc i) p) on) (run_bits t d n (suc i) l u)

  one_outside : (q : ℕ) → Off d n q → bit (bit_put t d n p on) q ≡ bit t q
  unfolding area
  one_outside q o = bit_outside t d area room q (⊎_elim inl (λ l. inr (omega (arith, long))) o)

  one_bits : 1 ≤ p → p ≤ 16 * n → (q : ℕ) → bit (bit_put t d n p on) q ≡ or_stays (cond (eqb q (16 * d + p)) (some on) none) (bit t q)
  unfolding area
  one_bits low high q = go (ltb (16 * d) q) refl (leb q (16 * (d + n))) refl
    where
      here : (b : Bool) → cond b on (bit t q) ≡ or_stays (cond b (some on) none) (bit t q)
      here true = refl
      here false = refl

      elsewhere : (q ≡ 16 * d + p → ⊥) → bit t q ≡ or_stays (cond (eqb q (16 * d + p)) (some on) none) (bit t q)
      elsewhere e = ap (λ (b : Bool). or_stays (cond b (some on) none) (bit t q)) (sym (ne_eqb q (16 * d + p) e))

      inside : (l : 16 * d < q) → (u : q ≤ 16 * (d + n)) → bit (placed t d area) q ≡ or_stays (cond (eqb q (16 * d + p)) (some on) none) (bit t q)
      inside l u =
          let back : 16 * d + (q - 16 * d) ≡ q = omega arith in
          bit_inside t d area room q l (omega (arith, long))
          ∙ area_bit (q - 16 * d) (omega arith) (omega arith)
          ∙ ap₂ (λ (b : Bool) (k : ℕ). cond b on (bit t k))
          (eqb_iff (q - 16 * d) p q (16 * d + p) (λ e. omega arith) (λ e. omega arith)) back
          ∙ here (eqb q (16 * d + p))

      go : (a : Bool) → ltb (16 * d) q ≡ a → (c : Bool) → leb q (16 * (d + n)) ≡ c
          → bit (placed t d area) q ≡ or_stays (cond (eqb q (16 * d + p)) (some on) none) (bit t q)
      go false e c f = one_outside q (inl (ltb-false _ _ e)) ∙ elsewhere (λ z. omega (arith, ltb-false (16 * d) q e))
      go true e true f = inside (ltb-true _ _ e) (leb-true _ _ f)
      go true e false f = one_outside q (inr (leb-false _ _ f)) ∙ elsewhere (λ z. omega (arith, leb-false q (16 * (d + n)) f))

-- ---- a change that is made: a matrix of n words, or a bit of them; D is true where there is one
abbrev pub Makes : Type 0 → ℕ → Change → Type 0
Makes D n stays = Unit {0}
Makes D n (becomes m) = D × (length m ≡ n)
Makes D n (puts p on) = D × (1 ≤ p) × (p ≤ 16 * n)

pub makes_so : {D E : Type 0} (n : ℕ) (c : Change) → (D → E) → Makes D n c → Makes E n c
makes_so n stays f h = h
makes_so n (becomes m) f h = (f h.0, h.1)
makes_so n (puts p on) f h = (f h.0, h.1, h.2)

pub change_length : (d n : ℕ) (c : Change) (t : List ℕ) → Makes (d + n ≤ length t) n c → length (change_put d n c t) ≡ length t
unfolding change_put
change_length d n stays t h = refl
change_length d n (becomes m) t h = placed_length t d m (omega (arith, h.0, h.1))
change_length d n (puts p on) t h = one_length t d n p on h.0

pub change_bits : (d n : ℕ) (c : Change) (t : List ℕ) → Makes (d + n ≤ length t) n c → (p : ℕ)
    → bit (change_put d n c t) p ≡ or_stays (change_bit d c p) (bit t p)
unfolding change_put
change_bits d n stays t h p = refl
change_bits d n (becomes m) t h p = matrix_bits t d m (omega (arith, h.0, h.1)) p
change_bits d n (puts q on) t h p = one_bits t d n q on h.0 h.1 h.2 p

-- what lies outside the n words stays
pub change_spares : (d n : ℕ) (c : Change) (t : List ℕ) (p : ℕ) → Makes ((d + n ≤ length t) × Off d n p) n c → bit (change_put d n c t) p ≡ bit t p
unfolding change_put
change_spares d n stays t p h = refl
change_spares d n (becomes m) t p h =
    bit_outside t d m (omega (arith, h.0.0, h.1)) p (⊎_elim inl (λ l. inr (omega (arith, h.1))) h.0.1)
change_spares d n (puts q on) t p h = one_outside t d n q on h.0.0 p h.0.1

pub change_spares_word : (d n : ℕ) (c : Change) (t : List ℕ) (k : ℕ) → Makes ((d + n ≤ length t) × ((k < d) ⊎ (d + n ≤ k))) n c
    → get_or (change_put d n c t) k 0 ≡ get_or t k 0
unfolding change_put
change_spares_word d n stays t k h = refl
change_spares_word d n (becomes m) t k h =
    word_outside t d m (omega (arith, h.0.0, h.1)) k (⊎_elim inl (λ l. inr (omega (arith, h.1))) h.0.1)
change_spares_word d n (puts q on) t k h = one_word_outside t d n q on h.0.0 k h.0.1

-- ---- a coil
module _ (net : Network) (number : ℕ) (on : Bool) (t : List ℕ) (h : net.sizes.coils ≤ length t) where
  coils_lie : 0 + net.sizes.coils ≤ length t
  coils_lie = omega arith

  pub coil_length : length (coil_put net number on t) ≡ length t
  unfolding coil_put
  coil_length = go (eqb number 0)
    where
      go : (a : Bool) → length (cond a t (bit_put t 0 net.sizes.coils number on)) ≡ length t
      go true = refl
      go false = one_length t 0 net.sizes.coils number on coils_lie

  -- the words after the coil area stay
  pub coil_word : (k : ℕ) → net.sizes.coils ≤ k → get_or (coil_put net number on t) k 0 ≡ get_or t k 0
  unfolding coil_put
  coil_word k l = go (eqb number 0)
    where
      go : (a : Bool) → get_or (cond a t (bit_put t 0 net.sizes.coils number on)) k 0 ≡ get_or t k 0
      go true = refl
      go false = one_word_outside t 0 net.sizes.coils number on coils_lie k (inr (omega arith))

  pub coil_bits : number ≤ 16 * net.sizes.coils → (p : ℕ) → bit (coil_put net number on t) p ≡ or_stays (coil_bit number on p) (bit t p)
  unfolding coil_put
  coil_bits l p = go (eqb number 0) refl
    where
      first : 16 * 0 + number ≡ number
      first = omega arith

      go : (a : Bool) → eqb number 0 ≡ a
          → bit (cond a t (bit_put t 0 net.sizes.coils number on)) p ≡ or_stays (cond a none (cond (eqb p number) (some on) none)) (bit t p)
      go true e = refl
      go false e =
          let counted : 1 ≤ number = omega (arith, eqb-false number 0 e) in
          one_bits t 0 net.sizes.coils number on coils_lie counted l p
          ∙ ap (λ (k : ℕ). or_stays (cond (eqb p k) (some on) none) (bit t p)) first

  -- a bit that is not the coil's stays
  pub coil_spares : number ≤ 16 * net.sizes.coils → (p : ℕ) → (number ≡ 0) ⊎ (p ≡ number → ⊥) → bit (coil_put net number on t) p ≡ bit t p
  coil_spares l p off = coil_bits l p ∙ go (eqb number 0) refl (eqb p number) refl
    where
      go : (a : Bool) → eqb number 0 ≡ a → (c : Bool) → eqb p number ≡ c → or_stays (cond a none (cond c (some on) none)) (bit t p) ≡ bit t p
      go true e c f = refl
      go false e false f = refl
      go false e true f = absurd (⊎_elim (eqb-false number 0 e) (λ n. n (eqb-true p number f)) off)
