-- How far successive searches go: from the beginning, those of a round go over every position once. Over any predicate and any number of
-- positions. Assumes nothing.
use mathlib.Core.Path.{◌≡◌, refl, sym, ap, ◌∙◌}
use mathlib.Core.Bool.{Bool, true, false, cond}
use mathlib.Core.List.{List, [], ◌∷◌}
use mathlib.Core.Option.{Option, none, some}
use Prim.Native.Nat.{ℕ, zero, suc, ◌+◌, ◌-◌, ◌*◌, ◌≤◌, ◌<◌}
use native.Mathlib.Decide.{dec_lt}
use native.Mathlib.Omega.{arith}
use lib.ListN.{length, length-append}
use Rattle.search.specs.Search.{differing}
use Rattle.section.proofs.Walk.{le_of_not_lt}
use Rattle.rounds.specs.Demand3.{above, round_length}
use Rattle.rounds.specs.Counts.{added}
use Rattle.rounds.proofs.Climb.{Look, look, above_split, from, from_inside, from_below, ends, found as finds, along, spared, length_is}
use Rattle.rounds.proofs.Climb.Look.{nowhere, at}

-- where no position is on, the last is off
last_off : (f : ℕ → Bool) (i k : ℕ) → above f i (k + 1) ≡ [] → f (suc (i + k)) ≡ false
unfolding above
last_off f i k e = go (f (suc (i + k))) refl
  where
    go : (a : Bool) → f (suc (i + k)) ≡ a → a ≡ false
    go false h = refl
    go true h =
        let one : length (above f (i + k) 1) ≡ 1 = ap (λ (a : Bool). length (cond a (suc (i + k) ∷ []) [])) h in
        absurd (omega (arith, one, ap length (sym e ∙ above_split f k i 1) ∙ length-append (above f i k) (above f (i + k) 1)))

-- how far a search goes
abbrev pub reach : (ℕ → Bool) → ℕ → ℕ → ℕ
reach f N q = ends f N (finds f N q) - from f N q

module _ (f : ℕ → Bool) (N : ℕ) (low : 1 ≤ N) where
  abbrev goes : ℕ → ℕ
  goes = reach f N

  spends_last : (q : ℕ) → finds f N q ≡ none → added (along f N goes q 1) ≡ N - from f N q
  unfolding along added
  spends_last q e = ap (λ (o : Option ℕ). ends f N o - from f N q + 0) e ∙ omega arith

  spends_one : (q p m : ℕ) → finds f N q ≡ some p → added (along f N goes q (suc m)) ≡ (p - from f N q) + added (along f N goes p m)
  unfolding along added
  spends_one q p m e = ap (λ (o : Option ℕ). (ends f N o - from f N q) + added (along f N goes (ends f N o) m)) e

  -- those of the positions above a start, and one more where the last is off, go to the end
  Spent : ℕ → Type 0
  Spent q = added (along f N goes q (length (above f (from f N q) (N - from f N q)) + spared f N)) ≡ N - from f N q

  to_the_end : (fuel q : ℕ) → N - from f N q ≤ fuel → Spent q
  unfolding Spent along added above
  to_the_end zero q l = absurd (omega (arith, from_below f N low q))
  to_the_end (suc fuel) q l = go (λ p u. to_the_end fuel p u) (look f (N - i) i)
    where
      i : ℕ
      i = from f N q

      inside : i < N
      inside = from_below f N low q

      go : ((p : ℕ) → N - from f N p ≤ fuel → Spent p) → Look f i (N - i) → Spent q
      go more (nowhere a b) =
          let k : N - i - 1 + 1 ≡ N - i = omega (arith, inside) in
          let top : suc (i + (N - i - 1)) ≡ N = omega (arith, inside) in
          let off : f N ≡ false = ap f (sym top) ∙ last_off f i (N - i - 1) (ap (above f i) k ∙ b) in
          (λ h. added (along f N goes q (length (b h) + cond (off h) 0 1))) ∙ spends_last q a
      go more (at p a lo hi on b) = elim (dec_lt p N) [
        | yes u ↦
            let here : from f N p ≡ p = from_inside f N p u in
            let whole : i + (N - i) - p ≡ N - from f N p = omega (arith, inside, here) in
            let rest : ℕ = length (above f (from f N p) (N - from f N p)) in
            let longer : length (above f i (N - i)) + spared f N ≡ suc (rest + spared f N) =
            ap (λ (x : List ℕ). length x + spared f N) b ∙ (λ h. suc (length (above f (sym here h) (whole h))) + spared f N) ∙ omega arith in
            ap (λ (k : ℕ). added (along f N goes q k)) longer
            ∙ spends_one q p (rest + spared f N) a
            ∙ ap (λ (k : ℕ). (p - i) + k) (more p (omega (arith, here, lo)))
            ∙ omega (arith, here, lo, u)
        | no u ↦
            let end : p ≡ N = omega (arith, le_of_not_lt u, hi, inside) in
            let none_left : i + (N - i) - p ≡ 0 = omega (arith, end, inside) in
            let longer : length (above f i (N - i)) + spared f N ≡ suc 0 =
            (λ h. length (b h) + cond ((ap f (sym end) ∙ on) h) 0 1) ∙ ap (λ (k : ℕ). suc (length (above f p k)) + 0) none_left in
            ap (λ (k : ℕ). added (along f N goes q k)) longer
            ∙ spends_one q p 0 a
            ∙ omega (arith, end)
      ]

  -- from the beginning, all of them
  pub all_spent : (q : ℕ) → from f N q ≡ 0 → added (along f N goes q (length (above f 0 N) + spared f N)) ≡ N
  unfolding Spent
  all_spent q e =
      let whole : N - from f N q ≡ N = omega (arith, e) in
      (λ h. added (along f N goes q (length (above f (sym e h) (sym whole h)) + spared f N)))
      ∙ to_the_end N q (omega arith)
      ∙ whole

-- the counts of a round over two matrices, from the beginning
pub a_round_spends : (a b : List ℕ) (n q : ℕ) → 1 ≤ n → from (differing a b) (16 * n) q ≡ 0
    → added (along (differing a b) (16 * n) (reach (differing a b) (16 * n)) q (round_length a b n)) ≡ 16 * n
a_round_spends a b n q low e =
    ap (λ (k : ℕ). added (along (differing a b) (16 * n) (reach (differing a b) (16 * n)) q k)) (length_is a b n)
    ∙ all_spent (differing a b) (16 * n) (omega arith) q e
