-- Demand 3: over a stretch of scans in which its premises hold, any c successive scans report a round. From visit to visit the
-- pointer goes on as the search does and the matrices differ where they did, so the reports are those of the search. Assumes
-- nothing.
use mathlib.Core.Path.{◌≡◌, refl, sym, ap, ap₂, ◌∙◌, subst}
use mathlib.Core.Bool.{Bool, cond}
use mathlib.Core.List.{List, [], ◌∷◌}
use mathlib.Core.Option.{Option, some}
use Prim.Native.Nat.{ℕ, zero, suc, ◌+◌, ◌-◌, ◌*◌, ◌≤◌, ◌<◌}
use native.Mathlib.Omega.{arith}
use Rattle.search.specs.Search.{first, differing}
use Rattle.network.specs.Network.{Network, block_of}
use Rattle.rounds.specs.Demand3.{round_length, visit, register_in, source_found, matrix_found, report, Steady, Scanning, in_turn, Round, Demand3}
use Rattle.rounds.specs.Counts.{count}
use Rattle.rounds.proofs.Climb.{from, from_below, ends, along, a_round, found as finds}
use Rattle.rounds.proofs.Visits.{some_words, visit_reports, visit_counts, next_pointer, next_differs}

-- a search asks its predicate at the positions that it passes, and nowhere else
first_same : (f g : ℕ → Bool) (k i : ℕ) → ((p : ℕ) → i < p → p ≤ i + k → f p ≡ g p) → first f i k ≡ first g i k
unfolding first
first_same f g zero i h = refl
first_same f g (suc k) i h =
    ap₂ (λ (a : Bool) (o : Option ℕ). cond a (some (suc i)) o) (h (suc i) (omega arith) (omega arith)) (first_same f g k (suc i) (λ p l u. h p (omega arith) (omega arith)))

finds_same : (f g : ℕ → Bool) (N q : ℕ) → ((p : ℕ) → 1 ≤ p → p ≤ N → f p ≡ g p) → from f N q ≤ N → finds f N q ≡ finds g N q
finds_same f g N q h u = first_same f g (N - from f N q) (from f N q) (λ p l v. h p (omega arith) (omega arith))

module _ {net : Network} {i m : ℕ} {given : ℕ → List ℕ} (R : Scanning net m given) (S : Steady net i m given) (f : ℕ → Bool) where
  unfoldable pub N : ℕ
  N = 16 * (block_of net i).n

  unfoldable pub pointer : ℕ → ℕ
  pointer j = register_in net i (visit net i (given j)).table

  -- the differences at scan j are those of f
  unfoldable pub Same : ℕ → Type 0
  Same j = (p : ℕ) → 1 ≤ p → p ≤ N → differing (source_found net i (given j)) (matrix_found net i (given j)) p ≡ f p

  -- a scan reports what the search finds
  one_report : (j : ℕ) → j < m → Same j → report net i (given j) ≡ finds f N (pointer j)
  unfolding N pointer Same
  one_report j l h = visit_reports R S j l ∙ finds_same (differing (source_found net i (given j)) (matrix_found net i (given j))) f N (pointer j) h (omega (arith, low))
    where
      low : from f N (pointer j) < N
      low = from_below f N (omega (arith, some_words R S)) (pointer j)

  -- and counts how far it goes
  pub one_count : (j : ℕ) → j < m → Same j → count net i (given j) ≡ ends f N (finds f N (pointer j)) - from f N (pointer j)
  unfolding N pointer Same
  one_count j l h =
      visit_counts R S j l
      ∙ ap (λ (o : Option ℕ). ends f N o - from f N (pointer j))
      (finds_same (differing (source_found net i (given j)) (matrix_found net i (given j))) f N (pointer j) h (omega (arith, from_below f N (omega (arith, some_words R S)) (pointer j))))

  -- what successive scans say is what is said along the search, where each scan says what is said of its pointer
  pub turns_along : {A : Type 0} (says : ℕ → A) (along_says : ℕ → A) → ((j : ℕ) → j < m → Same j → says j ≡ along_says (pointer j))
      → (k j : ℕ) → j + k ≤ m → Same j → in_turn says j k ≡ along f N along_says (pointer j) k
  unfolding in_turn along N pointer Same
  turns_along says along_says one zero j l h = refl
  turns_along {A} says along_says one (suc zero) j l h = ap (λ (x : A). x ∷ []) (one j (omega arith) h)
  turns_along {A} says along_says one (suc (suc k)) j l h =
      let next : suc j < m = omega arith in
      let there : pointer (suc j) ≡ ends f N (finds f N (pointer j)) =
      next_pointer R S j (omega arith) next ∙ ap (ends f N) (sym (visit_reports R S j (omega arith)) ∙ one_report j (omega arith) h) in
      ap₂ (λ (x : A) (r : List A). x ∷ r) (one j (omega arith) h)
      (turns_along says along_says one (suc k) (suc j) (omega arith) (λ p low high. next_differs R S j (omega arith) next p low high ∙ h p low high)
      ∙ ap (λ (q : ℕ). along f N along_says q (suc k)) there)

pub demand_3 : Demand3
unfolding N pointer Same
demand_3 net i m given R S j l =
    let a : List ℕ = source_found net i (given j) in
    let b : List ℕ = matrix_found net i (given j) in
    let n : ℕ = (block_of net i).n in
    subst (Round a b n) (sym (turns_along R S (differing a b) (λ s. report net i (given s)) (finds (differing a b) (16 * n)) (one_report R S (differing a b)) (round_length a b n) j l (λ p low high. refl))) (a_round a b n (register_in net i (visit net i (given j)).table) (some_words R S))
