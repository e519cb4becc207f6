-- The round of a search that starts again at the end, over any predicate and any number of positions: from any pointer, it reports
-- the higher positions climbing, none if the last position is off, then the lower ones from the lowest on. Assumes nothing.
use mathlib.Core.Path.{◌≡◌, refl, sym, ap, ap₂, ◌∙◌, subst}
use mathlib.Core.Bool.{Bool, true, false, cond, xor, false≢true}
use mathlib.Core.List.{List, [], ◌∷◌, ◌++◌, map, map-append, append_assoc, append-nil}
use mathlib.Core.Logic.{⊎_elim}
use mathlib.Core.Option.{Option, none, some}
use Prim.Native.Nat.{ℕ, zero, suc, ◌+◌, ◌-◌, ◌*◌, ◌≤◌, ◌<◌}
use native.Mathlib.Omega.{arith}
use borrow.Author.Tests.{ltb-true, ltb-false, lt-ltb, le-ltb, eqb-true, eq-eqb, ne_eqb}
use lib.Dec.{eqb, ltb}
use lib.ListN.{length, take, length-append, length-map}
use lib.Seq.{take-append_seam}
use Rattle.bits.specs.Bit.{bit}
use Rattle.search.specs.Search.{first, differing}
use Rattle.rounds.specs.Demand3.{above, difference_count, round_length, nothing, how_often, nones, Ascending, Round, RoundMeans}

-- ---- the first position above a start, and those after it
pub data Look (f : ℕ → Bool) (i k : ℕ) : Type 0 where
  nowhere : first f i k ≡ none → above f i k ≡ [] → Look f i k
  at : (p : ℕ) → first f i k ≡ some p → i < p → p ≤ i + k → f p ≡ true → above f i k ≡ p ∷ above f p (i + k - p) → Look f i k

pub look : (f : ℕ → Bool) (k i : ℕ) → Look f i k
unfolding first above
look f zero i = nowhere refl refl
look f (suc k) i = go (f (suc i)) refl (look f k (suc i))
  where
    go : (a : Bool) → f (suc i) ≡ a → Look f (suc i) k → Look f i (suc k)
    go true e l =
        let n : i + suc k - suc i ≡ k = omega arith in
        at (suc i) (ap (λ (b : Bool). cond b (some (suc i)) (first f (suc i) k)) e) (omega arith) (omega arith) e
        (ap (λ (b : Bool). cond b (suc i ∷ above f (suc i) k) (above f (suc i) k)) e ∙ ap (λ (m : ℕ). suc i ∷ above f (suc i) m) (sym n))
    go false e (nowhere a b) =
        nowhere (ap (λ (b : Bool). cond b (some (suc i)) (first f (suc i) k)) e ∙ a) (ap (λ (b : Bool). cond b (suc i ∷ above f (suc i) k) (above f (suc i) k)) e ∙ b)
    go false e (at p a l u t b) =
        let n : suc i + k - p ≡ i + suc k - p = omega arith in
        at p (ap (λ (b : Bool). cond b (some (suc i)) (first f (suc i) k)) e ∙ a) (omega arith) (omega arith) t
        (ap (λ (b : Bool). cond b (suc i ∷ above f (suc i) k) (above f (suc i) k)) e ∙ b ∙ ap (λ (m : ℕ). p ∷ above f p m) n)

-- the positions up to a point, and those from there on
pub above_split : (f : ℕ → Bool) (k i m : ℕ) → above f i (k + m) ≡ above f i k ++ above f (i + k) m
unfolding above
above_split f zero i m = let e : i ≡ i + 0 = omega arith in let n : 0 + m ≡ m = omega arith in ap₂ (above f) e n
above_split f (suc k) i m =
    ap (above f i) next
    ∙ ap (λ (l : List ℕ). cond (f (suc i)) (suc i ∷ l) l) (above_split f k (suc i) m ∙ ap (λ (j : ℕ). above f (suc i) k ++ above f j m) same)
    ∙ go (f (suc i))
  where
    next : suc k + m ≡ suc (k + m)
    next = omega arith

    same : suc i + k ≡ i + suc k
    same = omega arith

    go : (a : Bool) → cond a (suc i ∷ above f (suc i) k ++ above f (i + suc k) m) (above f (suc i) k ++ above f (i + suc k) m)
        ≡ cond a (suc i ∷ above f (suc i) k) (above f (suc i) k) ++ above f (i + suc k) m
    go true = refl
    go false = refl

-- ---- the reports of successive searches
module _ (f : ℕ → Bool) (N : ℕ) where
  -- a pointer at the end or past it counts as 0
  abbrev pub from : ℕ → ℕ
  from q = cond (ltb q N) q 0

  abbrev pub found : ℕ → Option ℕ
  found q = first f (from q) (N - from q)

  -- the pointer afterwards
  abbrev pub ends : Option ℕ → ℕ
  ends none = N
  ends (some p) = p

  -- of k successive searches, from a pointer on, what is said of each by its pointer
  unfoldable pub along : {A : Type 0} → (ℕ → A) → ℕ → ℕ → List A
  along says q zero = []
  along says q (suc k) = says q ∷ along says (ends (found q)) k

  abbrev pub run : ℕ → ℕ → List (Option ℕ)
  run = along found

  pub from_inside : (q : ℕ) → q < N → from q ≡ q
  from_inside q l = ap (λ (a : Bool). cond a q 0) (lt-ltb q N l)

  pub from_end : (q : ℕ) → N ≤ q → from q ≡ 0
  from_end q l = ap (λ (a : Bool). cond a q 0) (le-ltb q N l)

  pub from_below : 1 ≤ N → (q : ℕ) → from q < N
  from_below n q = go (ltb q N) refl
    where
      go : (a : Bool) → ltb q N ≡ a → cond a q 0 < N
      go true e = ltb-true q N e
      go false e = omega arith

  -- the pointer afterwards is one of the positions
  pub ends_low : 1 ≤ N → (q : ℕ) → ends (found q) ≤ N
  ends_low low q = go (look f (N - from q) (from q))
    where
      below : from q < N
      below = from_below low q

      go : Look f (from q) (N - from q) → ends (found q) ≤ N
      go (nowhere a b) = subst (λ (o : Option ℕ). ends o ≤ N) (sym a) (omega arith)
      go (at p a l u t b) = subst (λ (o : Option ℕ). ends o ≤ N) (sym a) (omega (arith, u, below))

  -- a search depends on where it starts alone
  same_start : (q r : ℕ) → from q ≡ from r → (m : ℕ) → run q m ≡ run r m
  unfolding along
  same_start q r e zero = refl
  same_start q r e (suc m) = ap (λ (i : ℕ). first f i (N - i) ∷ run (ends (first f i (N - i))) m) e

  -- fewer reports are the first of more
  prefix : (a b q : ℕ) → run q a ≡ take a (run q (a + b))
  unfolding along
  prefix zero b q = refl
  prefix (suc a) b q =
      let n : suc a + b ≡ suc (a + b) = omega arith in
      ap (λ (l : List (Option ℕ)). found q ∷ l) (prefix a b (ends (found q))) ∙ ap (λ (k : ℕ). take (suc a) (run q k)) (sym n)

  last_of : ℕ → List ℕ → ℕ
  last_of q [] = q
  last_of q (p ∷ l) = last_of p l

  -- all positions of a list are reported, and then what follows
  Climbs : ℕ → ℕ → List ℕ → Type 0
  Climbs q m l = run q (length l + m) ≡ map some l ++ run (last_of q l) m

  no_climb : (q m : ℕ) → Climbs q m []
  unfolding Climbs last_of
  no_climb q m = let n : 0 + m ≡ m = omega arith in ap (run q) n

  climbs_on : (q m p : ℕ) (l : List ℕ) → found q ≡ some p → Climbs p m l → Climbs q m (p ∷ l)
  unfolding Climbs last_of along
  climbs_on q m p l e h =
      let n : suc (length l) + m ≡ suc (length l + m) = omega arith in
      ap (run q) n ∙ ap (λ (o : Option ℕ). o ∷ run (ends o) (length l + m)) e ∙ ap (λ (r : List (Option ℕ)). some p ∷ r) h

  -- from a position on, which is the end or counts as itself
  climb_from : (p m : ℕ) → p ≤ N → (from p ≡ p → Climbs p m (above f (from p) (N - from p))) → Climbs p m (above f p (N - p))
  unfolding above
  climb_from p m u h = go (ltb p N) refl
    where
      go : (a : Bool) → ltb p N ≡ a → Climbs p m (above f p (N - p))
      go true e = let i : from p ≡ p = from_inside p (ltb-true p N e) in subst (λ (j : ℕ). Climbs p m (above f j (N - j))) i (h i)
      go false e = let n : 0 ≡ N - p = omega (arith, ltb-false p N e) in subst (λ (j : ℕ). Climbs p m (above f p j)) n (no_climb p m)

  -- every position above the start is reported, climbing
  climb : (fuel q : ℕ) → N - from q ≤ fuel → from q ≤ N → (m : ℕ) → Climbs q m (above f (from q) (N - from q))
  climb zero q l u m = go (look f (N - from q) (from q))
    where
      go : Look f (from q) (N - from q) → Climbs q m (above f (from q) (N - from q))
      go (nowhere a b) = subst (Climbs q m) (sym b) (no_climb q m)
      go (at p a lo hi t b) = absurd (omega arith)
  climb (suc k) q l u m = go (λ p e v. climb k p e v m) (look f (N - from q) (from q))
    where
      go : ((p : ℕ) → N - from p ≤ k → from p ≤ N → Climbs p m (above f (from p) (N - from p)))
          → Look f (from q) (N - from q) → Climbs q m (above f (from q) (N - from q))
      go more (nowhere a b) = subst (Climbs q m) (sym b) (no_climb q m)
      go more (at p a lo hi t b) =
          let n : from q + (N - from q) - p ≡ N - p = omega arith in
          subst (Climbs q m) (sym (b ∙ ap (λ (j : ℕ). p ∷ above f p j) n))
          (climbs_on q m p (above f p (N - p)) a (climb_from p m (omega arith) (λ e. more p (omega (arith, e)) (omega (arith, e)))))

  -- ---- where the climb ends

  -- at the last position, if that is on
  ends_last : f N ≡ true → (k i q : ℕ) → i + suc k ≡ N → last_of q (above f i (suc k)) ≡ N
  unfolding above last_of
  ends_last t zero i q e = let n : suc i ≡ N = omega arith in go (f (suc i)) (ap f n ∙ t)
    where
      go : (a : Bool) → a ≡ true → last_of q (cond a (suc i ∷ []) []) ≡ N
      go true h = omega arith
      go false h = absurd (false≢true h)
  ends_last t (suc k) i q e = go (λ r. ends_last t k (suc i) r (omega arith)) (f (suc i))
    where
      go : ((r : ℕ) → last_of r (above f (suc i) (suc k)) ≡ N) → (a : Bool) → last_of q (cond a (suc i ∷ above f (suc i) (suc k)) (above f (suc i) (suc k))) ≡ N
      go more true = more (suc i)
      go more false = more q

  -- at a pointer above which there is none, if the last position is off
  ends_none : f N ≡ false → (fuel q : ℕ) → N - from q ≤ fuel → from q ≤ N → found (last_of q (above f (from q) (N - from q))) ≡ none
  unfolding last_of
  ends_none t zero q l u = go (look f (N - from q) (from q))
    where
      go : Look f (from q) (N - from q) → found (last_of q (above f (from q) (N - from q))) ≡ none
      go (nowhere a b) = ap (λ (r : List ℕ). found (last_of q r)) b ∙ a
      go (at p a lo hi t b) = absurd (omega arith)
  ends_none t (suc k) q l u = go (λ p e v. ends_none t k p e v) (look f (N - from q) (from q))
    where
      less : (p : ℕ) → p ≤ N → (p ≡ N → ⊥) → p < N
      less p l h = omega arith

      go : ((p : ℕ) → N - from p ≤ k → from p ≤ N → found (last_of p (above f (from p) (N - from p))) ≡ none)
          → Look f (from q) (N - from q) → found (last_of q (above f (from q) (N - from q))) ≡ none
      go more (nowhere a b) = ap (λ (r : List ℕ). found (last_of q r)) b ∙ a
      go more (at p a lo hi on b) =
          let n : from q + (N - from q) - p ≡ N - p = omega arith in
          let below : p < N = less p (omega arith) (λ e. false≢true (sym t ∙ ap f (sym e) ∙ on)) in
          let i : from p ≡ p = from_inside p below in
          ap (λ (r : List ℕ). found (last_of q r)) (b ∙ ap (λ (j : ℕ). p ∷ above f p j) n)
          ∙ ap (λ (j : ℕ). found (last_of p (above f j (N - j)))) (sym i)
          ∙ more p (omega (arith, i)) (omega (arith, i))

  -- ---- a round

  -- from the beginning, the positions up to a point are reported first
  lower_first : 1 ≤ N → (i : ℕ) → i ≤ N → run 0 (length (above f 0 i)) ≡ map some (above f 0 i)
  unfolding along Climbs
  lower_first low i u =
      let n : i + (N - i) ≡ N = omega arith in
      let z : 0 + i ≡ i = omega arith in
      let m : N - 0 ≡ N = omega arith in
      let lows : List ℕ = above f 0 i in
      let highs : List ℕ = above f i (N - i) in
      let start : from 0 ≡ 0 = from_inside 0 low in
      let split : above f 0 N ≡ lows ++ highs = ap (above f 0) (sym n) ∙ above_split f i 0 (N - i) ∙ ap (λ (j : ℕ). lows ++ above f j (N - i)) z in
      let all : run 0 (length (above f 0 N) + 0) ≡ map some (above f 0 N) ++ [] =
      subst (λ (l : List ℕ). run 0 (length l + 0) ≡ map some l ++ []) (ap (λ (j : ℕ). above f j (N - j)) start ∙ ap (above f 0) m)
      (climb N 0 (omega (arith, start)) (omega (arith, start)) 0) in
      let count : length (above f 0 N) + 0 ≡ length lows + length highs = omega (arith, ap length split ∙ length-append lows highs) in
      prefix (length lows) (length highs) 0
      ∙ ap (λ (k : ℕ). take (length lows) (run 0 k)) (sym count)
      ∙ ap (take (length lows)) (all ∙ append-nil (map some (above f 0 N)) ∙ ap (map some) split ∙ map-append some lows highs)
      ∙ ap (λ (k : ℕ). take k (map some lows ++ map some highs)) (sym (length-map lows some))
      ∙ take-append_seam (map some lows) (map some highs)

  -- the reports of a round
  abbrev pub spared : ℕ
  spared = cond (f N) 0 1

  pub round_from : 1 ≤ N → (q : ℕ)
      → run q (length (above f 0 N) + spared) ≡ map some (above f (from q) (N - from q)) ++ nothing spared ++ map some (above f 0 (from q))
  unfolding along Climbs nothing
  round_from low q = go (f N) refl
    where
      i : ℕ
      i = from q

      inside : i < N
      inside = from_below low q

      lows : List ℕ
      lows = above f 0 i

      highs : List ℕ
      highs = above f i (N - i)

      count : (e : ℕ) → length (above f 0 N) + e ≡ length highs + (e + length lows)
      count e =
          let n : i + (N - i) ≡ N = omega (arith, inside) in
          let z : 0 + i ≡ i = omega arith in
          let split : above f 0 N ≡ lows ++ highs = ap (above f 0) (sym n) ∙ above_split f i 0 (N - i) ∙ ap (λ (j : ℕ). lows ++ above f j (N - i)) z in
          omega (arith, ap length split ∙ length-append lows highs)

      -- at the end, a search starts again at the lowest
      again : run N (length lows) ≡ map some lows
      again =
          same_start N 0 (from_end N (omega arith) ∙ sym (from_inside 0 low)) (length lows)
          ∙ lower_first low i (omega (arith, inside))

      up : (m : ℕ) → run q (length highs + m) ≡ map some highs ++ run (last_of q highs) m
      up m = climb N q (omega arith) (omega (arith, inside)) m

      go : (a : Bool) → f N ≡ a → run q (length (above f 0 N) + cond a 0 1) ≡ map some highs ++ nothing (cond a 0 1) ++ map some lows
      go true e =
          let k : suc (N - i - 1) ≡ N - i = omega (arith, inside) in
          let m : 0 + length lows ≡ length lows = omega arith in
          let top : last_of q highs ≡ N =
          subst (λ (j : ℕ). last_of q (above f i j) ≡ N) k (ends_last e (N - i - 1) i q (omega (arith, inside))) in
          ap (run q) (count 0)
          ∙ up (0 + length lows)
          ∙ ap₂ (λ (x y : ℕ). map some highs ++ run x y) top m
          ∙ ap₂ (λ (x y : List (Option ℕ)). x ++ y) (sym (append-nil (map some highs))) again
      go false e =
          let m : 1 + length lows ≡ suc (length lows) = omega arith in
          ap (run q) (count 1)
          ∙ up (1 + length lows)
          ∙ ap (λ (y : ℕ). map some highs ++ run (last_of q highs) y) m
          ∙ ap (λ (o : Option ℕ). map some highs ++ (o ∷ run (ends o) (length lows))) (ends_none e N q (omega arith) (omega (arith, inside)))
          ∙ ap (λ (l : List (Option ℕ)). map some highs ++ (none ∷ l)) again
          ∙ sym (append_assoc (map some highs) (none ∷ []) (map some lows))

-- ---- counting reports
times_both : (p : ℕ) (x y : List (Option ℕ)) → how_often p (x ++ y) ≡ how_often p x + how_often p y
unfolding how_often
times_both p [] y = omega arith
times_both p (none ∷ x) y = times_both p x y
times_both p (some q ∷ x) y = ap (λ (k : ℕ). cond (eqb q p) 1 0 + k) (times_both p x y) ∙ omega arith

nones_both : (x y : List (Option ℕ)) → nones (x ++ y) ≡ nones x + nones y
unfolding nones
nones_both [] y = omega arith
nones_both (none ∷ x) y = ap (λ (k : ℕ). 1 + k) (nones_both x y) ∙ omega arith
nones_both (some q ∷ x) y = nones_both x y

no_times : (p k : ℕ) → how_often p (nothing k) ≡ 0
unfolding how_often nothing
no_times p zero = refl
no_times p (suc k) = no_times p k

all_nones : (k : ℕ) → nones (nothing k) ≡ k
unfolding nones nothing
all_nones zero = refl
all_nones (suc k) = ap (λ (m : ℕ). 1 + m) (all_nones k) ∙ omega arith

no_nones : (l : List ℕ) → nones (map some l) ≡ 0
unfolding nones
no_nones [] = refl
no_nones (x ∷ l) = no_nones l

-- how often a position stands among those above a start: never outside, and inside once where it is on
module _ (f : ℕ → Bool) (p : ℕ) where
  abbrev in_list : List ℕ → ℕ
  in_list l = how_often p (map some l)

  never_below : (k i : ℕ) → p ≤ i → in_list (above f i k) ≡ 0
  unfolding above how_often
  never_below zero i h = refl
  never_below (suc k) i h = go (f (suc i)) (never_below k (suc i) (omega arith))
    where
      go : (a : Bool) → in_list (above f (suc i) k) ≡ 0 → in_list (cond a (suc i ∷ above f (suc i) k) (above f (suc i) k)) ≡ 0
      go true z = ap₂ (λ (b : Bool) (m : ℕ). cond b 1 0 + m) (ne_eqb (suc i) p (λ e. omega arith)) z
      go false z = z

  never_above : (k i : ℕ) → i + k < p → in_list (above f i k) ≡ 0
  unfolding above how_often
  never_above zero i h = refl
  never_above (suc k) i h = go (f (suc i)) (never_above k (suc i) (omega arith))
    where
      go : (a : Bool) → in_list (above f (suc i) k) ≡ 0 → in_list (cond a (suc i ∷ above f (suc i) k) (above f (suc i) k)) ≡ 0
      go true z = ap₂ (λ (b : Bool) (m : ℕ). cond b 1 0 + m) (ne_eqb (suc i) p (λ e. omega arith)) z
      go false z = z

  once_inside : (k i : ℕ) → i < p → p ≤ i + k → in_list (above f i k) ≡ cond (f p) 1 0
  unfolding above how_often
  once_inside zero i l u = absurd (omega arith)
  once_inside (suc k) i l u = by (eqb (suc i) p) refl (λ h. once_inside k (suc i) h (omega arith))
    where
      here : suc i ≡ p → (a : Bool) → f (suc i) ≡ a → in_list (cond a (suc i ∷ above f (suc i) k) (above f (suc i) k)) ≡ cond (f p) 1 0
      here e true t =
          ap₂ (λ (b : Bool) (m : ℕ). cond b 1 0 + m) (eq-eqb (suc i) p e) (never_below k (suc i) (omega arith))
          ∙ sym (ap (λ (b : Bool). cond b 1 0) (ap f (sym e) ∙ t))
      here e false t = never_below k (suc i) (omega arith) ∙ sym (ap (λ (b : Bool). cond b 1 0) (ap f (sym e) ∙ t))

      there : eqb (suc i) p ≡ false → in_list (above f (suc i) k) ≡ cond (f p) 1 0 → (a : Bool)
          → in_list (cond a (suc i ∷ above f (suc i) k) (above f (suc i) k)) ≡ cond (f p) 1 0
      there e z true = ap (λ (b : Bool). cond b 1 0 + in_list (above f (suc i) k)) e ∙ omega (arith, z)
      there e z false = z

      by : (b : Bool) → eqb (suc i) p ≡ b → (suc i < p → in_list (above f (suc i) k) ≡ cond (f p) 1 0)
          → in_list (cond (f (suc i)) (suc i ∷ above f (suc i) k) (above f (suc i) k)) ≡ cond (f p) 1 0
      by true e more = here (eqb-true (suc i) p e) (f (suc i)) refl
      by false e more = there e (more (less (λ q. false≢true (sym e ∙ eq-eqb (suc i) p q)))) (f (suc i))
        where
          less : (suc i ≡ p → ⊥) → suc i < p
          less n = omega arith

-- positions ascend
ascends : (f : ℕ → Bool) (k i : ℕ) → Ascending (above f i k)
unfolding Ascending above
ascends f zero i = tt
ascends f (suc k) i = go (f (suc i)) (ascends f k (suc i)) (look f k (suc i))
  where
    go : (a : Bool) → Ascending (above f (suc i) k) → Look f (suc i) k → Ascending (cond a (suc i ∷ above f (suc i) k) (above f (suc i) k))
    go false h l = h
    go true h (nowhere a b) = subst (λ (l : List ℕ). Ascending (suc i ∷ l)) (sym b) tt
    go true h (at p a lo hi t b) = subst (λ (l : List ℕ). Ascending (suc i ∷ l)) (sym b) (lo, subst Ascending b h)

-- ---- a round's length: d, and one more where the last position agrees
module _ (a b : List ℕ) (n : ℕ) where
  by_last : (x : Bool) → cond x (difference_count a b n) (difference_count a b n + 1) ≡ difference_count a b n + cond x 0 1
  by_last true = omega arith
  by_last false = refl

  pub length_is : round_length a b n ≡ difference_count a b n + spared (differing a b) (16 * n)
  length_is = by_last (differing a b (16 * n))

  spare_is : round_length a b n - difference_count a b n ≡ spared (differing a b) (16 * n)
  spare_is = omega (arith, length_is)

-- it is one scan at least: where the last position differs, that is a difference
pub round_some : (a b : List ℕ) (n : ℕ) → 1 ≤ round_length a b n
unfolding bit above xor
round_some a b zero =
    let none : differing a b (16 * 0) ≡ false = refl in
    subst (λ (x : Bool). 1 ≤ cond x (difference_count a b 0) (difference_count a b 0 + 1)) (sym none) (omega arith)
round_some a b (suc n) = go (differing a b (16 * suc n)) refl
  where
    f : ℕ → Bool
    f = differing a b

    before : ℕ
    before = 16 * n + 15

    all : above f 0 (before + 1) ≡ above f 0 before ++ above f (0 + before) 1
    all = above_split f before 0 1

    count : length (above f 0 (16 * suc n)) ≡ length (above f 0 before) + length (above f before 1)
    count =
        let e : 16 * suc n ≡ before + 1 = omega arith in
        let z : 0 + before ≡ before = omega arith in
        ap (λ (k : ℕ). length (above f 0 k)) e ∙ ap length all ∙ length-append (above f 0 before) (above f (0 + before) 1) ∙ ap (λ (k : ℕ). length (above f 0 before) + length (above f k 1)) z

    last : f (16 * suc n) ≡ true → length (above f before 1) ≡ 1
    last e =
        let s : suc before ≡ 16 * suc n = omega arith in
        ap (λ (x : Bool). length (cond x (suc before ∷ []) [])) (ap f s ∙ e)

    go : (x : Bool) → f (16 * suc n) ≡ x → 1 ≤ cond x (length (above f 0 (16 * suc n))) (length (above f 0 (16 * suc n)) + 1)
    go true e = omega (arith, count, last e)
    go false e = omega arith

-- ---- what a round says follows from its shape
pub round_means : RoundMeans
round_means a b n l r = record {
  once = λ p low high t. count p ∙ once_inside f p N 0 (omega (arith, low)) (omega (arith, high)) ∙ ap (λ (x : Bool). cond x 1 0) t;
  no_other = λ p low high t. count p ∙ once_inside f p N 0 (omega (arith, low)) (omega (arith, high)) ∙ ap (λ (x : Bool). cond x 1 0) t;
  none_outside = λ p h. count p ∙ ⊎_elim (λ l. never_below f p N 0 (omega (arith, l))) (λ l. never_above f p N 0 (omega (arith, l))) h;
  none_reported =
      ap nones r.climbing
      ∙ nones_both (map some r.higher ++ nothing e) (map some r.lower)
      ∙ ap₂ ◌+◌ (nones_both (map some r.higher) (nothing e) ∙ ap₂ ◌+◌ (no_nones r.higher) (all_nones e)) (no_nones r.lower)
      ∙ omega arith;
  ascending = ascends f N 0;
}
  where
    f : ℕ → Bool
    f = differing a b

    N : ℕ
    N = 16 * n

    e : ℕ
    e = round_length a b n - difference_count a b n

    count : (p : ℕ) → how_often p l ≡ how_often p (map some (above f 0 N))
    count p =
        ap (how_often p) r.climbing
        ∙ times_both p (map some r.higher ++ nothing e) (map some r.lower)
        ∙ ap (λ (k : ℕ). k + how_often p (map some r.lower)) (times_both p (map some r.higher) (nothing e) ∙ ap (λ (k : ℕ). how_often p (map some r.higher) + k) (no_times p e))
        ∙ omega arith
        ∙ sym (times_both p (map some r.lower) (map some r.higher))
        ∙ ap (how_often p) (sym (map-append some r.lower r.higher))
        ∙ ap (λ (l : List ℕ). how_often p (map some l)) (sym r.all)

-- ---- the reports of a compare of two matrices, from any pointer
pub a_round : (a b : List ℕ) (n q : ℕ) → 1 ≤ n → Round a b n (run (differing a b) (16 * n) q (round_length a b n))
a_round a b n q low = record {
  lower = lows;
  higher = highs;
  all = split;
  climbing =
      ap (run f N q) (length_is a b n)
      ∙ round_from f N (omega arith) q
      ∙ ap (λ (e : ℕ). map some highs ++ nothing e ++ map some lows) (sym (spare_is a b n));
}
  where
    f : ℕ → Bool
    f = differing a b

    N : ℕ
    N = 16 * n

    i : ℕ
    i = from f N q

    lows : List ℕ
    lows = above f 0 i

    highs : List ℕ
    highs = above f i (N - i)

    inside : i < N
    inside = from_below f N (omega arith) q

    split : above f 0 N ≡ lows ++ highs
    split =
        let n : i + (N - i) ≡ N = omega (arith, inside) in
        let z : 0 + i ≡ i = omega arith in
        ap (above f 0) (sym n) ∙ above_split f i 0 (N - i) ∙ ap (λ (j : ℕ). lows ++ above f j (N - i)) z
