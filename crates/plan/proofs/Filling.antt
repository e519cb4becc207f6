-- The laws of a plan that is filled block by block: the steps of the first k blocks that the reader gives, and that of the next one.
-- Assumes nothing.
use mathlib.Core.Path.{◌≡◌, refl, sym, ap, ap₂, ◌∙◌}
use mathlib.Core.List.{List, [], ◌∷◌, ◌++◌, map, append-nil, append_assoc}
use Prim.Native.Nat.{ℕ, zero, suc, ◌+◌, ◌-◌, ◌≤◌, ◌<◌}
use native.Mathlib.Omega.{arith}
use lib.ListN.{length, set, drop, length-append, length-drop, length-map}
use Rattle.std.specs.Prelude.{Option, Result, Ok, Err, Some, None}
use Rattle.verdict.specs.declared.Refusal.{Refusal}
use Rattle.verdict.specs.Verdict.{Said, numbered}
use Rattle.table.specs.declared.sizes.Sizes.{Sizes}
use Rattle.record.specs.declared.Block.{Block}
use Rattle.network.specs.declared.checker.Opened.{Opened}
use Rattle.network.specs.Check.{read_at}
use Rattle.plan.specs.declared.Step.{Step}
use Rattle.plan.specs.Plan.{step_of, steps_put, planned_count, given, reads, planned_blocks, plan_put}
use Rattle.plan.proofs.Plans.{planned_few}

-- ---- an element put after those of the first list
set_after : {A : Type 0} (xs ys : List A) (a : A) → set (xs ++ ys) (length xs) a ≡ xs ++ set ys 0 a
set_after [] ys a = refl
set_after (x ∷ xs) ys a = ap (λ (l : List _). x ∷ l) (set_after xs ys a)

set_first : {A : Type 0} (n : ℕ) (old : List A) (a : A) → n < length old → set (drop n old) 0 a ≡ a ∷ drop (suc n) old
set_first n [] a l = absurd (omega (arith, l))
set_first zero (x ∷ old) a l = refl
set_first (suc n) (x ∷ old) a l = set_first n old a (omega (arith, l))

map_one : {A B : Type 0} (f : A → B) (xs : List A) (a : A) → map f (xs ++ a ∷ []) ≡ map f xs ++ f a ∷ []
map_one f [] a = refl
map_one f (x ∷ xs) a = ap (λ (l : List _). f x ∷ l) (map_one f xs a)

pub steps_long : (z : Sizes) (blocks : List Block) (old : List Step) → length blocks ≤ length old → length (steps_put z blocks old) ≡ length old
steps_long z blocks old l =
    length-append (map (step_of z) blocks) (drop (length blocks) old) ∙ omega (arith, length-map blocks (step_of z), l, length-drop (length blocks) old)

-- the step of one block more
one_planned : (z : Sizes) (front : List Block) (b : Block) (old : List Step) (k : ℕ) → length front ≡ k → k < length old
    → set (steps_put z front old) k (step_of z b) ≡ steps_put z (front ++ b ∷ []) old
one_planned z front b old k long l =
    let done = map (step_of z) front in
    let here : k ≡ length done = sym (length-map front (step_of z) ∙ long) in
    let more : suc (length front) ≡ length (front ++ b ∷ []) = omega (arith, length-append front (b ∷ [])) in
    ap (λ (n : ℕ). set (steps_put z front old) n (step_of z b)) here
    ∙ set_after done (drop (length front) old) (step_of z b)
    ∙ ap (λ (r : List Step). done ++ r) (set_first (length front) old (step_of z b) (omega (arith, long, l)))
    ∙ sym (append_assoc done (step_of z b ∷ []) (drop (suc (length front)) old))
    ∙ ap₂ (λ (d : List Step) (n : ℕ). d ++ drop n old) (sym (map_one (step_of z) front b)) more

-- the reader has given k blocks, others may follow, and the steps of the k are put
pub record SoFar (ws : List ℕ) (o : Opened) (old : List Step) (count k : ℕ) (plan : List Step) : Type 0 where
  pub front : List Block
  pub long : length front ≡ k
  pub few : k ≤ count
  pub counted : count ≡ planned_count o.count (length old)
  pub goes_on : reads ws o 0 count ≡ front ++ reads ws o k (count - k)
  pub puts : plan ≡ steps_put o.sizes front old

module _ (ws : List ℕ) (o : Opened) (old : List Step) where
  -- ---- what the reader gives next
  reads_next : (k m : ℕ) {b : Block} → (read_at ws o (k + 1)).value ≡ Some b → reads ws o k (suc m) ≡ b ∷ reads ws o (suc k) m
  unfolding reads
  reads_next k m e = ap (λ (v : Option Block). given v (reads ws o (suc k) m)) e

  reads_none : (k m : ℕ) → (read_at ws o (k + 1)).value ≡ None → reads ws o k (suc m) ≡ []
  unfolding reads
  reads_none k m e = ap (λ (v : Option Block). given v (reads ws o (suc k) m)) e

  reads_over : (k : ℕ) → reads ws o k 0 ≡ []
  unfolding reads
  reads_over k = refl

  -- ---- no block, one more, all
  pub none_put : (count : ℕ) → count ≡ planned_count o.count (length old) → SoFar ws o old count 0 old
  none_put count e = let all : count ≡ count - 0 = omega arith in
      record { front = []; long = refl; few = omega arith; counted = e; goes_on = ap (reads ws o 0) all; puts = refl }

  module _ {count k : ℕ} {plan : List Step} (h : SoFar ws o old count k plan) where
    pub count_few : count ≤ o.count
    count_few = omega (arith, h.counted, (planned_few o.count (length old)).0)

    pub count_room : count ≤ length old
    count_room = omega (arith, h.counted, (planned_few o.count (length old)).1)

    pub so_far_long : length plan ≡ length old
    so_far_long = ap length h.puts ∙ steps_long o.sizes h.front old (omega (arith, h.long, h.few, count_room))

    pub one_put : {b : Block} {step : Step} → k < count → (read_at ws o (k + 1)).value ≡ Some b → step ≡ step_of o.sizes b
        → SoFar ws o old count (k + 1) (set plan k step)
    one_put {b} {step} l e s =
        let next : k + 1 ≡ suc k = omega arith in
        let less : count - k ≡ suc (count - (k + 1)) = omega (arith, l) in
        record {
          front = h.front ++ b ∷ [];
          long = length-append h.front (b ∷ []) ∙ omega (arith, h.long);
          few = omega (arith, l);
          counted = h.counted;
          goes_on =
              h.goes_on
              ∙ ap (λ (m : ℕ). h.front ++ reads ws o k m) less
              ∙ ap (λ (bs : List Block). h.front ++ bs) (reads_next k (count - (k + 1)) e ∙ ap (λ (n : ℕ). b ∷ reads ws o n (count - (k + 1))) (sym next))
              ∙ sym (append_assoc h.front (b ∷ []) (reads ws o (k + 1) (count - (k + 1))));
          puts = ap₂ (λ (p : List Step) (t : Step). set p k t) h.puts s ∙ one_planned o.sizes h.front b old k h.long (omega (arith, l, count_room));
        }

    -- where no more are given
    module _ (e : reads ws o k (count - k) ≡ []) where
      all : h.front ≡ planned_blocks ws o (length old)
      all = sym (append-nil h.front) ∙ ap (λ (bs : List Block). h.front ++ bs) (sym e) ∙ sym h.goes_on ∙ ap (reads ws o 0) h.counted

      ended : (k ≡ length (planned_blocks ws o (length old))) × (plan ≡ plan_put ws o old)
      unfolding plan_put
      ended = (sym h.long ∙ ap length all, h.puts ∙ ap (λ (bs : List Block). steps_put o.sizes bs old) all)

    pub refused_here : k < count → (read_at ws o (k + 1)).value ≡ None
        → (k ≡ length (planned_blocks ws o (length old))) × (plan ≡ plan_put ws o old)
    refused_here l e =
        let less : count - k ≡ suc (count - (k + 1)) = omega (arith, l) in
        ended (ap (reads ws o k) less ∙ reads_none k (count - (k + 1)) e)

    pub all_put : count ≤ k → (count ≡ length (planned_blocks ws o (length old))) × (plan ≡ plan_put ws o old)
    all_put l =
        let none_left : count - k ≡ 0 = omega (arith, l) in
        let same : k ≡ count = omega (arith, l, h.few) in
        let done = ended (ap (reads ws o k) none_left ∙ reads_over k) in
        (sym same ∙ done.0, done.1)

-- ---- as the loop finds them
value_is : (r : Result Block Refusal) {said : Said Block} {v : Option Block} → numbered r ≡ said → (numbered r).value ≡ v → said.value ≡ v
value_is r e f = ap (λ (s : Said Block). s.value) (sym e) ∙ f

module _ {ws : List ℕ} {o : Opened} {old : List Step} {count k : ℕ} {plan : List Step} {r : Result Block Refusal} where
  pub put_next : {b : Block} {step : Step} {z : Sizes} → SoFar ws o old count k plan → k < count → numbered r ≡ read_at ws o (k + 1) → r ≡ Ok b
      → z ≡ o.sizes → step ≡ step_of z b → SoFar ws o old count (k + 1) (set plan k step)
  put_next {b} h l e q z s = one_put ws o old h l (value_is r e (ap (λ (x : Result Block Refusal). (numbered x).value) q)) (s ∙ ap (λ (y : Sizes). step_of y b) z)

  none_given : {v : Refusal} → SoFar ws o old count k plan → k < count → numbered r ≡ read_at ws o (k + 1) → r ≡ Err v
      → (k ≡ length (planned_blocks ws o (length old))) × (plan ≡ plan_put ws o old)
  none_given h l e q = refused_here ws o old h l (value_is r e (ap (λ (x : Result Block Refusal). (numbered x).value) q))

  pub refused_many : {v : Refusal} → SoFar ws o old count k plan → k < count → numbered r ≡ read_at ws o (k + 1) → r ≡ Err v
      → k ≡ length (planned_blocks ws o (length old))
  refused_many h l e q = (none_given h l e q).0

  pub refused_steps : {v : Refusal} → SoFar ws o old count k plan → k < count → numbered r ≡ read_at ws o (k + 1) → r ≡ Err v
      → plan ≡ plan_put ws o old
  refused_steps h l e q = (none_given h l e q).1

module _ {ws : List ℕ} {o : Opened} {old : List Step} {count k : ℕ} {plan : List Step} where
  pub all_many : SoFar ws o old count k plan → count ≤ k → count ≡ length (planned_blocks ws o (length old))
  all_many h l = (all_put ws o old h l).0

  pub all_steps : SoFar ws o old count k plan → count ≤ k → plan ≡ plan_put ws o old
  all_steps h l = (all_put ws o old h l).1
