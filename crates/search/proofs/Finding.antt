-- The laws of the search from a position on. Both loops keep one thing: the first position that differs from here on is the first that
-- differs from the start on. Words whose two sides are equal are passed whole; within any other word one position is passed at a time,
-- until the one that differs.
use mathlib.Core.Path.{◌≡◌, refl, sym, ap, ap₂, ◌∙◌, subst}
use mathlib.Core.Bool.{Bool, true, false, xor}
use mathlib.Core.List.{List}
use mathlib.Core.Option.{Option, none, some}
use Prim.Native.Nat.{ℕ, suc, ◌+◌, ◌-◌, ◌*◌, ◌/◌, ◌%◌, ◌≤◌, ◌<◌}
use native.Mathlib.Numerals.{add-one}
use native.Mathlib.Omega.{arith}
use lib.ListN.{length, get_or, take, drop}
use Rattle.bits.specs.Bit.{of, word_with, longest_whole}
use Rattle.bits.proofs.Laws.{of_word, zero_of}
use Rattle.bits.proofs.Matrix.{bit_of}
use Rattle.runs.specs.Run.{run, Accepted}
use Rattle.matrix.proofs.Runs.{run_length}
use Rattle.search.specs.Search.{differing, first_differing}
use Rattle.search.specs.Inner.{Paired, Equal}
use Rattle.search.proofs.Searching.{stop, past, ended}

-- a bit does not differ from itself
pub alike : (b : Bool) → xor b b ≡ false
unfolding xor
alike true = refl
alike false = refl

module _ (x y : List ℕ) where
  -- the two words at k, apart
  abbrev pub Apart : ℕ → ℕ → Type 0
  Apart k apart = apart ≡ word_with (λ p. xor (of (get_or x k 0) p) (of (get_or y k 0) p))

  -- a position of theirs differs where their bits do
  pub at_word : (k q : ℕ) → k * 16 ≤ q → q < k * 16 + 16 → xor (of (get_or x k 0) (suc (q % 16))) (of (get_or y k 0) (suc (q % 16))) ≡ differing x y (suc q)
  at_word k q u v =
      let small : q % 16 < 16 = omega arith in
      let at : k * 16 + suc (q % 16) ≡ suc q = omega arith in
      ap₂ xor (sym (bit_of x k (q % 16) small)) (sym (bit_of y k (q % 16) small)) ∙ ap (differing x y) at

  -- a bit of the two apart is on where they differ
  pub apart_bit : (k apart q : ℕ) → k * 16 ≤ q → q < k * 16 + 16 → Apart k apart → of apart (q % 16 + 1) ≡ differing x y (suc q)
  apart_bit k apart q u v e =
      let j : ℕ = q % 16 in
      ap (of apart) (add-one j) ∙ ap (λ (w : ℕ). of w (suc j)) e ∙ of_word _ j (omega arith) ∙ at_word k q u v

  -- so two words with nothing apart differ nowhere
  pub nothing_apart : (k : ℕ) → Apart k 0 → (q : ℕ) → k * 16 ≤ q → q < k * 16 + 16 → differing x y (suc q) ≡ false
  nothing_apart k e q u v = sym (apart_bit k 0 q u v e) ∙ ap (of 0) (add-one (q % 16)) ∙ zero_of (q % 16) (omega arith)

  -- nor do words that are equal
  pub equal_nowhere : (i k : ℕ) → Equal x y i k → (q : ℕ) → 16 * i ≤ q → q < 16 * k → differing x y (suc q) ≡ false
  equal_nowhere i k e q u v =
      let w : ℕ = q / 16 in
      sym (at_word w q (omega arith) (omega arith))
      ∙ ap (λ (z : ℕ). xor (of z (suc (q % 16))) (of (get_or y w 0) (suc (q % 16)))) (e.words w (omega arith) (omega arith))
      ∙ alike (of (get_or y w 0) (suc (q % 16)))

-- what both loops keep: x and y are the two runs, and the first position that differs from here on is the first from the start on
pub record Outside (t : List ℕ) (a b n : ℕ) (x y : List ℕ) (above passed : ℕ) : Type 0 where
  pub runs : Paired x y n
  pub first : x ≡ run t a n
  pub second : y ≡ run t b n
  pub same : first_differing x y n passed ≡ first_differing x y n above

-- and what the inner one keeps, at the position after the first j of word k
pub record Inside (t : List ℕ) (a b n : ℕ) (x y : List ℕ) (above k apart j : ℕ) : Type 0 where
  pub outside : Outside t a b n x y above (16 * k + j)
  pub high : j ≤ 16
  pub inner : k < n
  pub words : Apart x y k apart

-- a part of the table is a run; nothing is passed yet
part_run : (t : List ℕ) (s n : ℕ) → take (s + n - s) (drop s t) ≡ run t s n
part_run t s n = let long : s + n - s ≡ n = omega arith in ap (λ (m : ℕ). take m (drop s t)) long

pub begun : (t : List ℕ) (a b n above : ℕ) → Accepted longest_whole (length t) n a b →
    Outside t a b n (take (a + n - a) (drop a t)) (take (b + n - b) (drop b t)) above above
begun t a b n above h = record {
  runs = record {
    few = h.few;
    first = omega (arith, ap length (part_run t a n), run_length t a n h.first);
    second = omega (arith, ap length (part_run t b n), run_length t b n h.second);
  };
  first = part_run t a n;
  second = part_run t b n;
  same = refl;
}

module _ {t : List ℕ} {a b n : ℕ} {x y : List ℕ} {above : ℕ} where
  -- what the answer says of x and y it says of the two runs
  answer : {passed : ℕ} → Outside t a b n x y above passed → {r : Option ℕ} → first_differing x y n passed ≡ r →
      first_differing (run t a n) (run t b n) n above ≡ r
  answer o e =
      ap₂ (λ (v w : List ℕ). first_differing v w n above) (sym o.first) (sym o.second) ∙ sym o.same ∙ e

  -- positions at which they do not differ are passed
  pass : {passed : ℕ} → Outside t a b n x y above passed → (to : ℕ) → passed ≤ to → to ≤ 16 * n →
      ((q : ℕ) → passed ≤ q → q < to → differing x y (suc q) ≡ false) → Outside t a b n x y above to
  pass {passed} o to u v off = record {
    runs = o.runs;
    first = o.first;
    second = o.second;
    same = sym (past (differing x y) (16 * n) passed to u v off) ∙ o.same;
  }

  -- a word with nothing apart is passed
  pub pass_alike : {passed : ℕ} → Outside t a b n x y above passed → passed < 16 * n → Apart x y (passed / 16) 0 →
      Outside t a b n x y above (16 * (passed / 16 + 1))
  pass_alike {passed} o l e =
      pass o (16 * (passed / 16 + 1)) (omega arith) (omega arith) (λ q u v. nothing_apart x y (passed / 16) e q (omega arith) (omega arith))

  -- words that are equal are passed
  pub pass_equal : {i k : ℕ} → Outside t a b n x y above (16 * i) → (k ≤ n) × Equal x y i k → Outside t a b n x y above (16 * k)
  pass_equal {i} {k} o (l, e) = pass o (16 * k) (omega (arith, e.up)) (omega (arith, l)) (equal_nowhere x y i k e)

  -- a word is looked into
  pub look_into : {passed apart : ℕ} → Outside t a b n x y above passed → passed < 16 * n → Apart x y (passed / 16) apart →
      Inside t a b n x y above (passed / 16) apart (passed % 16)
  look_into {passed} {apart} o l e =
      let whole : 16 * (passed / 16) + passed % 16 ≡ passed = omega arith in
      record {
        outside = subst (Outside t a b n x y above) (sym whole) o;
        high = omega arith;
        inner = omega arith;
        words = e;
      }

  -- no position is left
  pub left_none : {passed : ℕ} → Outside t a b n x y above passed → 16 * n ≤ passed → none ≡ first_differing (run t a n) (run t b n) n above
  left_none {passed} o l = sym (answer o (ended (differing x y) (16 * n) passed l))

  module _ {k apart j : ℕ} (o : Inside t a b n x y above k apart j) where
    -- the bit that is looked at
    looked : j < 16 → of apart (j + 1) ≡ differing x y (suc (16 * k + j))
    looked l =
        let place : j ≡ (16 * k + j) % 16 = omega arith in
        ap (λ (i : ℕ). of apart (i + 1)) place ∙ apart_bit x y k apart (16 * k + j) (omega arith) (omega arith) o.words

    -- a position at which they do not differ is passed
    pub pass_one : j < 16 → of apart (j + 1) ≡ false → Inside t a b n x y above k apart (j + 1)
    pass_one l off = record {
      outside = pass o.outside (16 * k + (j + 1)) (omega arith) (omega (arith, o.inner))
          (λ q u v. let here : 16 * k + j ≡ q = omega arith in ap (λ (z : ℕ). differing x y (suc z)) (sym here) ∙ sym (looked l) ∙ off);
      high = omega arith;
      inner = o.inner;
      words = o.words;
    }

    -- the word is passed
    pub pass_word : 16 ≤ j → Outside t a b n x y above (16 * (k + 1))
    pass_word l = pass o.outside (16 * (k + 1)) (omega (arith, o.high)) (omega (arith, o.inner)) (λ q u v. absurd (omega arith))

    -- a position at which they differ is the first
    pub found : j < 16 → of apart (j + 1) ≡ true → some (16 * k + j + 1) ≡ first_differing (run t a n) (run t b n) n above
    found l on =
        let here : 16 * k + j + 1 ≡ suc (16 * k + j) = omega arith in
        ap some here
        ∙ sym (answer o.outside (stop (differing x y) (16 * n) (16 * k + j) (omega (arith, o.inner)) (sym (looked l) ∙ on)))

pub ruleset finding = (begun, look_into, pass_one, pass_alike, pass_word, pass_equal, left_none, found)
