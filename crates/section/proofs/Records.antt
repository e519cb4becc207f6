-- The laws of records of any width: how many words and records there are, each of them by its number, and a loop over them.
-- Assumes nothing.
use mathlib.Core.Path.{◌≡◌, refl, sym, ap, ap₂, ◌∙◌, subst, subst₂}
use mathlib.Core.List.{List, ◌++◌}
use Prim.Native.Nat.{ℕ, zero, suc, ◌+◌, ◌-◌, ◌*◌, ◌≤◌, ◌<◌}
use native.Mathlib.Nat.{add-zero, mul-suc, mul-zero, sub-zero}
use native.Mathlib.Numerals.{add-one}
use native.Mathlib.Omega.{arith}
use lib.ListN.{length, get_or, drop, length-append}
use lib.Seq.{drop-drop}
use Rattle.section.specs.Walk.{seek}
use Rattle.verdict.specs.Verdict.{Verdict, done, then}
use Rattle.section.specs.Section.{records_earn, records_in}
use Rattle.section.specs.Truths.{Clean}
use Rattle.section.proofs.Walk.{seek_none, turn_refused, seek_append, then_next}
use Rattle.section.proofs.Sections.{clean_split, clean_join}

-- the words after j records and one more
next_words : (width j : ℕ) (ws : List ℕ) → drop (width * j) (drop width ws) ≡ drop (width * suc j) ws
next_words width j ws =
    let e : width + width * j ≡ width * suc j = omega (arith, mul-suc width j) in
    drop-drop (width * j) width ws ∙ ap (λ (k : ℕ). drop k ws) e

-- ---- what records spell
module _ {B : Type 0} (width : ℕ) (spelled : List ℕ → B) where
  pub records_count : (n : ℕ) (ws : List ℕ) → length (records_in width spelled n ws) ≡ n
  unfolding records_in
  records_count zero ws = refl
  records_count (suc n) ws = ap suc (records_count n (drop width ws))

  -- the record after the first k
  pub record_is : (n k : ℕ) (ws : List ℕ) (otherwise : B) → k < n → get_or (records_in width spelled n ws) k otherwise ≡ spelled (drop (width * k) ws)
  unfolding records_in
  record_is zero k ws otherwise l = absurd (omega arith)
  record_is (suc n) zero ws otherwise l = ap (λ (k : ℕ). spelled (drop k ws)) (sym (mul-zero width))
  record_is (suc n) (suc k) ws otherwise l = record_is n k (drop width ws) otherwise (omega arith) ∙ ap spelled (next_words width k ws)

-- ---- what their words earn
module _ (width : ℕ) (earns : ℕ → List ℕ → List ℕ) (wide : (k : ℕ) (ws : List ℕ) → length (earns k ws) ≡ width) where
  pub words_count : (n k : ℕ) (ws : List ℕ) → length (records_earn width earns k n ws) ≡ width * n
  unfolding records_earn
  words_count zero k ws = sym (mul-zero width)
  words_count (suc n) k ws =
      length-append (earns k ws) (records_earn width earns (suc k) n (drop width ws))
      ∙ ap₂ ◌+◌ (wide k ws) (words_count n (suc k) (drop width ws))
      ∙ omega (arith, mul-suc width n)

  -- no word of any earns a refusal exactly where none of each does
  pub clean_each : (n k : ℕ) (ws : List ℕ) → Clean (records_earn width earns k n ws) → (j : ℕ) → j < n → Clean (earns (k + j) (drop (width * j) ws))
  unfolding records_earn
  clean_each zero k ws c j l = absurd (omega arith)
  clean_each (suc n) k ws c zero l =
      subst₂ (λ (x y : ℕ). Clean (earns x (drop y ws))) (sym (add-zero k)) (sym (mul-zero width))
      (clean_split (earns k ws) (records_earn width earns (suc k) n (drop width ws)) c).0
  clean_each (suc n) k ws c (suc j) l =
      let at : suc k + j ≡ k + suc j = omega arith in
      subst₂ (λ (x : ℕ) (y : List ℕ). Clean (earns x y)) at (next_words width j ws)
      (clean_each n (suc k) (drop width ws) (clean_split (earns k ws) (records_earn width earns (suc k) n (drop width ws)) c).1 j (omega arith))

  pub each_clean : (n k : ℕ) (ws : List ℕ) → ((j : ℕ) → j < n → Clean (earns (k + j) (drop (width * j) ws))) → Clean (records_earn width earns k n ws)
  unfolding records_earn Clean
  each_clean zero k ws h = tt
  each_clean (suc n) k ws h =
      clean_join (earns k ws) (records_earn width earns (suc k) n (drop width ws))
      (subst₂ (λ (x y : ℕ). Clean (earns x (drop y ws))) (add-zero k) (mul-zero width) (h 0 (omega arith)))
      (each_clean n (suc k) (drop width ws)
      (λ j l.
      let at : k + suc j ≡ suc k + j = omega arith in
      subst₂ (λ (x : ℕ) (y : List ℕ). Clean (earns x y)) at (sym (next_words width j ws)) (h (suc j) (omega arith))))

  -- ---- a loop over the records from a start on, j of them passed: what is left to find is what there is to find
  module _ (size start count : ℕ) (ws : List ℕ) where
    pub record Passed (j : ℕ) : Type 0 where
      pub few : j ≤ count
      pub same : seek (records_earn width earns j (count - j) (drop (width * j) ws)) size (start + width * j)
          ≡ seek (records_earn width earns 0 count ws) size start

    pub none_passed : Passed 0
    none_passed = record {
      few = omega arith;
      same =
          ap₂ (λ (n k : ℕ). seek (records_earn width earns 0 n (drop k ws)) size (start + k)) (sub-zero count) (mul-zero width)
          ∙ ap (seek (records_earn width earns 0 count ws) size) (add-zero start);
    }

    module _ {j : ℕ} (p : Passed j) (l : j < count) where
      this : List ℕ
      this = earns j (drop (width * j) ws)

      rest : List ℕ
      rest = records_earn width earns (suc j) (count - suc j) (drop (width * suc j) ws)

      split : records_earn width earns j (count - j) (drop (width * j) ws) ≡ this ++ rest
      unfolding this rest records_earn
      split =
          let more : count - j ≡ suc (count - suc j) = omega arith in
          let on : width * j + width ≡ width * suc j = omega (arith, mul-suc width j) in
          ap (λ (n : ℕ). records_earn width earns j n (drop (width * j) ws)) more
          ∙ ap (λ (x : List ℕ). earns j (drop (width * j) ws) ++ records_earn width earns (suc j) (count - suc j) x)
          (drop-drop width (width * j) ws ∙ ap (λ (k : ℕ). drop k ws) on)

      all : seek (this ++ rest) size (start + width * j) ≡ seek (records_earn width earns 0 count ws) size start
      all = ap (λ (x : List ℕ). seek x size (start + width * j)) (sym split) ∙ p.same

      pub record_refused : {v : Verdict} → v ≡ seek (earns j (drop (width * j) ws)) size (start + width * j) → (v.number ≡ 0 → ⊥)
          → v ≡ seek (records_earn width earns 0 count ws) size start
      unfolding this
      record_refused e h = turn_refused size this rest (start + width * j) e h ∙ all

      pub record_passed : {v : Verdict} → v ≡ seek (earns j (drop (width * j) ws)) size (start + width * j) → v.number ≡ 0 → Passed (j + 1)
      unfolding this rest
      record_passed {v} e h =
          let at : start + width * suc j ≡ start + width * j + length this = omega (arith, mul-suc width j, wide j (drop (width * j) ws)) in
          subst Passed (sym (add-one j)) (record {
            few = l;
            same =
                ap (seek rest size) at
                ∙ sym (then_next v (seek rest size (start + width * j + length this)) h)
                ∙ ap (λ (x : Verdict). then x (seek rest size (start + width * j + length this))) e
                ∙ sym (seek_append size this rest (start + width * j))
                ∙ all;
          })

    pub all_passed : {j : ℕ} → Passed j → count ≤ j → done ≡ seek (records_earn width earns 0 count ws) size start
    unfolding records_earn
    all_passed {j} p l =
        let none : 0 ≡ count - j = omega arith in
        sym (seek_none size (start + width * j))
        ∙ ap (λ (n : ℕ). seek (records_earn width earns j n (drop (width * j) ws)) size (start + width * j)) none
        ∙ p.same
