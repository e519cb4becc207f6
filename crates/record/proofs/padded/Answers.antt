-- `record::padded` meets its contract: the words that are there, and after them 0.
use Rattle.std.proofs.Common.{◌≡◌, ℕ, ◌+◌, List, [], ◌∷◌, ◌++◌, refl, sym, ◌∙◌, ap, arith, drop, length, ◌≤◌}
use Rattle.std.specs.Prelude.{suc, zero}
use native.Mathlib.Decide.{dec_lt}
use lib.ListN.{replicate, length-replicate, get_or-replicate, get_or-eq_default}
use Rattle.std.proofs.Math.Seq.{drop-length}
use mathlib.Core.List.{append-nil}
use Rattle.std.specs.List.{slice_range}
use Rattle.std.proofs.lemmas.List.Folds.{drop_split}
use Rattle.section.specs.Walk.{word}
use Rattle.section.proofs.Walk.{le_of_not_lt}
use Rattle.section.proofs.Words.{word_from}
use Rattle.record.proofs.padded.Goals as goal

zeros : (n j : ℕ) → word (replicate n 0) j ≡ 0
zeros n j = elim (dec_lt j n) [
  | yes l ↦ get_or-replicate n j 0 0 l
  | no l ↦ get_or-eq_default (replicate n 0) 0 (omega (arith, length-replicate {A = ℕ} n 0, le_of_not_lt l))
]

before_zeros : (xs zs : List ℕ) (k : ℕ) → ((j : ℕ) → word zs j ≡ 0) → word (xs ++ zs) k ≡ word xs k
before_zeros [] zs k h = h k
before_zeros (x ∷ xs) zs zero h = refl
before_zeros (x ∷ xs) zs (suc k) h = before_zeros xs zs k h

whole : (ws : List ℕ) (i : ℕ) → i ≤ length ws → slice_range ws i (length ws) ≡ drop i ws
whole ws i l =
    sym
    (drop_split ws i (length ws) l
    ∙ ap (λ (r : List ℕ). slice_range ws i (length ws) ++ r) (drop-length ws)
    ∙ append-nil (slice_range ws i (length ws)))

pub returns-in-Some : goal.returns-in-Some
returns-in-Some c k =
    let x = c.args in
    let there = c.in-Some.ensures.lookup.0 in
    let rest : c.copy_from_slice.new.self ≡ drop x.i x.words.now =
    c.copy_from_slice.ensures.after ∙ there.2 ∙ whole x.words.now x.i there.0 in
    before_zeros _ _ k (λ j. sym (word_from (replicate 15 0) _ j) ∙ zeros 15 _)
    ∙ ap (λ (r : List ℕ). word r k) rest
    ∙ sym (word_from x.words.now x.i k)
