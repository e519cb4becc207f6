-- More bytes than the longest file has, and those of one word more, change nothing of what is printed. Assumes nothing.
use mathlib.Core.Path.{◌≡◌, refl, sym, ap, ap₂, ◌∙◌}
use mathlib.Core.Bool.{Bool, false, cond}
use mathlib.Core.List.{List, ◌∷◌}
use Prim.Native.Nat.{ℕ, zero, suc, ◌+◌, ◌*◌, ◌%◌, ◌≤◌, ◌<◌}
use native.Mathlib.Decide.{dec_lt}
use native.Mathlib.Omega.{arith}
use borrow.Author.Tests.{eq-eqb, ne_eqb}
use lib.Dec.{eqb}
use lib.ListN.{length, take}
use lib.Seq.{take_all, take-take, get_or-take, length-take-le}
use Rattle.verdict.specs.Verdict.{Verdict}
use Rattle.section.proofs.Walk.{le_of_not_lt}
use Rattle.words.specs.Words.{word_in, words_from, words_count, words_in, odd_byte}
use Rattle.words.proofs.Filling.{words_length}
use Rattle.file.specs.File.{file_in, file_checked}
use Rattle.file.specs.Sound.{most_words}
use Rattle.file.proofs.Accepted.{accepts_files, no_longer}
use Rattle.file.proofs.Longer.{longer_same}
use Rattle.text.specs.Text.{refusal_line}
use Rattle.run.specs.Bench.{file_text, words_text, bench_text}
use Rattle.run.specs.Calls.{most_bytes, FrontIsEnough}

-- the first words, and the words of the first bytes
words_front : (bs : List ℕ) (n c k : ℕ) → n ≤ c → take n (words_from bs k c) ≡ words_from bs k n
unfolding words_from
words_front bs zero c k l = refl
words_front bs (suc n) zero k l = absurd (omega arith)
words_front bs (suc n) (suc c) k l = ap (λ (x : List ℕ). word_in bs k ∷ x) (words_front bs n c (suc k) (omega arith))

words_taken : (bs : List ℕ) (m n k : ℕ) → 2 * (k + n) ≤ m → words_from (take m bs) k n ≡ words_from bs k n
unfolding words_from
words_taken bs m zero k l = refl
words_taken bs m (suc n) k l =
    ap₂ (λ (x : ℕ) (r : List ℕ). x ∷ r)
    (ap₂ (λ (h b : ℕ). 256 * h + b) (get_or-take m bs (2 * k) 0 (omega arith)) (get_or-take m bs (2 * k + 1) 0 (omega arith)))
    (words_taken bs m n (suc k) (omega arith))

-- refused words print their verdict's line
pub refused_text : (ws : List ℕ) (odd : Bool) → ((file_checked ws odd).number ≡ 0 → ⊥) → words_text ws odd ≡ refusal_line (file_checked ws odd)
unfolding words_text
refused_text ws odd h = ap (λ (a : Bool). cond a (file_text (file_in ws)) (refusal_line (file_checked ws odd))) (ne_eqb (file_checked ws odd).number 0 h)

-- accepted ones their file's
pub accepted_text : (ws : List ℕ) (odd : Bool) → (file_checked ws odd).number ≡ 0 → words_text ws odd ≡ file_text (file_in ws)
unfolding words_text
accepted_text ws odd h = ap (λ (a : Bool). cond a (file_text (file_in ws)) (refusal_line (file_checked ws odd))) (eq-eqb (file_checked ws odd).number 0 h)

module _ (bytes : List ℕ) (long : most_bytes < length bytes) where
  front : List ℕ
  front = take most_bytes bytes

  front_long : length front ≡ most_bytes
  unfolding front
  front_long = length-take-le most_bytes bytes (omega arith)

  many : most_words + 1 ≤ words_count bytes
  many = omega arith

  same_words : words_in front ≡ take (most_words + 1) (words_in bytes)
  unfolding front
  same_words =
      let n : words_count front ≡ most_words + 1 = omega (arith, front_long) in
      ap (words_from front 0) n ∙ words_taken bytes most_bytes (most_words + 1) 0 (omega arith) ∙ sym (words_front bytes (most_words + 1) (words_count bytes) 0 many)

  even : odd_byte front ≡ false
  even = ap (λ (k : ℕ). eqb (k % 2) 1) front_long

  all_long : most_words + 1 ≤ length (words_in bytes)
  all_long = omega (arith, many, words_length bytes (words_count bytes) 0)

  same_verdict : file_checked (words_in bytes) (odd_byte bytes) ≡ file_checked (words_in front) (odd_byte front)
  same_verdict = longer_same (words_in bytes) (odd_byte bytes) all_long ∙ ap₂ file_checked (sym same_words) (sym even)

  -- so many words are no file
  bad : (file_checked (words_in bytes) (odd_byte bytes)).number ≡ 0 → ⊥
  bad e = omega (arith, all_long, no_longer (words_in bytes) (odd_byte bytes) ((accepts_files (words_in bytes) (odd_byte bytes)).0 e))

  same_text : words_text (words_in front) (odd_byte front) ≡ words_text (words_in bytes) (odd_byte bytes)
  same_text =
      refused_text (words_in front) (odd_byte front) (λ e. bad (ap (λ (v : Verdict). v.number) same_verdict ∙ e))
      ∙ ap refusal_line (sym same_verdict)
      ∙ sym (refused_text (words_in bytes) (odd_byte bytes) bad)

exactly_enough : (bytes : List ℕ) → bench_text (take most_bytes bytes) ≡ bench_text bytes
unfolding front
exactly_enough bytes = elim (dec_lt most_bytes (length bytes)) [
  | yes l ↦ same_text bytes l
  | no l ↦ ap (λ (bs : List ℕ). words_text (words_in bs) (odd_byte bs)) (take_all most_bytes bytes (le_of_not_lt l))
]

abbrev check_of : List ℕ → Verdict
check_of bytes = file_checked (words_in bytes) (odd_byte bytes)

exactly_checked : (bytes : List ℕ) → check_of (take most_bytes bytes) ≡ check_of bytes
unfolding front
exactly_checked bytes = elim (dec_lt most_bytes (length bytes)) [
  | yes l ↦ sym (same_verdict bytes l)
  | no l ↦ ap check_of (take_all most_bytes bytes (le_of_not_lt l))
]

-- nor do they change what the check says
pub front_is_checked : (bytes : List ℕ) (n : ℕ) → most_bytes ≤ n → file_checked (words_in (take n bytes)) (odd_byte (take n bytes)) ≡ file_checked (words_in bytes) (odd_byte bytes)
front_is_checked bytes n l = sym (exactly_checked (take n bytes)) ∙ ap check_of (take-take most_bytes n bytes l) ∙ exactly_checked bytes

pub front_is_enough : FrontIsEnough
front_is_enough bytes n l = sym (exactly_enough (take n bytes)) ∙ ap bench_text (take-take most_bytes n bytes l) ∙ exactly_enough bytes
