-- The laws of a line: how many bytes it takes, and a line laid into a buffer as bytes put there.
use mathlib.Core.Path.{◌≡◌, refl, sym, ap, ◌∙◌}
use mathlib.Core.Bool.{Bool, true, false, cond}
use mathlib.Core.List.{List, [], ◌∷◌, ◌++◌}
use Prim.Native.Nat.{ℕ, zero, suc, ◌+◌, ◌/◌, ◌%◌, ◌≤◌, ◌<◌}
use native.Mathlib.Decide.{dec_lt}
use native.Mathlib.Nat.{le_trans}
use native.Mathlib.Omega.{arith}
use borrow.Author.Tests.{le-leb, leb-true}
use lib.ListN.{length, take, drop, length-append}
use Rattle.verdict.specs.Verdict.{Verdict}
use Rattle.verdict.specs.Promise.{Leaves}
use Rattle.section.proofs.Walk.{le_of_not_lt}
use Rattle.blocks.specs.declared.Outputs.{Outputs}
use Rattle.blocks.specs.Kind.{has_pointer}
use Rattle.text.specs.Text.{places, digits, decimal, field, output_fields, pointer_field, line_end, line, head_line, end_line, refusal_line, longest_line, line_fits, place_after, laid}
use Rattle.text.specs.Inner.{Put}
use Rattle.text.proofs.Putting.{places_1, places_2, places_3, places_4, places_5}

-- ---- how many bytes a line takes
pub digits_length : (k n : ℕ) → length (digits k n) ≡ k
unfolding digits
digits_length zero n = refl
digits_length (suc k) n = length-append (digits k (n / 10)) ((48 + n % 10) ∷ []) ∙ omega (arith, digits_length k (n / 10))

pub places_few : (n : ℕ) → places n ≤ 5
places_few n = elim (dec_lt n 10) [
  | yes a ↦ omega (arith, places_1 n a)
  | no a ↦ elim (dec_lt n 100) [
    | yes b ↦ omega (arith, places_2 n (le_of_not_lt a) b)
    | no b ↦ elim (dec_lt n 1000) [
      | yes d ↦ omega (arith, places_3 n (le_of_not_lt b) d)
      | no d ↦ elim (dec_lt n 10000) [ yes e ↦ omega (arith, places_4 n (le_of_not_lt d) e) | no e ↦ omega (arith, places_5 n (le_of_not_lt e)) ]
    ]
  ]
]

pub decimal_few : (n : ℕ) → length (decimal n) ≤ 5
unfolding decimal
decimal_few n = omega (arith, digits_length (places n) n, places_few n)

shown_few : (kind pointer : ℕ) → length (pointer_field kind pointer) ≤ 5
unfolding pointer_field
shown_few kind pointer = go (has_pointer kind)
  where
    go : (b : Bool) → length (cond b (decimal pointer) (45 ∷ [])) ≤ 5
    go true = decimal_few pointer
    go false = omega arith

-- two runs of bytes take as many as both
both_few : (a b : List ℕ) {i j : ℕ} → length a ≤ i → length b ≤ j → length (a ++ b) ≤ i + j
both_few a b l m = omega (arith, length-append a b)

field_few : (n : ℕ) → length (field n) ≤ 6
field_few n = both_few (decimal n) (32 ∷ []) {i = 5} {j = 1} (decimal_few n) (omega arith)

-- a number below 1000 has three digits at most, one below 10000 four
places_low : (n : ℕ) → n < 10000 → (places n ≤ 4) × (n < 1000 → places n ≤ 3)
places_low n l = elim (dec_lt n 10) [
  | yes a ↦ (omega (arith, places_1 n a), λ u. omega (arith, places_1 n a))
  | no a ↦ elim (dec_lt n 100) [
    | yes b ↦ (omega (arith, places_2 n (le_of_not_lt a) b), λ u. omega (arith, places_2 n (le_of_not_lt a) b))
    | no b ↦ elim (dec_lt n 1000) [
      | yes d ↦ (omega (arith, places_3 n (le_of_not_lt b) d), λ u. omega (arith, places_3 n (le_of_not_lt b) d))
      | no d ↦ (omega (arith, places_4 n (le_of_not_lt d) l), λ u. omega (arith, d u))
    ]
  ]
]

field_low : (n most : ℕ) → places n ≤ most → length (field n) ≤ most + 1
unfolding decimal
field_low n most l = both_few (decimal n) (32 ∷ []) {i = most} {j = 1} (omega (arith, digits_length (places n) n)) (omega arith)

-- the end of a line by the digits of its count
end_by : (most : ℕ) (mark : List ℕ) (count : ℕ) → length mark ≤ 5 → length (decimal count) ≤ most → length (line_end mark count) ≤ most + 7
end_by most mark count l u =
    le_trans
    (both_few (mark ++ 32 ∷ decimal count) (10 ∷ []) {i = 6 + most} {j = 1} (le_trans (both_few mark (32 ∷ decimal count) {i = 5} {j = suc most} l (omega arith)) (omega arith)) (omega arith))
    (omega arith)

-- the line of a block by the digits of its scan, of its number and of its count
pub line_short : (s k : ℕ) → s < 10000 → k < 1000 → (out : Outputs) → out.count < 10000 → (kind pointer : ℕ)
    → length (line s k out (pointer_field kind pointer)) ≤ 26
unfolding line decimal
line_short s k l u out few kind pointer =
    both_few (field s ++ field k ++ output_fields out) (line_end (pointer_field kind pointer) out.count) {i = 15} {j = 11}
    (both_few (field s ++ field k) (output_fields out) {i = 9} {j = 6}
    (both_few (field s) (field k) {i = 5} {j = 4} (field_low s 4 (places_low s l).0) (field_low k 3 ((places_low k (omega (arith, u))).1 u))) (omega arith))
    (end_by 4 (pointer_field kind pointer) out.count (shown_few kind pointer) (omega (arith, digits_length (places out.count) out.count, (places_low out.count few).0)))

-- the end of any line
pub end_few : (mark : List ℕ) (count : ℕ) → length mark ≤ 5 → length (line_end mark count) ≤ 12
end_few mark count l = end_by 5 mark count l (decimal_few count)

pub head_few : (count table : ℕ) → length (head_line count table) ≤ longest_line
unfolding head_line
head_few count table =
    le_trans
    (both_few (98 ∷ 108 ∷ 111 ∷ 99 ∷ 107 ∷ 115 ∷ 32 ∷ decimal count ++ 32 ∷ 119 ∷ 111 ∷ 114 ∷ 100 ∷ 115 ∷ 32 ∷ decimal table) (10 ∷ []) {i = 24} {j = 1}
    (both_few (98 ∷ 108 ∷ 111 ∷ 99 ∷ 107 ∷ 115 ∷ 32 ∷ decimal count) (32 ∷ 119 ∷ 111 ∷ 114 ∷ 100 ∷ 115 ∷ 32 ∷ decimal table) {i = 12} {j = 12}
    (omega (arith, decimal_few count)) (omega (arith, decimal_few table)))
    (omega arith))
    (omega arith)

pub last_few : (scans : ℕ) → length (end_line scans) ≤ longest_line
unfolding end_line
last_few scans =
    le_trans
    (both_few (101 ∷ 110 ∷ 100 ∷ 32 ∷ decimal scans) (10 ∷ []) {i = 9} {j = 1} (omega (arith, decimal_few scans)) (omega arith))
    (omega arith)

pub refusal_few : (v : Verdict) → length (refusal_line v) ≤ longest_line
unfolding refusal_line
refusal_few v =
    le_trans
    (both_few (114 ∷ 101 ∷ 102 ∷ 117 ∷ 115 ∷ 101 ∷ 100 ∷ 32 ∷ field v.number ++ decimal v.place) (10 ∷ []) {i = 19} {j = 1}
    (both_few (114 ∷ 101 ∷ 102 ∷ 117 ∷ 115 ∷ 101 ∷ 100 ∷ 32 ∷ field v.number) (decimal v.place) {i = 14} {j = 5} (omega (arith, field_few v.number)) (decimal_few v.place))
    (omega arith))
    (omega arith)

-- the place after a line at the front
pub place_few : (bytes text : List ℕ) → length bytes ≤ longest_line → place_after 0 bytes text ≤ longest_line
place_few bytes text l = go (line_fits (length text) 0)
  where
    go : (a : Bool) → cond a (0 + length bytes) 0 ≤ longest_line
    go true = omega (arith, l)
    go false = omega arith

-- ---- a line laid is bytes put, where there is room; where there is none, the buffer stays
pub room_left : (room at : ℕ) → line_fits room at ≡ true → at + longest_line ≤ room
room_left room at e = leb-true (at + longest_line) room e

pub put_laid : {at next : ℕ} {bytes text after : List ℕ} → line_fits (length text) at ≡ true → Put longest_line text at bytes next after
    → Leaves (place_after at bytes text) (laid at bytes text) next after
put_laid {at} {next} {bytes} {text} {after} e p = record {
  answers = p.reaches ∙ sym (ap (λ (b : Bool). cond b (at + length bytes) at) e);
  leaves =
      p.holds
      ∙ ap (λ (n : ℕ). take at text ++ (bytes ++ drop n text)) p.reaches
      ∙ sym (ap (λ (b : Bool). cond b (take at text ++ (bytes ++ drop (at + length bytes) text)) text) e);
}

pub laid_put : (at : ℕ) (bytes text : List ℕ) {next : ℕ} {after : List ℕ} → at + longest_line ≤ length text → length bytes ≤ longest_line
    → Leaves (place_after at bytes text) (laid at bytes text) next after → Put longest_line text at bytes next after
laid_put at bytes text {next} {after} l few p =
    let e = le-leb (at + longest_line) (length text) l in
    let reach : next ≡ at + length bytes = p.answers ∙ ap (λ (b : Bool). cond b (at + length bytes) at) e in
    record {
      few = few;
      reaches = reach;
      room = omega (arith, reach, few, l);
      holds =
          p.leaves
          ∙ ap (λ (b : Bool). cond b (take at text ++ (bytes ++ drop (at + length bytes) text)) text) e
          ∙ ap (λ (n : ℕ). take at text ++ (bytes ++ drop n text)) (sym reach);
    }
