-- The laws of labels: low bytes of a number, a number from its bytes, the label of a number and a space, and a line put from
-- labels, its end by pieces.
use mathlib.Core.Path.{◌≡◌, refl, sym, ap, ap₂, ◌∙◌, subst}
use mathlib.Core.List.{List, [], ◌∷◌, ◌++◌, append_assoc}
use Prim.Native.Nat.{ℕ, zero, suc, ◌+◌, ◌-◌, ◌*◌, ◌/◌, ◌%◌, ◌^◌, ◌≤◌, ◌<◌}
use native.Mathlib.Nat.{mul_assoc, pow-suc, pow-succ', pow-le-pow_right, div-one, div-div-eq-div-mul}
use native.Mathlib.Numerals.{add-one}
use native.Mathlib.Omega.{arith}
use lib.ListN.{length, take, drop, length-append, take-append-drop}
use lib.Seq.{take_at}
use Rattle.blocks.specs.declared.Outputs.{Outputs}
use Rattle.text.specs.Text.{places, digits, decimal, field, output_fields, line_end, line, low, label_text, value_of, label_of, labelled_line}
use Rattle.text.specs.Inner.{Put, Over}
use Rattle.text.proofs.Putting.{put_then, put_as, put_few, covered}
use Rattle.text.proofs.Laying.{digits_length, places_few, end_few}

-- ---- low bytes
pub low_length : (k x : ℕ) → length (low k x) ≡ k
unfolding low
low_length zero x = refl
low_length (suc k) x = ap suc (low_length k (x / 256))

-- the first k of more
low_take : (k more x : ℕ) → k ≤ more → take k (low more x) ≡ low k x
unfolding low
low_take zero more x l = refl
low_take (suc k) zero x l = absurd (omega arith)
low_take (suc k) (suc more) x l = ap (λ (rest : List ℕ). x % 256 ∷ rest) (low_take k more (x / 256) (omega arith))

-- eight, each by one division
pub low_eight : (x : ℕ)
    → low 8 x ≡ x % 256 ∷ x / 256 % 256 ∷ x / 65536 % 256 ∷ x / 16777216 % 256 ∷ x / 4294967296 % 256 ∷ x / 1099511627776 % 256 ∷ x / 281474976710656 % 256 ∷ x / 72057594037927936 % 256 ∷ []
unfolding low
low_eight x = simp div-div-eq-div-mul

-- the first is what is below 256, and the others are those of the rest
low_step : (k byte rest : ℕ) → byte < 256 → low (suc k) (byte + 256 * rest) ≡ byte ∷ low k rest
unfolding low
low_step k byte rest l =
    let last : (byte + 256 * rest) % 256 ≡ byte = omega arith in
    let others : (byte + 256 * rest) / 256 ≡ rest = omega arith in
    ap₂ (λ (b m : ℕ). b ∷ low k m) last others

-- what stands above the k bytes does not show
low_below : (k j more x : ℕ) → k ≤ j → low k (x + more * 256 ^ j) ≡ low k x
unfolding low
low_below zero j more x l = refl
low_below (suc k) zero more x l = absurd (omega arith)
low_below (suc k) (suc j) more x l =
    let p : ℕ = more * 256 ^ j in
    let worth : more * 256 ^ suc j ≡ p * 256 = ap (λ (w : ℕ). more * w) (pow-suc 256 j) ∙ sym (mul_assoc more (256 ^ j) 256) in
    let last : (x + more * 256 ^ suc j) % 256 ≡ x % 256 = omega (arith, worth) in
    let others : (x + more * 256 ^ suc j) / 256 ≡ x / 256 + p = omega (arith, worth) in
    ap₂ (λ (b m : ℕ). b ∷ low k m) last others ∙ ap (λ (rest : List ℕ). x % 256 ∷ rest) (low_below k j more (x / 256) (omega arith))

-- ---- a number from its bytes
data Bytes : List ℕ → Type 0 where
  none : Bytes []
  more : {byte : ℕ} {rest : List ℕ} → byte < 256 → Bytes rest → Bytes (byte ∷ rest)

both : {a b : List ℕ} → Bytes a → Bytes b → Bytes (a ++ b)
both none q = q
both (more l p) q = more l (both p q)

low_value : {bytes : List ℕ} → Bytes bytes → low (length bytes) (value_of bytes) ≡ bytes
unfolding low value_of
low_value none = refl
low_value (more {byte} {rest} l p) = low_step (length rest) byte (value_of rest) l ∙ ap (λ (x : List ℕ). byte ∷ x) (low_value p)

value_few : {bytes : List ℕ} (j : ℕ) → length bytes ≤ j → Bytes bytes → value_of bytes < 256 ^ j
unfolding value_of
value_few j l none = pow-le-pow_right {n = 256} (omega arith) {i = 0} {j = j} (omega arith)
value_few zero l (more u p) = absurd (omega arith)
value_few (suc j) l (more u p) = omega (arith, pow-suc 256 j, value_few j (omega arith) p)

-- ---- the label of a number and a space
digits_bytes : (k n : ℕ) → Bytes (digits k n)
unfolding digits
digits_bytes zero n = none
digits_bytes (suc k) n = both (digits_bytes k (n / 10)) (more (omega arith) none)

field_length : (n : ℕ) → length (field n) ≡ places n + 1
unfolding decimal
field_length n = length-append (decimal n) (32 ∷ []) ∙ ap (λ (k : ℕ). k + 1) (digits_length (places n) n)

module _ (n : ℕ) {word : ℕ} (e : word ≡ label_of n) where
  field_bytes : Bytes (field n)
  unfolding decimal
  field_bytes = both (digits_bytes (places n) n) (more (omega arith) none)

  -- how many bytes its text has
  pub label_width : word / 2 ^ 56 % 8 ≡ places n + 1
  unfolding label_of
  label_width =
      let few : length (field n) ≤ 6 = omega (arith, field_length n, places_few n) in
      let value : value_of (field n) < 2 ^ 56 = value_few 7 (omega arith) field_bytes in
      omega (arith, e, field_length n)

  label_field : label_text word ≡ field n
  unfolding label_of
  label_field =
      ap₂ low (label_width ∙ sym (field_length n)) e
      ∙ low_below (length (field n)) 7 (length (field n)) (value_of (field n)) (omega (arith, field_length n, places_few n))
      ∙ low_value field_bytes

  -- the number's digits, which are its bytes without the space
  pub label_digits : {bytes : List ℕ} → bytes ≡ low 8 word → take (word / 2 ^ 56 % 8 - 1) bytes ≡ decimal n
  unfolding decimal
  label_digits b =
      let width : ℕ = word / 2 ^ 56 % 8 in
      ap (take (width - 1)) b
      ∙ low_take (width - 1) 8 word (omega arith)
      ∙ sym (low_take (width - 1) width word (omega arith))
      ∙ ap (take (width - 1)) label_field
      ∙ take_at (decimal n) (32 ∷ []) (width - 1) (omega (arith, digits_length (places n) n, label_width))

pub label_says : (n : ℕ) → n < 65536 → label_text (label_of n) ≡ field n
label_says n l = label_field n refl

-- a line from labels is the line of what they say
pub labelled : (x y s k : ℕ) (out : Outputs) (mark : List ℕ) → label_text x ≡ field s → label_text y ≡ field k
    → labelled_line x y out mark ≡ line s k out mark
unfolding labelled_line line
labelled x y s k out mark p q = ap₂ (λ (a b : List ℕ). a ++ b ++ output_fields out ++ line_end mark out.count) p q

-- ---- the label made byte by byte, from the space to the highest digit

-- a digit more stands before the others
pub digits_first : (k n : ℕ) → digits (suc k) n ≡ (48 + n / 10 ^ k % 10) ∷ digits k n
unfolding digits
digits_first zero n = ap (λ (m : ℕ). (48 + m % 10) ∷ []) (sym (div-one n))
digits_first (suc k) n =
    ap (λ (x : List ℕ). x ++ (48 + n % 10) ∷ []) (digits_first k (n / 10))
    ∙ ap (λ (m : ℕ). (48 + m % 10) ∷ digits (suc k) n) (div-div-eq-div-mul n 10 (10 ^ k) ∙ ap (λ (w : ℕ). n / w) (sym (pow-succ' 10 k)))

-- none yet, and one more before those that are there
pub spelled_none : (n : ℕ) → value_of (digits 0 n ++ 32 ∷ []) ≡ 32
unfolding digits value_of
spelled_none n = refl

pub spelled_more : (k n : ℕ) → value_of (digits (k + 1) n ++ 32 ∷ []) ≡ 48 + n / 10 ^ k % 10 + 256 * value_of (digits k n ++ 32 ∷ [])
unfolding value_of
spelled_more k n =
    ap (λ (j : ℕ). value_of (digits j n ++ 32 ∷ [])) (add-one k) ∙ ap (λ (t : List ℕ). value_of (t ++ 32 ∷ [])) (digits_first k n)

pub power_more : (k n : ℕ) → n / 10 ^ (k + 1) ≡ n / 10 ^ k / 10
power_more k n = ap (λ (w : ℕ). n / w) (ap (λ (j : ℕ). 10 ^ j) (add-one k) ∙ pow-suc 10 k) ∙ sym (div-div-eq-div-mul n (10 ^ k) 10)

-- up to five digits and a space take six bytes
pub spelled_few : (k n : ℕ) → k ≤ 5 → value_of (digits k n ++ 32 ∷ []) < 281474976710656
spelled_few k n l =
    value_few 6 (omega (arith, length-append (digits k n) (32 ∷ []), digits_length k n)) (both (digits_bytes k n) (more (omega arith) none))

-- with as many digits as the number takes, and how many bytes that makes
pub label_made : (k n : ℕ) → places n ≡ k → label_of n ≡ value_of (digits k n ++ 32 ∷ []) + (k + 1) * 72057594037927936
unfolding label_of decimal
label_made k n e = ap (λ (j : ℕ). value_of (field n) + j * 2 ^ 56) (field_length n) ∙ ap (λ (j : ℕ). value_of (digits j n ++ 32 ∷ []) + (j + 1) * 2 ^ 56) e

pub ruleset label_laws = (spelled_none, spelled_more, power_more, spelled_few, label_made, places_few)

-- ---- a piece that is put with spare bytes

-- the k low bytes of a machine word
pub low_over : (k x : ℕ) {at : ℕ} {before after : List ℕ} → k ≤ 8 → Put 8 before at (low 8 x) (at + 8) after → Over before at (low k x) (at + k) after
low_over k x {at} l p = record {
  spare = drop k (low 8 x);
  reaches = ap (λ (n : ℕ). at + n) (sym (low_length k x));
  eight = put_as (omega arith) (sym (take-append-drop k (low 8 x)) ∙ ap (λ (t : List ℕ). t ++ drop k (low 8 x)) (low_take k 8 x l)) p;
}

-- a label has at most seven bytes
pub label_few : (label : ℕ) → length (label_text label) ≤ 7
label_few label = omega (arith, low_length (label / 2 ^ 56 % 8) label)

-- the labels of scan and block and then the outputs: each covers the spare bytes before it, for with its own spare ones the last has eight
pub front_put : (scan block : ℕ) (out : Outputs) {at one two : ℕ} {before first second last : List ℕ}
    → Over before at (label_text scan) one first → Over first one (label_text block) two second → Put 8 second two (output_fields out ++ 0 ∷ 0 ∷ []) (two + 8) last
    → Put 22 before at (label_text scan ++ label_text block ++ output_fields out ++ 0 ∷ 0 ∷ []) (two + 6 + 2) last
front_put scan block out {at} {one} {two} {before} {first} {second} {last} s b p =
    let eight : List ℕ = output_fields out ++ 0 ∷ 0 ∷ [] in
    let end : two + 8 ≡ two + 6 + 2 = omega arith in
    subst (λ (n : ℕ). Put 22 before at (label_text scan ++ label_text block ++ output_fields out ++ 0 ∷ 0 ∷ []) n last) end
    (put_as (omega arith) (simp append_assoc)
    (put_few {less = 22}
    (omega (arith, length-append (label_text scan) (label_text block ++ eight), length-append (label_text block) eight, label_few scan, label_few block))
    (covered s (omega (arith, length-append (label_text block) eight)) (covered b (omega arith) p))))

-- ---- the end of a line: the pointer's field, a space, the count and a line feed
pub end_put : (mark : List ℕ) (count : ℕ) {at one two three end : ℕ} {before first second third last : List ℕ}
    → Put 5 before at mark one first → Put 1 first one (32 ∷ []) two second → Put 5 second two (decimal count) three third → Put 1 third three (10 ∷ []) end last
    → Put 12 before at (line_end mark count) end last
end_put mark count p s q e =
    put_as (omega arith) (ap (λ (x : List ℕ). x ++ 10 ∷ []) (append_assoc mark (32 ∷ []) (decimal count))) (put_then (put_then (put_then p s) q) e)

-- that of a line which counts nothing
pub uncounted_put : (mark : List ℕ) {most at next end : ℕ} {before after last : List ℕ} → Put most before at mark next after → Put 3 after next (32 ∷ 48 ∷ 10 ∷ []) end last
    → Put (most + 3) before at (line_end mark 0) end last
unfolding decimal digits places
uncounted_put mark p q = put_as (omega arith) (sym (append_assoc mark (32 ∷ 48 ∷ []) (10 ∷ []))) (put_then p q)
