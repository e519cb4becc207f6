-- What a text of lines says of a block: the parts of a text, the number that digits spell, and the lines of the bench one after the other.
-- Assumes nothing.
use mathlib.Core.Path.{◌≡◌, refl, sym, ap, ap₂, ◌∙◌, subst}
use mathlib.Core.Bool.{Bool, true, false, cond, ◌&&◌}
use mathlib.Core.List.{List, [], ◌∷◌, ◌++◌, flat_map, append_assoc, append-nil}
use mathlib.Core.Option.{none, some}
use Prim.Native.Nat.{ℕ, zero, suc, ◌+◌, ◌-◌, ◌*◌, ◌/◌, ◌%◌, ◌^◌, ◌<◌}
use native.Mathlib.Nat.{div-lt_iff_lt-mul, pow-suc}
use native.Mathlib.Omega.{arith}
use borrow.Author.Tests.{eq-eqb, ne_eqb}
use lib.Dec.{eqb}
use lib.ListN.{length, get_or}
use Rattle.blocks.specs.declared.Outputs.{Outputs}
use Rattle.blocks.specs.Kind.{has_pointer}
use Rattle.text.specs.Text.{places, digits, decimal, field, digit, output_fields, pointer_field, line, head_line, end_line}
use Rattle.text.proofs.Decimal.{as_the_kit}
use Rattle.rounds.specs.Bench.{onto, parted, number_from, number_in, report_in, fields_say, line_says, text_says}

-- ---- how often a byte stands in a text
unfoldable occurs : ℕ → List ℕ → ℕ
occurs byte [] = 0
occurs byte (x ∷ text) = cond (eqb x byte) 1 0 + occurs byte text

occurs_both : (byte : ℕ) (x y : List ℕ) → occurs byte (x ++ y) ≡ occurs byte x + occurs byte y
unfolding occurs
occurs_both byte [] y = omega arith
occurs_both byte (a ∷ x) y = ap (λ (k : ℕ). cond (eqb a byte) 1 0 + k) (occurs_both byte x y) ∙ omega arith

-- a part that does not hold the byte is one part
module _ (byte : ℕ) where
  first_is : (x : ℕ) (text : List ℕ) → occurs byte (x ∷ text) ≡ 0 → (eqb x byte ≡ false) × (occurs byte text ≡ 0)
  unfolding occurs
  first_is x text e = go (eqb x byte) refl e
    where
      go : (a : Bool) → eqb x byte ≡ a → cond a 1 0 + occurs byte text ≡ 0 → (eqb x byte ≡ false) × (occurs byte text ≡ 0)
      go true q h = absurd (omega arith)
      go false q h = (q, omega arith)

  parted_then : (x rest : List ℕ) → occurs byte x ≡ 0 → parted byte (x ++ byte ∷ rest) ≡ x ∷ parted byte rest
  unfolding parted
  parted_then [] rest e = ap (λ (a : Bool). cond a ([] ∷ parted byte rest) (onto byte (parted byte rest))) (eq-eqb byte byte refl)
  parted_then (a ∷ x) rest e =
      let h = first_is a x e in
      ap₂ (λ (b : Bool) (parts : List (List ℕ)). cond b ([] ∷ parted byte (x ++ byte ∷ rest)) (onto a parts)) h.0 (parted_then x rest h.1)

  parted_end : (x : List ℕ) → occurs byte x ≡ 0 → parted byte x ≡ x ∷ []
  unfolding parted
  parted_end [] e = refl
  parted_end (a ∷ x) e =
      let h = first_is a x e in
      ap₂ (λ (b : Bool) (parts : List (List ℕ)). cond b ([] ∷ parted byte x) (onto a parts)) h.0 (parted_end x h.1)

  -- there is one part more than the byte stands in the text
  onto_count : (x : ℕ) (parts : List (List ℕ)) (n : ℕ) → length parts ≡ suc n → length (onto x parts) ≡ suc n
  onto_count x [] n e = absurd (omega arith)
  onto_count x (p ∷ parts) n e = e

  parted_count : (x : List ℕ) → length (parted byte x) ≡ suc (occurs byte x)
  unfolding parted occurs
  parted_count [] = refl
  parted_count (a ∷ x) = go (eqb a byte) (parted_count x)
    where
      go : (b : Bool) → length (parted byte x) ≡ suc (occurs byte x) → length (cond b ([] ∷ parted byte x) (onto a (parted byte x))) ≡ suc (cond b 1 0 + occurs byte x)
      go true h = omega (arith, h)
      go false h = onto_count a (parted byte x) (occurs byte x) h ∙ omega arith

-- ---- numbers

-- a byte below the digits stands in no number
digits_clear : (byte : ℕ) → byte < 48 → (k n : ℕ) → occurs byte (digits k n) ≡ 0
unfolding digits occurs
digits_clear byte l zero n = refl
digits_clear byte l (suc k) n =
    occurs_both byte (digits k (n / 10)) ((48 + n % 10) ∷ [])
    ∙ ap₂ (λ (x : ℕ) (b : Bool). x + (cond b 1 0 + 0)) (digits_clear byte l k (n / 10)) (ne_eqb (48 + n % 10) byte (λ e. omega arith))

decimal_clear : (byte : ℕ) → byte < 48 → (n : ℕ) → occurs byte (decimal n) ≡ 0
unfolding decimal
decimal_clear byte l n = digits_clear byte l (places n) n

-- one digit more
number_more : (a y : ℕ) (x : List ℕ) → number_from a (x ++ y ∷ []) ≡ number_from a x * 10 + (y - 48)
unfolding number_from
number_more a y [] = refl
number_more a y (b ∷ x) = number_more (a * 10 + (b - 48)) y x

digits_read : (k n : ℕ) → n < 10 ^ k → number_in (digits k n) ≡ n
unfolding digits number_from
digits_read zero n l = let one : 10 ^ 0 ≡ 1 = refl in omega (arith, one)
digits_read (suc k) n l =
    let ten : 10 ^ suc k ≡ 10 ^ k * 10 = pow-suc 10 k in
    let less : n / 10 < 10 ^ k = (div-lt_iff_lt-mul {k = 10} {x = n} {y = 10 ^ k} (omega arith)).1 (omega (arith, ten)) in
    number_more 0 (48 + n % 10) (digits k (n / 10)) ∙ ap (λ (x : ℕ). x * 10 + (48 + n % 10 - 48)) (digits_read k (n / 10) less) ∙ omega arith

-- a printed word is read as itself
pub decimal_read : (n : ℕ) → n < 65536 → number_in (decimal n) ≡ n
unfolding decimal
decimal_read n l = digits_read (places n) n (as_the_kit n l).0.1

-- ---- the fields of a block's line
module _ (s k : ℕ) (out : Outputs) (mark : List ℕ) where
  -- a line without its end
  abbrev body : List ℕ
  body = field s ++ field k ++ output_fields out ++ (mark ++ 32 ∷ decimal out.count)

  abbrev pub fields : List (List ℕ)
  fields =
      decimal s ∷ decimal k ∷ (digit out.top ∷ []) ∷ (digit out.middle ∷ []) ∷ (digit out.bottom ∷ []) ∷ mark ∷ decimal out.count ∷ []

  in_order : body ≡ decimal s ++ 32 ∷ (decimal k ++ 32 ∷ (digit out.top ∷ 32 ∷ digit out.middle ∷ 32 ∷ digit out.bottom ∷ 32 ∷ (mark ++ 32 ∷ decimal out.count)))
  in_order = simp append_assoc

  digit_clear : (byte : ℕ) → byte < 48 → (on : Bool) → occurs byte (digit on ∷ []) ≡ 0
  unfolding occurs
  digit_clear byte l true = ap (λ (b : Bool). cond b 1 0 + 0) (ne_eqb 49 byte (λ e. omega arith))
  digit_clear byte l false = ap (λ (b : Bool). cond b 1 0 + 0) (ne_eqb 48 byte (λ e. omega arith))

  fields_are : occurs 32 mark ≡ 0 → parted 32 body ≡ fields
  fields_are e =
      ap (parted 32) in_order
      ∙ next (decimal s) (decimal_clear 32 (omega arith) s) _
      (next (decimal k) (decimal_clear 32 (omega arith) k) _
      (next (digit out.top ∷ []) (digit_clear 32 (omega arith) out.top) _
      (next (digit out.middle ∷ []) (digit_clear 32 (omega arith) out.middle) _
      (next (digit out.bottom ∷ []) (digit_clear 32 (omega arith) out.bottom) _
      (next mark e _ (parted_end 32 (decimal out.count) (decimal_clear 32 (omega arith) out.count)))))))
    where
      next : (x : List ℕ) → occurs 32 x ≡ 0 → (rest : List ℕ) {parts : List (List ℕ)} → parted 32 rest ≡ parts → parted 32 (x ++ 32 ∷ rest) ≡ x ∷ parts
      next x clear rest h = parted_then 32 x rest clear ∙ ap (λ (l : List (List ℕ)). x ∷ l) h

  -- no line feed stands in it
  body_clear : occurs 10 mark ≡ 0 → occurs 10 body ≡ 0
  unfolding occurs
  body_clear e =
      let tens : (on : Bool) → occurs 10 (digit on ∷ []) ≡ 0 = digit_clear 10 (omega arith) in
      let ended : occurs 10 (mark ++ 32 ∷ decimal out.count) ≡ 0 = omega (arith, occurs_both 10 mark (32 ∷ decimal out.count), decimal_clear 10 (omega arith) out.count, e) in
      let tail : List ℕ = 32 ∷ digit out.top ∷ 32 ∷ digit out.middle ∷ 32 ∷ digit out.bottom ∷ 32 ∷ (mark ++ 32 ∷ decimal out.count) in
      let last : occurs 10 tail ≡ 0 = omega (arith, tens out.top, tens out.middle, tens out.bottom, ended) in
      let then : occurs 10 (32 ∷ (decimal k ++ tail)) ≡ 0 = omega (arith, occurs_both 10 (decimal k) tail, decimal_clear 10 (omega arith) k, last) in
      ap (occurs 10) in_order ∙ occurs_both 10 (decimal s) (32 ∷ (decimal k ++ tail)) ∙ ap₂ ◌+◌ (decimal_clear 10 (omega arith) s) then

  -- what it says of a block: nothing of another, and of its own what is read in its fields
  module _ {A : Type 0} (read : List (List ℕ) → A) (clear : occurs 32 mark ≡ 0) (l : k < 65536) where
    says_nothing : (other : ℕ) → (k ≡ other → ⊥) → line_says read other body ≡ []
    says_nothing other h =
        ap (fields_say read other) (fields_are clear)
        ∙ ap (λ (b : Bool). cond b (read fields ∷ []) []) (ap (λ (n : ℕ). eqb n other) (decimal_read k l) ∙ ne_eqb k other h)

    says_own : line_says read k body ≡ read fields ∷ []
    says_own =
        ap (fields_say read k) (fields_are clear)
        ∙ ap (λ (b : Bool). cond b (read fields ∷ []) []) (ap (λ (n : ℕ). eqb n k) (decimal_read k l) ∙ eq-eqb k k refl)

  -- the report: the pointer where the middle output is on
  middle_read : (on : Bool) → eqb (number_in (digit on ∷ [])) 1 ≡ on
  unfolding number_from
  middle_read true = refl
  middle_read false = refl

  pub reads_report : report_in fields ≡ cond out.middle (some (number_in mark)) none
  reads_report = ap (λ (a : Bool). cond a (some (number_in mark)) none) (middle_read out.middle)

-- a line with another number of fields says nothing
few_fields : {A : Type 0} (read : List (List ℕ) → A) (k : ℕ) (x : List ℕ) → (occurs 32 x ≡ 6 → ⊥) → line_says read k x ≡ []
few_fields read k x h =
    ap (λ (b : Bool). cond (b && eqb (number_in (get_or (parted 32 x) 1 [])) k) (read (parted 32 x) ∷ []) [])
    (ne_eqb (length (parted 32 x)) 7 (λ e. h (omega (arith, parted_count 32 x, e))))

-- ---- texts of whole lines: what such a text says comes before what follows it says
pub record Tells {A : Type 0} (read : List (List ℕ) → A) (k : ℕ) (text : List ℕ) (said : List A) : Type 0 where
  pub tells : (rest : List ℕ) → text_says read k (text ++ rest) ≡ said ++ text_says read k rest

module _ {A : Type 0} {read : List (List ℕ) → A} {k : ℕ} where
  pub tells_none : Tells read k [] []
  tells_none = record { tells = λ rest. refl }

  pub tells_both : {x y : List ℕ} {a b : List A} → Tells read k x a → Tells read k y b → Tells read k (x ++ y) (a ++ b)
  tells_both {x} {y} {a} {b} p q = record {
    tells = λ rest. ap (text_says read k) (append_assoc x y rest) ∙ p.tells (y ++ rest) ∙ ap (λ (l : List A). a ++ l) (q.tells rest) ∙ sym (append_assoc a b (text_says read k rest));
  }

  tells_line : (x : List ℕ) → occurs 10 x ≡ 0 → Tells read k (x ++ 10 ∷ []) (line_says read k x)
  unfolding text_says flat_map
  tells_line x e = record {
    tells = λ rest. ap (text_says read k) (append_assoc x (10 ∷ []) rest) ∙ ap (flat_map (line_says read k)) (parted_then 10 x rest e);
  }

  -- all that a text of whole lines says
  pub all_told : {x : List ℕ} {a : List A} → Tells read k x a → text_says read k x ≡ a
  unfolding text_says parted flat_map
  all_told {x} {a} p = ap (text_says read k) (sym (append-nil x)) ∙ p.tells [] ∙ append-nil a

  pub told_as : {x : List ℕ} {a b : List A} → a ≡ b → Tells read k x a → Tells read k x b
  told_as e p = record { tells = λ rest. p.tells rest ∙ ap (λ (l : List A). l ++ text_says read k rest) e }

-- ---- the bench's lines
mark_clear : (byte kind pointer : ℕ) → byte < 45 → occurs byte (pointer_field kind pointer) ≡ 0
unfolding pointer_field occurs
mark_clear byte kind pointer l = go (has_pointer kind)
  where
    go : (a : Bool) → occurs byte (cond a (decimal pointer) (45 ∷ [])) ≡ 0
    go true = decimal_clear byte (omega arith) pointer
    go false = ap (λ (b : Bool). cond b 1 0 + 0) (ne_eqb 45 byte (λ e. omega arith))

module _ (s k kind pointer : ℕ) (out : Outputs) (l : k < 65536) {A : Type 0} (read : List (List ℕ) → A) where
  abbrev mark : List ℕ
  mark = pointer_field kind pointer

  whole : line s k out mark ≡ body s k out mark ++ 10 ∷ []
  unfolding line
  whole = sym (append_assoc (field s ++ field k ++ output_fields out) (mark ++ 32 ∷ decimal out.count) (10 ∷ []))

  told_line : (other : ℕ) → Tells read other (line s k out mark) (line_says read other (body s k out mark))
  told_line other =
      subst (λ (x : List ℕ). Tells read other x (line_says read other (body s k out mark))) (sym whole)
      (tells_line (body s k out mark) (body_clear s k out mark (mark_clear 10 kind pointer (omega arith))))

  pub other_line : (other : ℕ) → (k ≡ other → ⊥) → Tells read other (line s k out mark) []
  other_line other h = told_as (says_nothing s k out mark read (mark_clear 32 kind pointer (omega arith)) l other h) (told_line other)

  pub own_line : Tells read k (line s k out mark) (read (fields s k out mark) ∷ [])
  own_line = told_as (says_own s k out mark read (mark_clear 32 kind pointer (omega arith)) l) (told_line k)

module _ {A : Type 0} (read : List (List ℕ) → A) (k : ℕ) where
  pub head_tells : (count table : ℕ) → Tells read k (head_line count table) []
  unfolding head_line occurs
  head_tells count table =
      let first : List ℕ = 98 ∷ 108 ∷ 111 ∷ 99 ∷ 107 ∷ 115 ∷ 32 ∷ decimal count in
      let second : List ℕ = 32 ∷ 119 ∷ 111 ∷ 114 ∷ 100 ∷ 115 ∷ 32 ∷ decimal table in
      told_as (few_fields read k (first ++ second) (λ e. omega (arith, e, occurs_both 32 first second, decimal_clear 32 (omega arith) count, decimal_clear 32 (omega arith) table)))
      (tells_line (first ++ second) (omega (arith, occurs_both 10 first second, decimal_clear 10 (omega arith) count, decimal_clear 10 (omega arith) table)))

  pub end_tells : (scans : ℕ) → Tells read k (end_line scans) []
  unfolding end_line occurs
  end_tells scans =
      let all : List ℕ = 101 ∷ 110 ∷ 100 ∷ 32 ∷ decimal scans in
      told_as (few_fields read k all (λ e. omega (arith, e, decimal_clear 32 (omega arith) scans)))
      (tells_line all (omega (arith, decimal_clear 10 (omega arith) scans)))
