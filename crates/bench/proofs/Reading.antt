-- What a chunk of the input becomes: a word for each two of its bytes, and there is room for them; and what the chunks become, one after
-- the other.
use Rattle.std.proofs.Common.{arith, ◌≡◌, ℕ, ◌+◌, ◌-◌, ◌/◌, ◌%◌, ◌<◌, ◌≤◌, ◌⊎◌, Bool, false, List, [], ◌++◌, ◌∙◌, length, take, drop, refl, sym, ap, ap₂, subst, length-take-le, take_all, append-nil, append_assoc, inl, inr, None, Some, IfSome, IfOk, OnOk, OnErr}
use Rattle.std.specs.Prelude.{Option, Result, Ok, Err, cond, eqb}
use Rattle.std.specs.Io.KnownBytes.{Appends}
use Rattle.std.proofs.lemmas.List.{take_rest, drop_all}
use Rattle.std.proofs.Math.Seq.{drop-append-add, take-append-add, take-append_seam}
use lib.ListN.{length-drop}
use borrow.Author.Tests.{le-leb}
use borrow.Rule.Slice.PartMut.{put_mid, post_of}
use Rattle.verdict.specs.Lists.{Words, Bytes, Text}
use Rattle.verdict.specs.Promise.{Leaves}
use Rattle.verdict.specs.Verdict.{Verdict, verdict, done, said_by, numbered}
use Rattle.verdict.proofs.Said.{numbered_once}
use Rattle.verdict.specs.declared.Refusal.{Refusal}
use Rattle.words.specs.declared.Converted.{Converted}
use Rattle.words.specs.Words.{words_count, odd_byte, converted, to_words, filled}
use Rattle.run.specs.Bench.{words_text, bench_text}
use Rattle.run.specs.Calls.{Converts, most_bytes}
use Rattle.run.specs.Calls.Converts.{last_chunk, one_chunk}
use Rattle.run.proofs.Begun.{count_is, converts_are}
use Rattle.run.proofs.Front.{front_is_enough, front_is_checked}
use Rattle.bench.specs.End.{end_of, end_of_bytes}
use Rattle.bench.specs.Known.{ReadsFront, AppendsFront, Writes}
use Rattle.bench.proofs.Printing.{nothing_yet}
use Rattle.bench.specs.declared.{Lost.Lost, End.End, End.TheVariants.Written, End.TheVariants.Refused}

-- the words from one on
abbrev pub rest_of : List ℕ → ℕ → List ℕ
rest_of words at = take (length words - at) (drop at words)

-- there is room for a chunk's words wherever a chunk may begin
pub room : (bytes words : List ℕ) (got at : ℕ) → got ≤ length bytes → length bytes ≡ 2048 → length words ≡ 13312 → at % 1024 ≡ 0 → at < length words
    → words_count (take got bytes) ≤ length (rest_of words at)
room bytes words got at fits chunk all whole below =
    let rest = length-drop at words in
    let long = length-take-le (length words - at) (drop at words) (omega (arith, rest)) in
    let many = length-take-le got bytes fits in
    omega (arith, long, many, chunk, all, whole, below, fits)

pub made : (bytes words : List ℕ) (got at : ℕ) → got ≤ length bytes → length bytes ≡ 2048 → length words ≡ 13312 → at % 1024 ≡ 0 → at < length words
    → {r : Converted} {left : List ℕ} → Leaves (to_words (take got bytes) (rest_of words at)) (filled (take got bytes) (rest_of words at)) (numbered (Ok r)) left → r.count ≡ got / 2
made bytes words got at fits chunk all whole below h =
    count_is (take got bytes) (rest_of words at) (room bytes words got at fits chunk all whole below) h ∙ ap (λ (n : ℕ). n / 2) (length-take-le got bytes fits)

-- words that have room for it are not refused
pub is_made : (bytes words : List ℕ) → words_count bytes ≤ length words → (r : Result Converted Refusal) → numbered r ≡ to_words bytes words → r ≡ Ok (converted (words_count bytes) (odd_byte bytes))
unfolding to_words
is_made bytes words enough r e =
    numbered_once r (Ok (converted (words_count bytes) (odd_byte bytes)))
    (e ∙ ap (λ (a : Bool). said_by (cond a done (verdict 12 0)) (converted (words_count bytes) (odd_byte bytes))) (le-leb (words_count bytes) (length words) enough))

pub leaves_made : (bytes words left : List ℕ) {r : Result Converted Refusal} (c : Converted) → r ≡ Ok c → numbered r ≡ to_words bytes words → left ≡ filled bytes words
    → Leaves (to_words bytes words) (filled bytes words) (numbered (Ok c)) left
leaves_made bytes words left c is e l = record { answers = ap numbered (sym is) ∙ e; leaves = l }

-- ---- the chunks one after the other

-- those that were read so far, and whatever the chunks after them become, make the whole
abbrev pub Converting : Bytes → Words → ℕ → Words → Type 0
Converting taken first count words =
    (rest : Bytes) (more : ℕ) (odd : Bool) (after : Words) → Converts rest (drop count words) more odd after → Converts (taken ++ rest) first (count + more) odd (take count words ++ after)

same : {first : Words} {odd : Bool} {a b : Bytes} {m n : ℕ} {xs ys : Words} → a ≡ b → m ≡ n → xs ≡ ys → Converts a first m odd xs → Converts b first n odd ys
same {first} {odd} {a} {b} {m} {n} {xs} {ys} p q r c =
    subst (λ (x : Bytes). Converts x first n odd ys) p (subst (λ (x : ℕ). Converts a first x odd ys) q (subst (λ (x : Words). Converts a first m odd x) r c))

pub none_yet : (words : Words) → Converting [] words 0 words
none_yet words rest more odd after c = same refl (omega arith) refl c

module _ (taken : Bytes) (first : Words) (count : ℕ) (words : Words) (so_far : Converting taken first count words) (within : count ≤ length words)
    (chunk : Bytes) (fits : words_count chunk ≤ length (rest_of words count))
    {r : Converted} {left : Words} (h : Leaves (to_words chunk (rest_of words count)) (filled chunk (rest_of words count)) (numbered (Ok r)) left) where
  front : List ℕ
  front = take count words

  front_long : length front ≡ count
  unfolding front
  front_long = length-take-le count words within

  abbrev back : List ℕ
  back = put_mid count (length words - count) words left

  -- the words with the part put back
  back_is : back ≡ front ++ left
  unfolding front
  back_is =
      let none : post_of count (length words - count) words ≡ [] = drop_all (length words - count) (drop count words) (omega (arith, length-drop count words)) in
      ap (λ (x : List ℕ). take count words ++ (left ++ x)) none ∙ ap (λ (x : List ℕ). take count words ++ x) (append-nil left)

  -- the chunk is the last one
  pub last_of : Converts (taken ++ chunk) first (count + r.count) r.odd back
  unfolding front
  last_of =
      same refl refl (sym back_is)
      (so_far chunk r.count r.odd left (subst (λ (x : Words). Converts chunk x r.count r.odd left) (take_rest words count) (last_chunk fits h)))

  -- more chunks come after it
  pub next_of : length chunk % 2 ≡ 0 → Converting (taken ++ chunk) first (count + r.count) back
  unfolding front
  next_of even rest more odd after c =
      let dropped : drop (count + r.count) back ≡ drop r.count left =
      ap₂ (λ (n : ℕ) (x : List ℕ). drop (n + r.count) x) (sym front_long) back_is ∙ drop-append-add front left r.count in
      let kept : take (count + r.count) back ≡ front ++ take r.count left =
      ap₂ (λ (n : ℕ) (x : List ℕ). take (n + r.count) x) (sym front_long) back_is ∙ take-append-add front left r.count in
      let one : Converts (chunk ++ rest) (rest_of words count) (r.count + more) odd (take r.count left ++ after) =
      one_chunk chunk even fits h (subst (λ (x : Words). Converts rest x more odd after) dropped c) in
      let all = so_far (chunk ++ rest) (r.count + more) odd (take r.count left ++ after)
      (subst (λ (x : Words). Converts (chunk ++ rest) x (r.count + more) odd (take r.count left ++ after)) (take_rest words count) one) in
      same (sym (append_assoc taken chunk rest)) (omega arith) (sym (append_assoc front (take r.count left) after) ∙ sym (ap (λ (x : List ℕ). x ++ after) kept)) all

-- nothing becomes nothing
nothing : Converts [] [] 0 false []
unfolding to_words filled
nothing = last_chunk {chunk = []} {words = []} {left = []} {c = converted 0 false} (omega arith) (record { answers = refl; leaves = refl })

-- the words are full
pub all_of : (taken : Bytes) (first : Words) (count : ℕ) (words : Words) → Converting taken first count words → length words ≤ count → Converts taken first count false words
all_of taken first count words so_far full =
    let empty = drop_all count words full in
    same (append-nil taken) (omega arith) (append-nil (take count words) ∙ take_all count words full)
    (so_far [] 0 false [] (subst (λ (x : Words). Converts [] x 0 false []) (sym empty) nothing))

-- ---- what is printed of the words that were read

-- the bytes that were taken decide it
module _ (taken bytes : Bytes) (count : ℕ) (odd : Bool) (first left : Words) (c : Converts taken first count odd left) where
  of_taken : words_text (take count left) odd ≡ bench_text taken
  of_taken = let made = converts_are c in ap₂ words_text made.0 made.1

  end_of_taken : end_of (take count left) odd ≡ end_of_bytes taken
  end_of_taken = let made = converts_are c in ap₂ end_of made.0 made.1

pub text_is : (old new : Option (List ℕ)) {first left : Words} {count : ℕ} {odd : Bool} → ReadsFront old new first count odd left
    → IfSome old (λ bytes. words_text (take count left) odd ≡ bench_text bytes)
text_is None new f = tt
text_is (Some bytes) None f = absurd f.1
text_is (Some bytes) (Some rest) {first} {left} {count} {odd} (taken, took, c, enough) = of_taken taken bytes count odd first left c ∙ go enough
  where
    go : (most_bytes ≤ length taken) ⊎ (rest ≡ []) → bench_text taken ≡ bench_text bytes
    go (inl many) = ap bench_text (sym (ap (take (length taken)) took ∙ take-append_seam taken rest)) ∙ front_is_enough bytes (length taken) many
    go (inr none) = ap bench_text (sym (took ∙ ap (λ (x : List ℕ). taken ++ x) none ∙ append-nil taken))

pub end_is : (old new : Option (List ℕ)) {first left : Words} {count : ℕ} {odd : Bool} → ReadsFront old new first count odd left
    → IfSome old (λ bytes. end_of (take count left) odd ≡ end_of_bytes bytes)
end_is None new f = tt
end_is (Some bytes) None f = absurd f.1
end_is (Some bytes) (Some rest) {first} {left} {count} {odd} (taken, took, c, enough) = end_of_taken taken bytes count odd first left c ∙ go enough
  where
    go : (most_bytes ≤ length taken) ⊎ (rest ≡ []) → end_of_bytes taken ≡ end_of_bytes bytes
    go (inl many) =
        ap end_of_bytes (sym (ap (take (length taken)) took ∙ take-append_seam taken rest))
        ∙ ap (λ (v : Verdict). cond (eqb v.number 0) Written Refused) (front_is_checked bytes (length taken) many)
    go (inr none) = ap end_of_bytes (sym (took ∙ ap (λ (x : List ℕ). taken ++ x) none ∙ append-nil taken))

-- so that the answer for these words is the one for the bytes
pub ends_so : (answer : Result End Lost) (old : Option (List ℕ)) (end : End) → IfOk answer (λ told. told ≡ end) → IfSome old (λ bytes. end ≡ end_of_bytes bytes)
    → IfOk answer (λ told. IfSome old (λ bytes. told ≡ end_of_bytes bytes))
ends_so (Ok told) None end p q = tt
ends_so (Ok told) (Some bytes) end p q = p ∙ q
ends_so (Err lost) old end p q = tt

pub prints_so : (answer : Result End Lost) (old before after : Option (List ℕ)) (text : Text) → Writes before after text answer → IfSome old (λ bytes. text ≡ bench_text bytes)
    → OnOk answer (IfSome old (λ bytes. Appends before after (bench_text bytes)))
prints_so (Ok told) None before after text p q = tt
prints_so (Ok told) (Some bytes) before after text p q = subst (Appends before after) q p
prints_so (Err lost) old before after text p q = tt

pub begins_so : (answer : Result End Lost) (old before after : Option (List ℕ)) (text : Text) → Writes before after text answer → IfSome old (λ bytes. text ≡ bench_text bytes)
    → OnErr answer (IfSome old (λ bytes. AppendsFront before after (bench_text bytes)))
begins_so (Ok told) old before after text p q = tt
begins_so (Err lost) None before after text p q = tt
begins_so (Err lost) (Some bytes) before after text p q = subst (AppendsFront before after) q p.0

-- before anything is read
pub begins_none : (old before : Option (List ℕ)) → IfSome old (λ bytes. AppendsFront before before (bench_text bytes))
begins_none None before = tt
begins_none (Some bytes) before = nothing_yet before (bench_text bytes)
