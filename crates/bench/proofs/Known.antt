-- What a read into the rest of a buffer, and a write of the rest of a text, do to known bytes.
use Rattle.std.proofs.Common.{◌≡◌, ℕ, ◌+◌, ◌-◌, ◌≤◌, List, ◌++◌, arith, length, take, drop, slice_range, sym, ap, ◌∙◌, subst, le_refl, drop_at, length-take-le}
use Rattle.std.specs.Prelude.{Option}
use Rattle.std.proofs.lemmas.Slice.{take-put_mid_below}
use Rattle.std.specs.Io.KnownBytes.{Appends, Consumes}
use Rattle.std.proofs.KnownBytes.{Appends-trans, Consumes-trans}
use borrow.Rule.Slice.PartMut.{put_mid, post_of}
use Rattle.std.proofs.lemmas.List.{take_rest}
use lib.Seq.{take-add, take-append-le}

taken_split : (a n : ℕ) (xs : List ℕ) → take a xs ++ take n (drop a xs) ≡ take (a + n) xs
taken_split a n xs = sym (take-add a n xs)

-- `at` bytes of the text are appended, and then n of the rest
pub appends_rest : (a b c : Option (List ℕ)) (text : List ℕ) (at n : ℕ) → Appends a b (take at text) → Appends b c (take n (take (length text - at) (drop at text))) → Appends a c (take (at + n) text)
appends_rest a b c text at n p q =
    let rest : take n (take (length text - at) (drop at text)) ≡ take n (drop at text) = ap (take n) (take_rest text at) in
    subst (Appends a c) (taken_split at n text) (Appends-trans a b c _ _ p (subst (Appends b c) rest q))

range_of_put : (a k n : ℕ) (xs ys : List ℕ) → a ≤ length xs → n ≤ length ys → slice_range (put_mid a k xs ys) a (a + n) ≡ take n ys
range_of_put a k n xs ys within fits =
    let same : (a + n) - a ≡ n = omega arith in
    let after = post_of a k xs in
    ap (take ((a + n) - a)) (drop_at (take a xs) (ys ++ after) a (length-take-le a xs within)) ∙ ap (λ m. take m (ys ++ after)) same ∙ take-append-le n ys after fits

joins_range : (a b : ℕ) (old new : List ℕ) → a ≤ b → take a new ≡ take a old → take a old ++ slice_range new a b ≡ take b new
joins_range a b old new h front =
    let same : a + (b - a) ≡ b = omega arith in
    ap (λ l. l ++ slice_range new a b) (sym front) ∙ sym (take-add a (b - a) new) ∙ ap (λ n. take n new) same

-- `at` bytes of the buffer were consumed, and then n that were read to the rest of it
pub consumes_rest : (a b c : Option (List ℕ)) (buf part : List ℕ) (at room n : ℕ) → at ≤ length buf → n ≤ length part
    → Consumes a b (take at buf) → Consumes b c (take n part) → Consumes a c (take (at + n) (put_mid at room buf part))
consumes_rest a b c buf part at room n within fits p q =
    let all = put_mid at room buf part in
    let joined : take at buf ++ slice_range all at (at + n) ≡ take (at + n) all = joins_range at (at + n) buf all (omega arith) (take-put_mid_below _ _ _ _ _ (le_refl _) within) in
    let read : slice_range all at (at + n) ≡ take n part = range_of_put at room n buf part within fits in
    subst (Consumes a c) (ap (λ l. take at buf ++ l) (sym read) ∙ joined) (Consumes-trans a b c _ _ p q)
