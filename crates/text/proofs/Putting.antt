-- The laws of bytes put into a buffer: one byte, one run of bytes after another or over its end, the digits of a number.
use mathlib.Core.Path.{◌≡◌, refl, sym, ap, ap₂, ◌∙◌, subst}
use mathlib.Core.List.{List, [], ◌∷◌, ◌++◌, append-nil, append_assoc}
use Prim.Native.Nat.{ℕ, suc, ◌+◌, ◌-◌, ◌≤◌, ◌<◌}
use native.Mathlib.Nat.{add-zero, le_refl}
use native.Mathlib.Numerals.{add-one}
use native.Mathlib.Omega.{arith}
use borrow.Author.Tests.{lt-ltb, le-ltb}
use lib.ListN.{length, get_or, take, drop, set, length-append, length-drop, take-append-drop}
use lib.Seq.{set_split, take_at, drop-append-add, drop-drop, length-take-le, take-suc}
use Rattle.text.specs.Text.{places, digits, decimal}
use Rattle.text.specs.Inner.{Put, Over}

-- the buffer is as long as it was
pub put_long : {most at next : ℕ} {before bytes after : List ℕ} → Put most before at bytes next after → length after ≡ length before
put_long {most} {at} {next} {before} {bytes} {after} p =
    ap length p.holds
    ∙ length-append (take at before) (bytes ++ drop next before)
    ∙ ap₂ ◌+◌ (length-take-le at before (omega (arith, p.reaches, p.room))) (length-append bytes (drop next before) ∙ ap (λ (n : ℕ). length bytes + n) (length-drop next before))
    ∙ omega (arith, p.reaches, p.room)

-- nothing
pub put_none : (most : ℕ) (text : List ℕ) (at : ℕ) → at ≤ length text → Put most text at [] at text
put_none most text at l = record {
  few = omega arith;
  reaches = sym (add-zero at);
  room = l;
  holds = sym (take-append-drop at text);
}

-- one byte
pub put_one : (text : List ℕ) (at byte : ℕ) → at < length text → Put 1 text at (byte ∷ []) (at + 1) (set text at byte)
put_one text at byte l = record {
  few = omega arith;
  reaches = refl;
  room = omega arith;
  holds = set_split text at byte l ∙ ap (λ (n : ℕ). take at text ++ byte ∷ drop n text) (sym (add-one at));
}

-- with more room, and of bytes that are the same
pub put_as : {most more at next : ℕ} {before bytes after same : List ℕ} → most ≤ more → bytes ≡ same → Put most before at bytes next after → Put more before at same next after
put_as {most} {more} {at} {next} {before} {bytes} {after} {same} l e p = record {
  few = omega (arith, p.few, ap length e);
  reaches = p.reaches ∙ ap (λ (x : List ℕ). at + length x) e;
  room = p.room;
  holds = p.holds ∙ ap (λ (x : List ℕ). take at before ++ (x ++ drop next before)) e;
}

-- of so many bytes
pub put_reaching : (k : ℕ) {most at next : ℕ} {before bytes after : List ℕ} → length bytes ≡ k → Put most before at bytes next after → Put most before at bytes (at + k) after
put_reaching k {most} {at} {next} {before} {bytes} {after} e p = subst (λ (n : ℕ). Put most before at bytes n after) (p.reaches ∙ ap (λ (n : ℕ). at + n) e) p

-- more from inside it on, over the spare bytes at its end
module _ (bytes spare : List ℕ) {most more at far next end : ℕ} {before after rest last : List ℕ} where
  pub put_over : Put most before at (bytes ++ spare) far after → next ≡ at + length bytes → far ≤ end → Put more after next rest end last
      → Put (most + more) before at (bytes ++ rest) end last
  put_over p e l q =
      let front : List ℕ = take at before ++ bytes in
      let whole : after ≡ front ++ (spare ++ drop far before) = p.holds ∙ simp append_assoc in
      let begun : length (take at before) ≡ at = length-take-le at before (omega (arith, p.reaches, p.room)) in
      let reach : length front ≡ next = length-append (take at before) bytes ∙ ap (λ (n : ℕ). n + length bytes) begun ∙ sym e in
      let past : length (front ++ spare) ≡ far =
      length-append front spare ∙ omega (arith, reach, e, p.reaches, length-append bytes spare)
      in
      let over : length (front ++ spare) + (end - far) ≡ end = omega (arith, past, l) in
      let behind : drop end after ≡ drop end before =
      ap₂ drop (sym over) (whole ∙ sym (append_assoc front spare (drop far before)))
      ∙ drop-append-add (front ++ spare) (drop far before) (end - far)
      ∙ drop-drop (end - far) far before
      ∙ ap (λ (n : ℕ). drop n before) (ap (λ (n : ℕ). n + (end - far)) (sym past) ∙ over)
      in
      record {
        few = omega (arith, length-append bytes rest, length-append bytes spare, p.few, q.few);
        reaches = omega (arith, length-append bytes rest, e, q.reaches);
        room = omega (arith, q.room, put_long p);
        holds =
            q.holds
            ∙ ap₂ (λ (x y : List ℕ). x ++ (rest ++ y)) (ap (take next) whole ∙ take_at front (spare ++ drop far before) next reach) behind
            ∙ append_assoc (take at before) bytes (rest ++ drop end before)
            ∙ ap (λ (x : List ℕ). take at before ++ x) (sym (append_assoc bytes rest (drop end before)));
      }

-- more after it
module _ {most more at next end : ℕ} {before bytes after rest last : List ℕ} where
  pub put_then : Put most before at bytes next after → Put more after next rest end last → Put (most + more) before at (bytes ++ rest) end last
  put_then p q =
      put_over bytes [] (put_as (le_refl most) (sym (append-nil bytes)) p) p.reaches (omega (arith, q.reaches)) q

-- with less room, where the bytes are as few
pub put_few : {most less at next : ℕ} {before bytes after : List ℕ} → length bytes ≤ less → Put most before at bytes next after → Put less before at bytes next after
put_few l p = record { few = l; reaches = p.reaches; room = p.room; holds = p.holds }

-- at the front of a buffer
pub put_front : {most next : ℕ} {before bytes after : List ℕ} → Put most before 0 bytes next after → (next ≡ length bytes) × (after ≡ bytes ++ drop (length bytes) before)
put_front {most} {next} {before} {bytes} {after} p =
    let e : next ≡ length bytes = omega (arith, p.reaches) in
    (e, p.holds ∙ ap (λ (n : ℕ). bytes ++ drop n before) e)

-- ---- a piece with spare bytes after it, eight in all
module _ {at next : ℕ} {before bytes after : List ℕ} (o : Over before at bytes next after) where
  pub over_long : length after ≡ length before
  over_long = put_long o.eight

  pub over_few : length bytes + length o.spare ≡ 8
  over_few = omega (arith, length-append bytes o.spare, o.eight.reaches)

  -- a rest that goes over all spare bytes
  pub covered : {most end : ℕ} {rest last : List ℕ} → 8 ≤ length bytes + length rest → Put most after next rest end last
      → Put (8 + most) before at (bytes ++ rest) end last
  covered l q = put_over bytes o.spare o.eight o.reaches (omega (arith, o.reaches, q.reaches, l)) q

-- one byte more, before those that are there
pub put_before : (byte : ℕ) {most at next : ℕ} {before bytes after : List ℕ} → length bytes < most → Put most before (at + 1) bytes next after
    → Put most before at (byte ∷ bytes) next (set after at byte)
put_before byte {most} {at} {next} {before} {bytes} {after} l p =
    let long : at < length before = omega (arith, p.reaches, p.room) in
    let front : length (take at before) ≡ at = length-take-le at before (omega (arith, long)) in
    let past : suc at ≡ length (take at before) + 1 = omega (arith, front) in
    let rest : List ℕ = bytes ++ drop next before in
    let whole : after ≡ take at before ++ get_or before at 0 ∷ rest =
    p.holds ∙ ap (λ (x : List ℕ). x ++ rest) (ap (λ (n : ℕ). take n before) (add-one at) ∙ take-suc before at 0 long) ∙ append_assoc (take at before) (get_or before at 0 ∷ []) rest
    in
    record {
      few = omega (arith, l);
      reaches = omega (arith, p.reaches);
      room = p.room;
      holds =
          ap (λ (x : List ℕ). set x at byte) whole
          ∙ set_split (take at before ++ get_or before at 0 ∷ rest) at byte (omega (arith, front, length-append (take at before) (get_or before at 0 ∷ rest)))
          ∙ ap₂ (λ (x y : List ℕ). x ++ byte ∷ y) (take_at (take at before) (get_or before at 0 ∷ rest) at front)
          (ap (λ (n : ℕ). drop n (take at before ++ get_or before at 0 ∷ rest)) past ∙ drop-append-add (take at before) (get_or before at 0 ∷ rest) 1);
    }

-- ---- a number
module _ (n : ℕ) where
  pub places_1 : n < 10 → places n ≡ 1
  unfolding places
  places_1 l = simp (lt-ltb n 10 l)

  pub places_2 : 10 ≤ n → n < 100 → places n ≡ 2
  unfolding places
  places_2 a l = simp (le-ltb n 10 a, lt-ltb n 100 l)

  pub places_3 : 100 ≤ n → n < 1000 → places n ≡ 3
  unfolding places
  places_3 b l = simp (le-ltb n 10 (omega arith), le-ltb n 100 b, lt-ltb n 1000 l)

  pub places_4 : 1000 ≤ n → n < 10000 → places n ≡ 4
  unfolding places
  places_4 d l = simp (le-ltb n 10 (omega arith), le-ltb n 100 (omega arith), le-ltb n 1000 d, lt-ltb n 10000 l)

  pub places_5 : 10000 ≤ n → places n ≡ 5
  unfolding places
  places_5 e = simp (le-ltb n 10 (omega arith), le-ltb n 100 (omega arith), le-ltb n 1000 (omega arith), le-ltb n 10000 e)

pub ruleset places_laws = (places_1, places_2, places_3, places_4, places_5)

-- as many digits as a number takes
pub put_decimal : (n : ℕ) {k at next : ℕ} {before after : List ℕ} → places n ≡ k → k ≤ 5 → Put k before at (digits k n) next after → Put 5 before at (decimal n) next after
unfolding decimal
put_decimal n e l = put_as l (ap (λ (k : ℕ). digits k n) (sym e))
