-- What the search's answer says tells the answer: two answers that say the same are equal.
use mathlib.Core.Path.{◌≡◌, ap}
use mathlib.Core.Option.{Option}
use Prim.Native.Nat.{ℕ}
use Rattle.std.specs.Prelude.{Result, Ok, Err, Some, None}
use Rattle.std.specs.Prelude.{Option as Answered}
use Rattle.verdict.specs.declared.Refusal.{Refusal}
use Rattle.verdict.specs.Verdict.{numbered}
use Rattle.verdict.proofs.Said.{numbered_once}
use Rattle.search.specs.Search.{shown, difference_said}

shown_once : (x y : Answered ℕ) → shown x ≡ shown y → x ≡ y
shown_once None None e = cc
shown_once None (Some q) e = cc
shown_once (Some p) None e = cc
shown_once (Some p) (Some q) e = cc

-- the answer with what it shows
abbrev showing : Result (Answered ℕ) Refusal → Result (Option ℕ) Refusal
showing (Ok found) = Ok (shown found)
showing (Err r) = Err r

saying : (x : Result (Answered ℕ) Refusal) → numbered (showing x) ≡ difference_said x
saying (Ok found) = cc
saying (Err r) = cc

showing_once : (x y : Result (Answered ℕ) Refusal) → showing x ≡ showing y → x ≡ y
showing_once (Ok x) (Ok y) e = let shows : shown x ≡ shown y = cc in ap Ok (shown_once x y shows)
showing_once (Ok x) (Err r) e = cc
showing_once (Err r) (Ok y) e = cc
showing_once (Err r) (Err q) e = cc

pub said_same : (x y : Result (Answered ℕ) Refusal) → difference_said x ≡ difference_said y → x ≡ y
said_same x y e =
    let before = saying x in
    let after = saying y in
    let same : numbered (showing x) ≡ numbered (showing y) = cc in
    showing_once x y (numbered_once (showing x) (showing y) same)
