-- A refusal changes nothing: with a refusal for its answer, `to_words` leaves the lent words as they were. Assumes nothing.
use mathlib.Core.Path.{◌≡◌, sym, ap, ◌∙◌}
use mathlib.Core.Bool.{Bool, cond}
use mathlib.Core.List.{List}
use Prim.Native.Nat.{ℕ}
use native.Mathlib.Decide.{dec_le}
use native.Mathlib.Nat.{lt_of_not-le}
use borrow.Author.Tests.{le-leb}
use lib.ListN.{length}
use Rattle.verdict.specs.Promise.{Keeps}
use Rattle.verdict.specs.Verdict.{verdict, done, numbered}
use Rattle.words.specs.Words.{words_count, to_words as answer, filled}
use Rattle.words.proofs.Filling.{none_filled}
use Rattle.words.proofs.to_words.Reads as to_words_reads

-- where there is room there is no refusal, and where there is none nothing is stored
kept : (bs ws : List ℕ) → ((answer bs ws).verdict.number ≡ 0 → ⊥) → filled bs ws ≡ ws
unfolding answer
kept bs ws h = elim (dec_le (words_count bs) (length ws)) [
  | yes l ↦ absurd (h (ap (λ (b : Bool). (cond b done (verdict 12 0)).number) (le-leb (words_count bs) (length ws) l)))
  | no l ↦ sym (none_filled bs ws (lt_of_not-le l))
]

pub to_words : Keeps to_words_reads.Post (λ κs r. (numbered r).verdict.number ≡ 0 → ⊥) (λ κs a. a.1.0.now) (λ κs s. s.1.0.now)
to_words κs a x s p h = p.1 ∙ kept _ _ (λ e. h (ap (λ v. v.verdict.number) p.0 ∙ e))
