-- A refusal changes nothing: whatever a contract allows with a refusal for its answer, the lent table is as it was.
-- Each contract gives the table by `unless`, whose other case is the table as lent.
use mathlib.Core.Path.{◌≡◌, ap, ◌∙◌}
use mathlib.Core.List.{List}
use Prim.Native.Nat.{ℕ}
use Rattle.std.specs.Prelude.{Result}
use Rattle.verdict.specs.declared.Refusal.{Refusal}
use Rattle.verdict.specs.Promise.{Keeps}
use Rattle.verdict.specs.Verdict.{Said, numbered, placeless, said_by}
use Rattle.runs.specs.Run.{unless}
use Rattle.matrix.specs.Logic.{combine_table}
use Rattle.matrix.specs.Move.{move_table}
use Rattle.matrix.specs.Single.{put_table}
use Rattle.runs.proofs.Refusals.{unless_refused}
use Rattle.matrix.proofs.logic.combine.Reads as combine_reads
use Rattle.matrix.proofs.shift.move_one.Reads as move_one_reads
use Rattle.matrix.proofs.single.put_bit.Reads as put_bit_reads

-- an answer that says a number other than 0 is a refusal
abbrev pub Refuses : {A : Type 0} → Result A Refusal → Type 0
Refuses x = (numbered x).verdict.number ≡ 0 → ⊥

by_number : {A : Type 0} (k : ℕ) (value : A) (done t table : List ℕ) (x : Result A Refusal) → numbered x ≡ said_by (placeless k) value
    → table ≡ unless k done t → Refuses x → table ≡ t
by_number {A} k value done t table x answer leaves h =
    leaves ∙ unless_refused k done t (λ e. h (ap (λ (s : Said A). s.verdict.number) answer ∙ e))

pub combine : Keeps combine_reads.Post (λ κs. Refuses) (λ κs a. a.0.now) (λ κs s. s.0.now)
unfolding combine_table
combine κs a x s p h = by_number _ _ _ _ _ x p.0 p.1 h

pub move_one : Keeps move_one_reads.Post (λ κs. Refuses) (λ κs a. a.0.now) (λ κs s. s.0.now)
unfolding move_table
move_one κs a x s p h = by_number _ _ _ _ _ x p.0 p.1 h

pub put_bit : Keeps put_bit_reads.Post (λ κs. Refuses) (λ κs a. a.0.now) (λ κs s. s.0.now)
unfolding put_table
put_bit κs a x s p h = by_number _ _ _ _ _ x p.0 p.1 h
