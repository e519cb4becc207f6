-- A block's work, by the kind that its number stands for.
use mathlib.Core.Path.{◌≡◌, refl, sym, subst}
use mathlib.Core.Bool.{Bool, true, cond}
use mathlib.Core.List.{List}
use Prim.Native.Nat.{ℕ}
use lib.ListN.{length}
use Rattle.std.specs.Prelude.{Ok, Err}
use Rattle.verdict.specs.declared.Fault.TheVariants.{Kind as NoKind}
use Rattle.verdict.specs.Verdict.{refusal}
use Rattle.rules.specs.declared.codes.Kind.{Kind}
use Rattle.rules.specs.declared.codes.Kind.TheVariants.{And, Or, Xor, Comp, Cmpr, Mbit, Sens, Brot}
use Rattle.rules.specs.declared.codes.Unknown.{Unknown}
use Rattle.rules.specs.Codes.{kind_number, kinds, kind_from}
use Rattle.rules.specs.Rules.{kind}
use Rattle.rules.proofs.Tested.{stands}
use Rattle.blocks.specs.declared.Power.{Power}
use Rattle.blocks.specs.declared.Located.{Located}
use Rattle.blocks.specs.Kind.{kind_of}
use Rattle.blocks.specs.View.{seen_by}
use Rattle.blocks.specs.Work.{effect_as}
use Rattle.blocks.specs.Answer.{Worked, worked, Does}
use Rattle.kinds.specs.Call.{kind_fault, work_fault, pointer_word, effect_here, work_answer, work_table}
use Rattle.kinds.specs.Inner.{DoesAs}
use Rattle.blocks.proofs.Doing.{refuses}
use Rattle.kinds.proofs.Numbers.{no_kind}

-- a number that stands for a kind is one of the eight
is_kind : (k : Kind) → kind (kind_number k) ≡ true
is_kind And = refl
is_kind Or = refl
is_kind Xor = refl
is_kind Comp = refl
is_kind Cmpr = refl
is_kind Mbit = refl
is_kind Sens = refl
is_kind Brot = refl

module _ (one : Located) (t : List ℕ) (on : Power) where
  -- what a block is to do where its kind's number is one of the eight or not
  abbrev DoesAt : Bool → ℕ → Worked → List ℕ → Type 0
  DoesAt known number r table =
      Does (cond known (kind_fault (kind_of number) one (length t)) 4) on (effect_as (kind_of number) one.block (seen_by (kind_of number) one t) on)
      one.middle one.block.n (pointer_word (kind_of number) one) t r table

  at_number : (k : Kind) (r : Worked) (table : List ℕ) → kind_from one.block.kind ≡ Ok k → DoesAs (kind_of (kind_number k)) one on t r table
      → DoesAt (kind one.block.kind) one.block.kind r table
  at_number k r table is d =
      let same : kind_number k ≡ one.block.kind = stands kind_number kinds one.block.kind k is in
      subst (λ (i : ℕ). DoesAt (kind i) i r table) same (subst (λ (a : Bool). DoesAt a (kind_number k) r table) (sym (is_kind k)) d)

  pub answers_as : (k : Kind) (r : Worked) (table : List ℕ) → kind_from one.block.kind ≡ Ok k → DoesAs (kind_of (kind_number k)) one on t r table
      → r ≡ work_answer one t on
  unfolding work_fault work_answer
  answers_as k r table is d = (at_number k r table is d).answers

  pub leaves_as : (k : Kind) (r : Worked) (table : List ℕ) → kind_from one.block.kind ≡ Ok k → DoesAs (kind_of (kind_number k)) one on t r table
      → table ≡ work_table one t on
  unfolding work_fault work_table
  leaves_as k r table is d = (at_number k r table is d).leaves

  -- and where it is none
  unknown : (e : Unknown) → kind_from one.block.kind ≡ Err e → DoesAt (kind one.block.kind) one.block.kind (worked (Err (refusal NoKind 0))) t
  unknown e is =
      subst (λ (a : Bool). DoesAt a one.block.kind (worked (Err (refusal NoKind 0))) t) (sym (no_kind one.block.kind e is))
      (refuses 4 on (effect_here one t on) one.middle one.block.n (pointer_word (kind_of one.block.kind) one) t NoKind refl)

  pub no_answer : (e : Unknown) → kind_from one.block.kind ≡ Err e → worked (Err (refusal NoKind 0)) ≡ work_answer one t on
  unfolding work_fault work_answer
  no_answer e is = (unknown e is).answers

  pub no_table : (e : Unknown) → kind_from one.block.kind ≡ Err e → t ≡ work_table one t on
  unfolding work_fault work_table
  no_table e is = (unknown e is).leaves
