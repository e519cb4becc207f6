-- The laws of sections in turn, over any list of them: sections that follow others; accepted exactly when each is good; the sections
-- of a part. Each goes by the list. Assumes nothing.
use mathlib.Core.Path.{◌≡◌, refl, sym, ap, ◌∙◌}
use mathlib.Core.Bool.{Bool, true, false, cond, ◌||◌}
use mathlib.Core.List.{List, [], ◌∷◌, ◌++◌, append_assoc}
use Prim.Native.Nat.{ℕ, suc, ◌≤◌, ◌<◌}
use native.Mathlib.Decide.{dec_lt}
use native.Mathlib.Nat.{zero-add, le_antisymm}
use native.Mathlib.Omega.{arith}
use borrow.Author.Tests.{lt-ltb, le-ltb}
use lib.Dec.{ltb}
use lib.ListN.{length, drop, length-append}
use lib.Seq.{drop-drop}
use Rattle.section.specs.Walk.{first_of, seek, left_over}
use Rattle.verdict.specs.Verdict.{Verdict, verdict, done, then}
use Rattle.section.specs.Section.{Section, section_earns, section_spells, section_rest, earned, meaning, end, judged_from, front, whole}
use Rattle.section.specs.Truths.{Clean, Good, AcceptsSections, FirstDecides, CountsThrough, LiftedAsAlone}
use Rattle.section.proofs.Walk.{then_first, then_next, then_zero, then_assoc, le_of_not_lt, seek_append, done_clean, clean_done}

-- ---- what is left over
module _ (last size : ℕ) where
  by_tests : (more odd : Bool) → ltb last size ≡ more → left_over last size odd ≡ cond (more || odd) (verdict 11 (suc last)) done
  by_tests more odd e = ap (λ (b : Bool). cond (b || odd) (verdict 11 (suc last)) done) e

  pub none_over : size ≤ last → left_over last size false ≡ done
  none_over l = by_tests false false (le-ltb last size l)

  pub some_over : (odd : Bool) → last < size → left_over last size odd ≡ verdict 11 (suc last)
  some_over odd l = by_tests true odd (lt-ltb last size l)

  pub odd_over : left_over last size true ≡ verdict 11 (suc last)
  odd_over = elim (dec_lt last size) [ yes l ↦ some_over true l | no l ↦ by_tests false true (le-ltb last size (le_of_not_lt l)) ]

  pub none_left : (odd : Bool) → (left_over last size odd).number ≡ 0 → (size ≤ last) × (odd ≡ false)
  none_left true e = absurd (omega (arith, ap (λ (v : Verdict). v.number) (sym odd_over) ∙ e))
  none_left false e = elim (dec_lt last size) [
    | yes l ↦ absurd (omega (arith, ap (λ (v : Verdict). v.number) (sym (some_over false l)) ∙ e))
    | no l ↦ (le_of_not_lt l, refl)
  ]

-- ---- clean words
pub clean_split : (fs gs : List ℕ) → Clean (fs ++ gs) → Clean fs × Clean gs
unfolding Clean
clean_split [] gs c = (tt, c)
clean_split (f ∷ fs) gs c = let r = clean_split fs gs c.1 in ((c.0, r.0), r.1)

pub clean_join : (fs gs : List ℕ) → Clean fs → Clean gs → Clean (fs ++ gs)
unfolding Clean
clean_join [] gs c d = d
clean_join (f ∷ fs) gs c d = (c.0, clean_join fs gs c.1 d)

counts : (b : Bool) → ◌≡◌ {A = ℕ} (cond b 0 2) 0 → b ≡ true
counts true e = refl
counts false e = absurd (omega arith)

module _ {A : Type 0} where
  -- ---- sections that follow others
  pub earned_append : (ss more : List (Section A)) (v : A) (ws : List ℕ)
      → earned (ss ++ more) v ws ≡ earned ss v ws ++ earned more (meaning ss v ws) (drop (end ss v ws) ws)
  unfolding earned meaning
  earned_append [] more v ws = refl
  earned_append (s ∷ ss) more v ws =
      let now : List ℕ = section_earns s v ws in
      let x : A = section_spells s v ws in
      let rest : List ℕ = section_rest s v ws in
      ap (λ (l : List ℕ). now ++ l) (earned_append ss more x rest)
      ∙ sym (append_assoc now (earned ss x rest) (earned more (meaning ss x rest) (drop (end ss x rest) rest)))
      ∙ ap (λ (l : List ℕ). (now ++ earned ss x rest) ++ earned more (meaning ss x rest) l)
      (drop-drop (end ss x rest) (length now) ws ∙ ap (λ (k : ℕ). drop k ws) (sym (length-append now (earned ss x rest))))

  pub meaning_append : (ss more : List (Section A)) (v : A) (ws : List ℕ)
      → meaning (ss ++ more) v ws ≡ meaning more (meaning ss v ws) (drop (end ss v ws) ws)
  unfolding earned meaning
  meaning_append [] more v ws = refl
  meaning_append (s ∷ ss) more v ws =
      let now : List ℕ = section_earns s v ws in
      let x : A = section_spells s v ws in
      let rest : List ℕ = section_rest s v ws in
      meaning_append ss more x rest
      ∙ ap (meaning more (meaning ss x rest))
      (drop-drop (end ss x rest) (length now) ws ∙ ap (λ (k : ℕ). drop k ws) (sym (length-append now (earned ss x rest))))

  pub counts_through : CountsThrough A
  unfolding judged_from
  counts_through ss more v ws =
      let after : List ℕ = earned more (meaning ss v ws) (drop (end ss v ws) ws) in
      ap (λ (l : List ℕ). seek l (length ws) 0) (earned_append ss more v ws)
      ∙ seek_append (length ws) (earned ss v ws) after 0
      ∙ ap (λ (k : ℕ). then (front ss v ws) (seek after (length ws) k)) (zero-add (end ss v ws))

  pub first_decides : FirstDecides A
  unfolding whole
  first_decides ss more v ws odd h =
      let after : Verdict = judged_from more (meaning ss v ws) ws (end ss v ws) in
      let over : Verdict = left_over (end (ss ++ more) v ws) (length ws) odd in
      ap (λ (x : Verdict). then x over) (counts_through ss more v ws)
      ∙ then_assoc (front ss v ws) after over
      ∙ then_first (front ss v ws) (then after over) h

  -- ---- accepted exactly when each is good
  pub earned_good : (ss : List (Section A)) (v : A) (ws : List ℕ) → Clean (earned ss v ws) → Good ss v ws
  unfolding earned section_earns Good
  earned_good [] v ws c = tt
  earned_good (s ∷ ss) v ws c =
      let parts = clean_split (section_earns s v ws) (earned ss (section_spells s v ws) (section_rest s v ws)) c in
      (counts (s.allows v (first_of ws)) parts.0.0, parts.0.1, earned_good ss (section_spells s v ws) (section_rest s v ws) parts.1)

  pub good_earned : (ss : List (Section A)) (v : A) (ws : List ℕ) → Good ss v ws → Clean (earned ss v ws)
  unfolding earned section_earns Good
  good_earned [] v ws g = tt
  good_earned (s ∷ ss) v ws g =
      clean_join (section_earns s v ws) (earned ss (section_spells s v ws) (section_rest s v ws))
      (ap (λ (b : Bool). cond b 0 2) g.0, g.1)
      (good_earned ss (section_spells s v ws) (section_rest s v ws) g.2)

  pub front_good : (ss : List (Section A)) (v : A) (ws : List ℕ) → (front ss v ws).number ≡ 0 → Good ss v ws × (end ss v ws ≤ length ws)
  unfolding judged_from
  front_good ss v ws e =
      let all = done_clean (length ws) (earned ss v ws) 0 (omega arith) e in
      (earned_good ss v ws all.0, omega (arith, all.1))

  pub good_front : (ss : List (Section A)) (v : A) (ws : List ℕ) → Good ss v ws → end ss v ws ≤ length ws → front ss v ws ≡ done
  unfolding judged_from
  good_front ss v ws g u = clean_done (length ws) (earned ss v ws) 0 (good_earned ss v ws g) (omega arith)

  pub good_whole : (ss : List (Section A)) (v : A) (ws : List ℕ) (odd : Bool) → Good ss v ws × (length ws ≡ end ss v ws) × (odd ≡ false) → whole ss v ws odd ≡ done
  unfolding whole
  good_whole ss v ws odd g =
      let over : Bool → Verdict = left_over (end ss v ws) (length ws) in
      let fine : front ss v ws ≡ done = good_front ss v ws g.0 (omega (arith, g.1)) in
      then_next (front ss v ws) (over odd) (ap (λ (v : Verdict). v.number) fine)
      ∙ ap over g.2
      ∙ none_over (end ss v ws) (length ws) (omega (arith, g.1))

  whole_good : (ss : List (Section A)) (v : A) (ws : List ℕ) (odd : Bool) → (whole ss v ws odd).number ≡ 0 → Good ss v ws × (length ws ≡ end ss v ws) × (odd ≡ false)
  unfolding whole
  whole_good ss v ws odd e =
      let both = then_zero (front ss v ws) (left_over (end ss v ws) (length ws) odd) e in
      let good = front_good ss v ws both.0 in
      let over = none_left (end ss v ws) (length ws) odd both.1 in
      (good.0, le_antisymm over.0 good.1, over.1)

  pub accepts_sections : AcceptsSections A
  accepts_sections ss v ws odd = (whole_good ss v ws odd, λ g. ap (λ (v : Verdict). v.number) (good_whole ss v ws odd g))

  -- a verdict of number 0 is done
  pub whole_done : (ss : List (Section A)) (v : A) (ws : List ℕ) (odd : Bool) → (whole ss v ws odd).number ≡ 0 → whole ss v ws odd ≡ done
  whole_done ss v ws odd e = good_whole ss v ws odd (whole_good ss v ws odd e)

-- ---- sections of a part
pub lifted_as_alone : (A B : Type 0) → LiftedAsAlone A B
unfolding earned meaning section_earns
lifted_as_alone A B p [] v ws = record { earns_same = refl; spells_part = sym (p.put_get v) }
lifted_as_alone A B p (s ∷ ss) v ws =
    let x : A = section_spells s (p.get v) ws in
    let rest : List ℕ = section_rest s (p.get v) ws in
    let later = lifted_as_alone A B p ss (p.put x v) rest in
    record {
      earns_same = ap (λ (l : List ℕ). section_earns s (p.get v) ws ++ l) (later.earns_same ∙ ap (λ (a : A). earned ss a rest) (p.get_put x v));
      spells_part = later.spells_part ∙ ap (λ (a : A). p.put (meaning ss a rest) (p.put x v)) (p.get_put x v) ∙ p.put_put (meaning ss x rest) x v;
    }
