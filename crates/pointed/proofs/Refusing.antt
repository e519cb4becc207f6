-- The laws of a block's refusals: what each test of the code says of them, and what a block that earns none may rely on. Assumes nothing.
use mathlib.Core.Path.{◌≡◌, refl, sym, ap, ◌∙◌}
use mathlib.Core.Bool.{Bool, true, false, cond, ◌||◌}
use Prim.Native.Nat.{ℕ, ◌+◌, ◌≤◌, ◌<◌}
use native.Mathlib.Omega.{arith}
use borrow.Author.Tests.{eq-eqb, ne_eqb, eqb-true, lt-ltb, le-ltb, ltb-true}
use lib.Dec.{eqb, ltb}
use Rattle.runs.specs.Run.{fault, Accepted}
use Rattle.bits.specs.Bit.{longest, longest_whole}
use Rattle.runs.proofs.Refusals.{unless_done, unless_refused, accepted}
use Rattle.record.specs.declared.Node.{Node}
use Rattle.pointed.specs.Call.{compare_fault, pointed_fault}

-- ---- CMPR
module _ (words n s p : ℕ) where
  pub register_outside : words ≤ p → compare_fault words n s p ≡ 8
  register_outside l = ap (λ (a : Bool). cond a (fault longest_whole words n s (p + 1)) 8) (le-ltb p words l)

  pub register_inside : p < words → compare_fault words n s p ≡ fault longest_whole words n s (p + 1)
  register_inside l = ap (λ (a : Bool). cond a (fault longest_whole words n s (p + 1)) 8) (lt-ltb p words l)

  -- a block that earns no refusal
  inside_of : 0 ≡ compare_fault words n s p → p < words
  inside_of z = go (ltb p words) refl z
    where
      go : (a : Bool) → ltb p words ≡ a → 0 ≡ cond a (fault longest_whole words n s (p + 1)) 8 → p < words
      go true e q = ltb-true p words e
      go false e q = absurd (omega arith)

pub register_lies_in : (words n s p : ℕ) → 0 ≡ compare_fault words n s p → p < words
register_lies_in words n s p z = inside_of words n s p z

pub runs_taken : (words n s p : ℕ) → 0 ≡ compare_fault words n s p → fault longest_whole words n s (p + 1) ≡ 0
runs_taken words n s p z = sym (register_inside words n s p (inside_of words n s p z)) ∙ sym z

pub compared_accepted : (words n s p : ℕ) → 0 ≡ compare_fault words n s p → Accepted longest_whole words n s (p + 1)
compared_accepted words n s p z = accepted longest_whole words n s (p + 1) (runs_taken words n s p z)

-- ---- MBIT and SENS
module _ (words : ℕ) (node : Node) (register n d : ℕ) where
  pub run_refused : (fault longest words n d d ≡ 0 → ⊥) → pointed_fault words node register n d ≡ fault longest words n d d
  run_refused h = unless_refused (fault longest words n d d) (cond (eqb node.class 9 || ltb register words) 0 8) (fault longest words n d d) h

  run_taken : fault longest words n d d ≡ 0 → pointed_fault words node register n d ≡ cond (eqb node.class 9 || ltb register words) 0 8
  run_taken e = unless_done (fault longest words n d d) (cond (eqb node.class 9 || ltb register words) 0 8) (fault longest words n d d) e

  pub constant_taken : fault longest words n d d ≡ 0 → node.class ≡ 9 → pointed_fault words node register n d ≡ 0
  constant_taken e c = run_taken e ∙ ap (λ (a : Bool). cond (a || ltb register words) 0 8) (eq-eqb node.class 9 c)

  by_register : fault longest words n d d ≡ 0 → (node.class ≡ 9 → ⊥) → pointed_fault words node register n d ≡ cond (ltb register words) 0 8
  by_register e c = run_taken e ∙ ap (λ (a : Bool). cond (a || ltb register words) 0 8) (ne_eqb node.class 9 c)

  pub register_taken : fault longest words n d d ≡ 0 → (node.class ≡ 9 → ⊥) → register < words → pointed_fault words node register n d ≡ 0
  register_taken e c l = by_register e c ∙ ap (λ (a : Bool). cond a 0 8) (lt-ltb register words l)

  pub register_refused : fault longest words n d d ≡ 0 → (node.class ≡ 9 → ⊥) → words ≤ register → pointed_fault words node register n d ≡ 8
  register_refused e c l = by_register e c ∙ ap (λ (a : Bool). cond a 0 8) (le-ltb register words l)

  -- a block that earns no refusal
  no_fault : pointed_fault words node register n d ≡ 0 → fault longest words n d d ≡ 0
  no_fault z = go (eqb (fault longest words n d d) 0) refl z
    where
      go : (a : Bool) → eqb (fault longest words n d d) 0 ≡ a → cond a (cond (eqb node.class 9 || ltb register words) 0 8) (fault longest words n d d) ≡ 0 → fault longest words n d d ≡ 0
      go true e q = eqb-true (fault longest words n d d) 0 e
      go false e q = q

  pub run_accepted : pointed_fault words node register n d ≡ 0 → Accepted longest words n d d
  run_accepted z = accepted longest words n d d (no_fault z)

  pub register_lies : pointed_fault words node register n d ≡ 0 → eqb node.class 4 ≡ true → register < words
  register_lies z h = go (ltb register words) refl (sym (by_register (no_fault z) (λ q. omega (arith, eqb-true node.class 4 h, q))) ∙ z)
    where
      go : (a : Bool) → ltb register words ≡ a → ◌≡◌ {A = ℕ} (cond a 0 8) 0 → register < words
      go true e q = ltb-true register words e
      go false e q = absurd (omega arith)

pub pointed_accepted : (words : ℕ) (node : Node) (register n d : ℕ) → 0 ≡ pointed_fault words node register n d → Accepted longest words n d d
pointed_accepted words node register n d z = run_accepted words node register n d (sym z)
