-- The laws of inputs: a contact's bit, an input by its code, and outputs that were packed.
use mathlib.Core.Path.{◌≡◌, refl, sym, ap, ◌∙◌}
use mathlib.Core.Bool.{false}
use mathlib.Core.List.{List, [], ◌∷◌, map}
use Prim.Native.Nat.{ℕ, zero, suc, ◌+◌, ◌-◌, ◌*◌, ◌/◌, ◌%◌, ◌≤◌, ◌<◌}
use native.Mathlib.Omega.{arith}
use lib.ListN.{length, get_or, drop, length-take}
use Rattle.bits.specs.Bit.{bit, of}
use Rattle.bits.proofs.Laws.{bit_past}
use Rattle.runs.specs.Run.{run}
use Rattle.matrix.proofs.Runs.{run_bit}
use Rattle.blocks.specs.Answer.{no_outputs}
use Rattle.blocks.specs.Packed.{unpacked}
use Rattle.inputs.specs.Input.{of_block}

-- ---- a contact
module _ (t : List ℕ) (s n number : ℕ) where
  pub no_number : number ≡ 0 → false ≡ bit (run t s n) number
  unfolding bit
  no_number e = ap (bit (run t s n)) (sym e)

  few_words : length (run t s n) ≤ n
  few_words = omega (arith, length-take n (drop s t))

  pub past_words : (i : ℕ) → number ≡ i + 1 → n ≤ i / 16 → false ≡ bit (run t s n) number
  past_words i e l = sym (bit_past (run t s n) number (omega (arith, few_words)))

  pub contact_at : (i : ℕ) → number ≡ i + 1 → i / 16 < n → of (get_or t (s + i / 16) 0) (i % 16 + 1) ≡ bit (run t s n) number
  contact_at i e l =
      let one : i % 16 + 1 ≡ suc (i % 16) = omega arith in
      let at : i / 16 * 16 + suc (i % 16) ≡ number = omega arith in
      ap (of (get_or t (s + i / 16) 0)) one
      ∙ sym (run_bit t s n (i / 16) (i % 16) l (omega arith))
      ∙ ap (bit (run t s n)) at

  pub contact_bit : (number ≡ 0 → ⊥) → (number - 1) / 16 < n → of (get_or t (s + (number - 1) / 16) 0) ((number - 1) % 16 + 1) ≡ bit (run t s n) number
  contact_bit e l = contact_at (number - 1) (omega arith) l

pub ruleset contacts = (no_number, past_words, contact_at)

-- ---- packed outputs
pub unpacked_at : (packs : List ℕ) (i : ℕ) → get_or (map unpacked packs) i no_outputs ≡ unpacked (get_or packs i 0)
unfolding bit
unpacked_at [] i = refl
unpacked_at (w ∷ packs) zero = refl
unpacked_at (w ∷ packs) (suc i) = unpacked_at packs i

pub block_unpacked : (packs : List ℕ) (number : ℕ) → of_block (map unpacked packs) number ≡ unpacked (get_or packs (number - 1) 0)
block_unpacked packs number = unpacked_at packs (number - 1)
