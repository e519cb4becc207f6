-- The laws of a coil that is put: a bit of the coil area, stored in its word.
use mathlib.Core.Path.{◌≡◌, sym, ap, ap₂, ◌∙◌}
use mathlib.Core.Bool.{Bool, cond}
use mathlib.Core.List.{List}
use Prim.Native.Nat.{ℕ, ◌+◌, ◌-◌, ◌*◌, ◌/◌, ◌%◌, ◌^◌, ◌≤◌, ◌<◌}
use native.Mathlib.Omega.{arith}
use borrow.Author.Tests.{eq-eqb, ne_eqb}
use lib.Dec.{eqb}
use lib.ListN.{length, get_or, set}
use Rattle.bits.specs.Bit.{bit, word_with, matrix}
use Rattle.bits.specs.Word.{put}
use Rattle.runs.specs.Run.{run, placed}
use Rattle.matrix.proofs.Singles.{put_stored}
use Rattle.network.specs.Network.{Network}
use Rattle.blocks.specs.Work.{coil_put}

module _ (net : Network) (number : ℕ) (on : Bool) (t : List ℕ) where
  by_number : Bool → List ℕ
  by_number a = cond a t (placed t 0 (matrix net.sizes.coils (λ p. cond (eqb p number) on (bit (run t 0 net.sizes.coils) p))))

  pub no_coil : number ≡ 0 → t ≡ coil_put net number on t
  unfolding coil_put by_number
  no_coil e = ap by_number (sym (eq-eqb number 0 e))

  pub coil_stored : (i : ℕ) → number ≡ i + 1 → net.sizes.coils ≤ length t → number ≤ 16 * net.sizes.coils → ((k : ℕ) → get_or t k 0 < 2 ^ 16)
      → (w : ℕ) → w ≡ word_with (put (get_or t (i / 16) 0) (i % 16 + 1) on) → set t (i / 16) w ≡ coil_put net number on t
  unfolding coil_put by_number
  coil_stored i e inside l small w q =
      let word : i / 16 ≡ 0 + (number - 1) / 16 = omega arith in
      let place : i % 16 ≡ (number - 1) % 16 = omega arith in
      ap (λ (j : ℕ). set t j w) word
      ∙ put_stored t 0 net.sizes.coils number (omega (arith, inside)) (omega (arith, e)) l on small w
      (q ∙ ap₂ (λ (j p : ℕ). word_with (put (get_or t j 0) (p + 1) on)) word place)
      ∙ ap by_number (sym (ne_eqb number 0 (λ z. omega (arith, e, z))))
