-- A block's own output and its own pointer among those of a scan: what it shows when it is done.
use mathlib.Core.Path.{◌≡◌, sym, ap, ◌∙◌}
use mathlib.Core.List.{List, [], ◌∷◌, ◌++◌}
use Prim.Native.Nat.{ℕ, zero, suc, ◌+◌, ◌-◌, ◌≤◌, ◌<◌}
use native.Mathlib.Omega.{arith}
use lib.ListN.{length, get_or, get_or-append}
use lib.Seq.{get_or-append-add}
use Rattle.network.specs.Network.{Network, block_of, block_count}
use Rattle.blocks.specs.declared.Outputs.{Outputs}
use Rattle.blocks.specs.Answer.{no_outputs}
use Rattle.blocks.specs.Work.{block_outputs}
use Rattle.inputs.specs.Input.{power_on}
use Rattle.scan.specs.Scan.{State, step, scanned}
use Rattle.scan.specs.Scans.{pointer_of, scan_pointers}
use Rattle.scan.proofs.Scanning.{after, pointers_so_far, after_next, mark_next, after_all, pointers_all, outs_count, marks_count}

-- the entry after the first i of a list that grows by one entry for each block, once it is there
module _ {A : Type 0} (otherwise : A) (count : ℕ) (so_far : ℕ → List A) (own : ℕ → A)
    (long : (k : ℕ) → k ≤ count → length (so_far k) ≡ k) (next : (k : ℕ) → k < count → so_far (suc k) ≡ so_far k ++ own k ∷ []) where
  stays : (i r : ℕ) → suc i + r ≤ count → get_or (so_far (suc i + r)) i otherwise ≡ own i
  stays i zero u =
      let n : suc i + 0 ≡ suc i = omega arith in
      let z : i ≡ length (so_far i) + 0 = omega (arith, long i (omega arith)) in
      ap (λ (k : ℕ). get_or (so_far k) i otherwise) n
      ∙ ap (λ (l : List A). get_or l i otherwise) (next i (omega arith))
      ∙ ap (λ (k : ℕ). get_or (so_far i ++ own i ∷ []) k otherwise) z
      ∙ get_or-append-add (so_far i) (own i ∷ []) 0 otherwise
  stays i (suc r) u =
      let n : suc i + suc r ≡ suc (suc i + r) = omega arith in
      ap (λ (k : ℕ). get_or (so_far k) i otherwise) n
      ∙ ap (λ (l : List A). get_or l i otherwise) (next (suc i + r) (omega arith))
      ∙ get_or-append (so_far (suc i + r)) (own (suc i + r) ∷ []) otherwise i (omega (arith, long (suc i + r) (omega arith)))
      ∙ stays i r (omega arith)

  at_last : (i : ℕ) → i < count → get_or (so_far count) i otherwise ≡ own i
  at_last i l =
      let n : count ≡ suc i + (count - suc i) = omega (arith, l) in
      ap (λ (k : ℕ). get_or (so_far k) i otherwise) n ∙ stays i (count - suc i) (omega arith)

module _ (net : Network) (t : List ℕ) where
  abbrev own_outputs : ℕ → Outputs
  own_outputs i =
      block_outputs net (block_of net i) (after net t i).table
      (power_on net (after net t i).table (after net t i).outs (block_of net i).inputs)

  pub own_output : (i : ℕ) → i < block_count net → get_or (scanned net t).outs i no_outputs ≡ own_outputs i
  unfolding step
  own_output i l =
      ap (λ (s : State). get_or s.outs i no_outputs) (sym (after_all net t))
      ∙ at_last no_outputs (block_count net) (λ k. (after net t k).outs) own_outputs (outs_count net t) (λ k u. ap (λ (s : State). s.outs) (after_next net t k u)) i l

  pub own_pointer : (i : ℕ) → i < block_count net → get_or (scan_pointers net t) i 0 ≡ pointer_of net (block_of net i) (after net t (suc i)).table
  own_pointer i l =
      ap (λ (p : List ℕ). get_or p i 0) (sym (pointers_all net t))
      ∙ at_last 0 (block_count net) (pointers_so_far net t) (λ k. pointer_of net (block_of net k) (after net t (suc k)).table) (marks_count net t) (mark_next net t) i l
