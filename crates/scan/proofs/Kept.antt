-- What a scan keeps: a refusal everything, and any scan the length of the table, the discrete inputs and the input registers.
--
use mathlib.Core.Path.{◌≡◌, refl, sym, ap, ◌∙◌, subst}
use mathlib.Core.Bool.{Bool, true, false, cond, ◌&&◌}
use mathlib.Core.List.{List, ◌++◌, map}
use Prim.Native.Nat.{ℕ, zero, suc, ◌+◌, ◌*◌, ◌≤◌, ◌<◌}
use native.Mathlib.Omega.{arith}
use borrow.Author.Tests.{eqb-true, eqb-false, eq-eqb, ne_eqb, leb-true}
use lib.Dec.{eqb, leb}
use lib.ListN.{length, drop}
use Rattle.bits.specs.Bit.{bit}
use Rattle.verdict.specs.Promise.{Keeps}
use Rattle.record.specs.declared.Block.{Block}
use Rattle.table.specs.Table.{total}
use Rattle.network.specs.Network.{Network, block_of, block_count}
use Rattle.verdict.specs.Verdict.{Verdict, verdict, done, then, Said, numbered}
use Rattle.network.specs.Check.{checked, network_in}
use Rattle.network.specs.Sound.{GoodNetwork}
use Rattle.network.proofs.Values.{accepted_good}
use Rattle.blocks.specs.declared.Power.{Power}
use Rattle.blocks.specs.declared.Outputs.{Outputs}
use Rattle.blocks.specs.Truths.{Runs}
use Rattle.blocks.proofs.Written.{same_long, inputs_stay as block_inputs_stay}
use Rattle.inputs.specs.Input.{power_on}
use Rattle.blocks.specs.Packed.{packed}
use Rattle.scan.specs.Scan.{State, step, steps, scanned, scan_verdict, scan_table, scan_records, scan_packed}
use Rattle.scan.specs.Truths.{RefusalKeeps, ScanSameLong, ScanKeepsInputs}
use Rattle.scan.proofs.Scanning.{after, after_next, after_all}
use Rattle.scan.proofs.scan_packed.Reads as packed_reads

-- ---- a table of exactly the areas, with the inputs of another
record Same (net : Network) (t u : List ℕ) : Type 0 where
  exact : length u ≡ total net.sizes
  inputs : (p : ℕ) → 16 * net.sizes.coils < p → p ≤ 16 * (net.sizes.coils + net.sizes.discretes + net.sizes.inputs) → bit u p ≡ bit t p

module _ (net : Network) (t : List ℕ) (good : GoodNetwork net) (e : length t ≡ total net.sizes) where
  one_kept : (k : ℕ) → k < block_count net → (s : State) → Same net t s.table → Same net t (step net (block_of net k) s).table
  unfolding step
  one_kept k l s h = record {
    exact = same_long net k b s.table runs on ∙ h.exact;
    inputs = λ p l u. block_inputs_stay net k b s.table runs on p l u ∙ h.inputs p l u;
  }
    where
      b : Block
      b = block_of net k

      on : Power
      on = power_on net s.table s.outs b.inputs

      runs : Runs net k b s.table
      runs = record { good = good.blocks k l; exact = h.exact }

  -- after any number of the blocks, and after all of them
  kept : (k : ℕ) → k ≤ block_count net → Same net t (after net t k).table
  unfolding after steps
  kept zero u = record { exact = e; inputs = λ p l u. refl }
  kept (suc k) u = subst (λ (s : State). Same net t s.table) (sym (after_next net t k u)) (one_kept k u (after net t k) (kept k (omega arith)))

  all_kept : Same net t (scanned net t).table
  all_kept = subst (λ (s : State). Same net t s.table) (after_all net t) (kept (block_count net) (omega arith))

  pub exact_after : (k : ℕ) → k ≤ block_count net → length (after net t k).table ≡ total net.sizes
  exact_after k u = (kept k u).exact

  pub scanned_exact : length (scanned net t).table ≡ total net.sizes
  scanned_exact = all_kept.exact

-- ---- a verdict that refuses nothing
then_first : (v w : Verdict) → (then v w).number ≡ 0 → v.number ≡ 0
then_first v w h = go (eqb v.number 0) refl h
  where
    go : (a : Bool) → eqb v.number 0 ≡ a → (cond a w v).number ≡ 0 → v.number ≡ 0
    go true e q = eqb-true v.number 0 e
    go false e q = q

then_second : (v w : Verdict) → (then v w).number ≡ 0 → w.number ≡ 0
then_second v w h = go (eqb v.number 0) refl h
  where
    go : (a : Bool) → eqb v.number 0 ≡ a → (cond a w v).number ≡ 0 → w.number ≡ 0
    go true e q = q
    go false e q = absurd (eqb-false v.number 0 e q)

module _ (ws t : List ℕ) (room : ℕ) where
  pub exact_table : (scan_verdict ws (length t) room).number ≡ 0 → length t ≡ total (network_in ws).sizes
  unfolding scan_verdict
  exact_table h = go (eqb (length t) (total (network_in ws).sizes)) refl (leb (block_count (network_in ws)) room) (then_second (checked ws) _ h)
    where
      go : (a : Bool) → eqb (length t) (total (network_in ws).sizes) ≡ a → (c : Bool) → (cond (a && c) done (verdict 12 0)).number ≡ 0 → length t ≡ total (network_in ws).sizes
      go true e c q = eqb-true (length t) (total (network_in ws).sizes) e
      go false e c q = absurd (omega arith)

  -- there is an entry for every block
  pub enough : (scan_verdict ws (length t) room).number ≡ 0 → block_count (network_in ws) ≤ room
  unfolding scan_verdict
  enough h = go (eqb (length t) (total (network_in ws).sizes)) (leb (block_count (network_in ws)) room) refl (then_second (checked ws) _ h)
    where
      go : (a c : Bool) → leb (block_count (network_in ws)) room ≡ c → (cond (a && c) done (verdict 12 0)).number ≡ 0 → block_count (network_in ws) ≤ room
      go true true e q = leb-true (block_count (network_in ws)) room e
      go true false e q = absurd (omega arith)
      go false c e q = absurd (omega arith)

  pub checks : (scan_verdict ws (length t) room).number ≡ 0 → (checked ws).number ≡ 0
  unfolding scan_verdict
  checks h = then_first (checked ws) _ h

  pub accepted : (scan_verdict ws (length t) room).number ≡ 0 → GoodNetwork (network_in ws)
  accepted h = accepted_good ws (checks h)

  after_scan : (scan_verdict ws (length t) room).number ≡ 0 → Same (network_in ws) t (scanned (network_in ws) t).table
  after_scan h = all_kept (network_in ws) t (accepted h) (exact_table h)

-- the table that a scan leaves which is not refused
pub done_table : (ws t : List ℕ) (room : ℕ) → (scan_verdict ws (length t) room).number ≡ 0 → scan_table ws t room ≡ (scanned (network_in ws) t).table
unfolding scan_table
done_table ws t room h = ap (λ (a : Bool). cond a (scanned (network_in ws) t).table t) (eq-eqb (scan_verdict ws (length t) room).number 0 h)

-- its outputs
pub done_outputs : (ws t outputs : List ℕ) → (scan_verdict ws (length t) (length outputs)).number ≡ 0 → scan_packed ws t outputs ≡ map packed (scanned (network_in ws) t).outs ++ drop (block_count (network_in ws)) outputs
unfolding scan_packed
done_outputs ws t outputs h =
    ap (λ (a : Bool). cond a (map packed (scanned (network_in ws) t).outs ++ drop (block_count (network_in ws)) outputs) outputs) (eq-eqb (scan_verdict ws (length t) (length outputs)).number 0 h)

-- the records, likewise
pub done_records : (ws t : List ℕ) (list : List Outputs) → (scan_verdict ws (length t) (length list)).number ≡ 0
    → scan_records ws t list ≡ (scanned (network_in ws) t).outs ++ drop (block_count (network_in ws)) list
unfolding scan_records
done_records ws t list h =
    ap (λ (a : Bool). cond a ((scanned (network_in ws) t).outs ++ drop (block_count (network_in ws)) list) list) (eq-eqb (scan_verdict ws (length t) (length list)).number 0 h)

-- a refused scan
pub table_kept : (ws t : List ℕ) (room : ℕ) → ((scan_verdict ws (length t) room).number ≡ 0 → ⊥) → scan_table ws t room ≡ t
unfolding scan_table
table_kept ws t room h = ap (λ (a : Bool). cond a (scanned (network_in ws) t).table t) (ne_eqb (scan_verdict ws (length t) room).number 0 h)

pub numbers_kept : (ws t numbers : List ℕ) → ((scan_verdict ws (length t) (length numbers)).number ≡ 0 → ⊥) → scan_packed ws t numbers ≡ numbers
unfolding scan_packed
numbers_kept ws t numbers h =
    ap (λ (a : Bool). cond a (map packed (scanned (network_in ws) t).outs ++ drop (block_count (network_in ws)) numbers) numbers)
    (ne_eqb (scan_verdict ws (length t) (length numbers)).number 0 h)

pub records_kept : (ws t : List ℕ) (list : List Outputs) → ((scan_verdict ws (length t) (length list)).number ≡ 0 → ⊥) → scan_records ws t list ≡ list
unfolding scan_records
records_kept ws t list h =
    ap (λ (a : Bool). cond a ((scanned (network_in ws) t).outs ++ drop (block_count (network_in ws)) list) list) (ne_eqb (scan_verdict ws (length t) (length list)).number 0 h)

pub refusal_keeps : RefusalKeeps
refusal_keeps ws t numbers h = (table_kept ws t (length numbers) h, numbers_kept ws t numbers h)

-- and so whatever the contract allows with a refusal for its answer
pub packed_keeps_table : Keeps packed_reads.Post (λ κs r. (numbered r).verdict.number ≡ 0 → ⊥) (λ κs a. a.1.0.now) (λ κs s. s.1.0.now)
packed_keeps_table κs a r s p h = p.1.0 ∙ table_kept _ _ _ (λ e. h (ap (λ (x : Said Unit). x.verdict.number) p.0 ∙ e))

pub packed_keeps_outputs : Keeps packed_reads.Post (λ κs r. (numbered r).verdict.number ≡ 0 → ⊥) (λ κs a. a.1.1.0.now) (λ κs s. s.1.1.0.now)
packed_keeps_outputs κs a r s p h = p.1.1 ∙ numbers_kept _ _ _ (λ e. h (ap (λ (x : Said Unit). x.verdict.number) p.0 ∙ e))

pub same_long_after : ScanSameLong
unfolding scan_table
same_long_after ws t room = go (eqb (scan_verdict ws (length t) room).number 0) refl
  where
    go : (a : Bool) → eqb (scan_verdict ws (length t) room).number 0 ≡ a → length (cond a (scanned (network_in ws) t).table t) ≡ length t
    go true e =
        let h : (scan_verdict ws (length t) room).number ≡ 0 = eqb-true (scan_verdict ws (length t) room).number 0 e in
        (after_scan ws t room h).exact ∙ sym (exact_table ws t room h)
    go false e = refl

pub inputs_stay : ScanKeepsInputs
unfolding scan_table
inputs_stay ws t room p l u = go (eqb (scan_verdict ws (length t) room).number 0) refl
  where
    go : (a : Bool) → eqb (scan_verdict ws (length t) room).number 0 ≡ a → bit (cond a (scanned (network_in ws) t).table t) p ≡ bit t p
    go true e = (after_scan ws t room (eqb-true (scan_verdict ws (length t) room).number 0 e)).inputs p l u
    go false e = refl
