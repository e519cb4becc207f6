-- Demand 3 for the calls: what the caller reads after a call is what the scan reports, so that the readings of successive calls are the
-- reports of demand 3. Assumes nothing.
use mathlib.Core.Path.{◌≡◌, refl, sym, ap, ap₂, ◌∙◌, subst}
use mathlib.Core.Bool.{cond}
use mathlib.Core.List.{List, ◌∷◌, map}
use mathlib.Core.Option.{Option, none, some}
use Prim.Native.Nat.{ℕ, zero, suc, ◌+◌, ◌≤◌, ◌<◌}
use native.Mathlib.Omega.{arith}
use lib.ListN.{length, get_or, drop, length-map, get_or-append}
use Rattle.std.specs.Prelude.{Ok, Err}
use Rattle.verdict.specs.Verdict.{Verdict, Said, numbered, said_by}
use Rattle.verdict.proofs.Said.{says}
use Rattle.verdict.specs.Promise.{LeavesTwo}
use Rattle.network.specs.Network.{Network, block_of, block_count}
use Rattle.network.specs.Check.{network_in}
use Rattle.network.proofs.Values.{accepted_good}
use Rattle.blocks.specs.declared.Outputs.{Outputs}
use Rattle.blocks.specs.Answer.{no_outputs}
use Rattle.blocks.specs.Packed.{packed, unpacked}
use Rattle.scan.specs.Scan.{scanned, scan_verdict, scan_table, scan_packed}
use Rattle.scan.proofs.Kept.{exact_table, checks, done_outputs, done_records}
use Rattle.scan.proofs.Packing.{packed_at, unpack_pack, fit_at, packed_whole}
use Rattle.scan.proofs.Scanning.{all_outs_count}
use Rattle.scan.proofs.scan_packed.Reads as packed_reads
use Rattle.inputs.proofs.Wired.{unpacked_at}
use Rattle.rounds.specs.Demand3.{source_found, matrix_found, report, Steady, Scanning, in_turn, round_at, RoundAt}
use Rattle.rounds.specs.Calls.{reading, PointerKept, RecordCalls, Demand3Records, PackedCalls, Demand3Packed}
use Rattle.rounds.proofs.Climb.{round_some}
use Rattle.rounds.proofs.Demand3.{demand_3}

-- what says the same in every scan says the same in turn
pub in_turn_same : {A : Type 0} {f g : ℕ → A} {m : ℕ} → ((j : ℕ) → j < m → f j ≡ g j) → (k j : ℕ) → j + k ≤ m → in_turn f j k ≡ in_turn g j k
unfolding in_turn
in_turn_same h zero j l = refl
in_turn_same {A} h (suc k) j l = ap₂ (λ (x : A) (r : List A). x ∷ r) (h j (omega arith)) (in_turn_same h k (suc j) (omega arith))

-- so where a caller reads in every scan what it reports, the demand is the caller's
pub as_read : {net : Network} {i m : ℕ} {given : ℕ → List ℕ} → Scanning net m given → Steady net i m given → (says : ℕ → Option ℕ)
    → ((j : ℕ) → j < m → says j ≡ report net i (given j)) → (j : ℕ) → j + round_at net i given j ≤ m → RoundAt net i given j (in_turn says j (round_at net i given j))
as_read {net} {i} {m} {given} R S says h j l = subst (RoundAt net i given j) (sym (in_turn_same h (round_at net i given j) j l)) (demand_3 net i m given R S j l)

-- a scan is done at all only where the network is accepted and the table fits
pub scanning : (ws : List ℕ) (m : ℕ) (lent : ℕ → List ℕ) (rooms : ℕ → ℕ) → ((j : ℕ) → j < m → (scan_verdict ws (length (lent j)) (rooms j)).number ≡ 0) → 0 < m → Scanning (network_in ws) m lent
scanning ws m lent rooms taken l = record {
  accepted = accepted_good ws (checks ws (lent 0) (rooms 0) (taken 0 l));
  right_size = λ j u. exact_table ws (lent j) (rooms j) (taken j u);
}

-- ---- calls with records
module _ (ws : List ℕ) (i m : ℕ) (lent left : ℕ → List ℕ) (lists records : ℕ → List Outputs) (answers : ℕ → Verdict) (K : RecordCalls ws m lent left lists records answers) where
  pub taken : (j : ℕ) → j < m → (scan_verdict ws (length (lent j)) (length (lists j))).number ≡ 0
  taken j l = sym (ap (λ (v : Verdict). v.number) (K.kept j l).answers) ∙ K.done j l

  -- the block's entry is its output among the scan's
  pub records_show : i < block_count (network_in ws) → (j : ℕ) → j < m → get_or (records j) i no_outputs ≡ get_or (scanned (network_in ws) (lent j)).outs i no_outputs
  records_show there j l =
      ap (λ (list : List Outputs). get_or list i no_outputs) ((K.kept j l).leaves_records ∙ done_records ws (lent j) (lists j) (taken j l))
      ∙ get_or-append (scanned (network_in ws) (lent j)).outs (drop (block_count (network_in ws)) (lists j)) no_outputs i (omega (arith, all_outs_count (network_in ws) (lent j)))

  reads : i < block_count (network_in ws) → PointerKept (network_in ws) i m lent left → (j : ℕ) → j < m → reading (network_in ws) i (left j) (records j) ≡ report (network_in ws) i (lent j)
  reads there kept j l = ap₂ (λ (p : Outputs) (x : ℕ). cond p.middle (some x) none) (records_show there j l) (kept j l)

pub demand_3_records : Demand3Records
demand_3_records ws i m lent left lists records answers K S kept j l =
    let c = round_some (source_found (network_in ws) i (lent j)) (matrix_found (network_in ws) i (lent j)) (block_of (network_in ws) i).n in
    as_read (scanning ws m lent (λ k. length (lists k)) (taken ws i m lent left lists records answers K) (omega (arith, c))) S
    (λ s. reading (network_in ws) i (left s) (records s)) (reads ws i m lent left lists records answers K S.there kept) j l

-- ---- and with numbers
module _ (ws : List ℕ) (i m : ℕ) (lent left : ℕ → List ℕ) (lists numbers : ℕ → List ℕ) (answers : ℕ → Verdict) (K : PackedCalls ws m lent left lists numbers answers) where
  pub numbers_taken : (j : ℕ) → j < m → (scan_verdict ws (length (lent j)) (length (lists j))).number ≡ 0
  numbers_taken j l = sym (ap (λ (v : Verdict). v.number) (K.kept j l).answers) ∙ K.done j l

  pub numbers_show : i < block_count (network_in ws) → (j : ℕ) → j < m
      → get_or (map unpacked (numbers j)) i no_outputs ≡ get_or (scanned (network_in ws) (lent j)).outs i no_outputs
  numbers_show there j l =
      let outs : List Outputs = (scanned (network_in ws) (lent j)).outs in
      unpacked_at (numbers j) i
      ∙ ap (λ (list : List ℕ). unpacked (get_or list i 0)) ((K.kept j l).leaves_other ∙ done_outputs ws (lent j) (lists j) (numbers_taken j l))
      ∙ ap unpacked
      (get_or-append (map packed outs) (drop (block_count (network_in ws)) (lists j)) 0 i (omega (arith, length-map outs packed, all_outs_count (network_in ws) (lent j)))
      ∙ packed_at outs i)
      ∙ unpack_pack (get_or outs i no_outputs) (fit_at outs (packed_whole (network_in ws) (lent j) (accepted_good ws (checks ws (lent j) (length (lists j)) (numbers_taken j l)))) i)

  reads_numbers : i < block_count (network_in ws) → PointerKept (network_in ws) i m lent left → (j : ℕ) → j < m
      → reading (network_in ws) i (left j) (map unpacked (numbers j)) ≡ report (network_in ws) i (lent j)
  reads_numbers there kept j l = ap₂ (λ (p : Outputs) (x : ℕ). cond p.middle (some x) none) (numbers_show there j l) (kept j l)

pub demand_3_packed : Demand3Packed
demand_3_packed ws i m lent left lists numbers answers K S kept j l =
    let c = round_some (source_found (network_in ws) i (lent j)) (matrix_found (network_in ws) i (lent j)) (block_of (network_in ws) i).n in
    as_read (scanning ws m lent (λ k. length (lists k)) (numbers_taken ws i m lent left lists numbers answers K) (omega (arith, c))) S
    (λ s. reading (network_in ws) i (left s) (map unpacked (numbers s))) (reads_numbers ws i m lent left lists numbers answers K S.there kept) j l

-- the contract that `PackedCalls` speaks of is the one that the check reads off the source: each gives the other
pub as_the_source_has_it : (κs : _) (a : _) (r : _) (s : _) → packed_reads.Post κs a r s
    → LeavesTwo (scan_verdict a.0.now (length a.1.0.now) (length a.1.1.0.now)) (scan_table a.0.now a.1.0.now (length a.1.1.0.now)) (scan_packed a.0.now a.1.0.now a.1.1.0.now)
    (numbered r).verdict s.1.0.now s.1.1.0.now
as_the_source_has_it κs a r s p = record { answers = ap (λ (v : Said Unit). v.verdict) p.0; leaves_one = p.1.0; leaves_other = p.1.1 }

pub has_the_source : (κs : _) (a : _) (r : _) (s : _) → let post : Type 0 = packed_reads.Post κs a r s in
    LeavesTwo (scan_verdict a.0.now (length a.1.0.now) (length a.1.1.0.now)) (scan_table a.0.now a.1.0.now (length a.1.1.0.now)) (scan_packed a.0.now a.1.0.now a.1.1.0.now)
    (numbered r).verdict s.1.0.now s.1.1.0.now → post
has_the_source κs a (Ok y) s p = (ap (λ (v : Verdict). said_by v tt) p.answers, (p.leaves_one, p.leaves_other))
has_the_source κs a (Err r) s p = (says r (scan_verdict a.0.now (length a.1.0.now) (length a.1.1.0.now)) tt p.answers, (p.leaves_one, p.leaves_other))
