-- A refused scan keeps the table and the list.
use mathlib.Core.Path.{◌≡◌, ap, ◌∙◌}
use mathlib.Core.List.{List}
use Prim.Native.Nat.{ℕ}
use lib.ListN.{length}
use Rattle.verdict.specs.Verdict.{Verdict, numbered}
use Rattle.verdict.specs.Promise.{Keeps}
use Rattle.blocks.specs.declared.Outputs.{Outputs}
use Rattle.scan.proofs.Kept.{table_kept, records_kept}
use Rattle.outputs.specs.Records.{Recorded, RefusalKeepsRecords}
use Rattle.outputs.proofs.Determined.{scan_promises}
use Rattle.outputs.proofs.scan.Reads as scan_reads

pub refusal_keeps_records : RefusalKeepsRecords
refusal_keeps_records ws t list h = (table_kept ws t (length list) h, records_kept ws t list h)

-- and so whatever the contract allows with a refusal for its answer
pub scan_keeps : {ws t table : List ℕ} {os list : List Outputs} {v : Verdict} → Recorded ws t os v table list → (v.number ≡ 0 → ⊥) → (table ≡ t) × (list ≡ os)
scan_keeps p h =
    let kept = refusal_keeps_records _ _ _ (λ e. h (ap (λ (x : Verdict). x.number) p.answers ∙ e)) in
    (p.leaves_table ∙ kept.0, p.leaves_records ∙ kept.1)

pub scan_keeps_table : Keeps scan_reads.Post (λ κs r. (numbered r).verdict.number ≡ 0 → ⊥) (λ κs a. a.1.0.now) (λ κs s. s.1.0.now)
scan_keeps_table κs a r s p h = (scan_keeps (scan_promises κs a r s p) h).0

pub scan_keeps_records : (κs : _) (a : _) (r : _) (s : _) → scan_reads.Post κs a r s → ((numbered r).verdict.number ≡ 0 → ⊥) → s.1.1.0.now ≡ a.1.1.0.now
scan_keeps_records κs a r s p h = (scan_keeps (scan_promises κs a r s p) h).1
