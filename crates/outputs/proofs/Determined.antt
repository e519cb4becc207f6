-- Two results that the contract of `scan` allows are equal, and so is what they leave in the table and in the list of records: it is one
-- equation for what the answer says and one for each lent buffer. By number and place, it is `Recorded`.
use mathlib.Core.Path.{◌≡◌, sym, ap, ◌∙◌}
use mathlib.Core.List.{List}
use Prim.Native.Nat.{ℕ}
use lib.ListN.{length}
use Rattle.std.specs.Prelude.{Ok, Err}
use Rattle.verdict.specs.Verdict.{Verdict, Said, numbered, said_by}
use Rattle.verdict.specs.Promise.{DecidesBoth}
use Rattle.verdict.proofs.Said.{numbered_once, says}
use Rattle.blocks.specs.declared.Outputs.{Outputs}
use Rattle.scan.specs.Scan.{scan_verdict}
use Rattle.outputs.specs.Records.{Recorded}
use Rattle.outputs.proofs.scan.Reads as scan_reads

pub scan_and_table : DecidesBoth scan_reads.Post (λ κs s. s.1.0.now)
scan_and_table κs a x y s t p q = (numbered_once x y (p.0 ∙ sym q.0), p.1.0 ∙ sym q.1.0)

pub scan_and_records : (κs : _) (a : _) (x y : _) (s t : _) → scan_reads.Post κs a x s → scan_reads.Post κs a y t → (x ≡ y) × (s.1.1.0.now ≡ t.1.1.0.now)
scan_and_records κs a x y s t p q = (numbered_once x y (p.0 ∙ sym q.0), p.1.1 ∙ sym q.1.1)

pub scan_promises : (κs : _) (a : _) (x : _) (s : _) → scan_reads.Post κs a x s
    → Recorded a.0.now a.1.0.now a.1.1.0.now (numbered x).verdict s.1.0.now s.1.1.0.now
scan_promises κs a x s p = record { answers = ap (λ (v : Said Unit). v.verdict) p.0; leaves_table = p.1.0; leaves_records = p.1.1 }

pub promised_scan : (κs : _) (a : _) (x : _) (s : _) → let post : Type 0 = scan_reads.Post κs a x s in
    Recorded a.0.now a.1.0.now a.1.1.0.now (numbered x).verdict s.1.0.now s.1.1.0.now → post
promised_scan κs a (Ok y) s p = (ap (λ (v : Verdict). said_by v tt) p.answers, (p.leaves_table, p.leaves_records))
promised_scan κs a (Err r) s p = (says r (scan_verdict a.0.now (length a.1.0.now) (length a.1.1.0.now)) tt p.answers, (p.leaves_table, p.leaves_records))

pub scan_and_lent : {ws t table other : List ℕ} {os list another : List Outputs} {x y : Verdict} → Recorded ws t os x table list → Recorded ws t os y other another → (x ≡ y) × ((table ≡ other) × (list ≡ another))
scan_and_lent p q = (p.answers ∙ sym q.answers, (p.leaves_table ∙ sym q.leaves_table, p.leaves_records ∙ sym q.leaves_records))
