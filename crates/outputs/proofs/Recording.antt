-- The laws of a scan with records: the numbers of its blocks, the list as it is filled from them, and what is true of the list that
-- is left.
use mathlib.Core.Path.{◌≡◌, refl, sym, ap, ap₂, ◌∙◌}
use mathlib.Core.Bool.{Bool, true, false, cond, ◌&&◌}
use mathlib.Core.List.{List, [], ◌∷◌, ◌++◌, map, append_assoc, map-append}
use Prim.Native.Nat.{ℕ, zero, suc, ◌+◌, ◌-◌, ◌≤◌, ◌<◌, min}
use native.Mathlib.Numerals.{add-one}
use native.Mathlib.Omega.{arith}
use borrow.Author.Tests.{eq-eqb, eqb-true, eqb-false, lt-leb, leb-true, leb-false}
use lib.Dec.{eqb, leb}
use lib.ListN.{length, get_or, take, drop, set, length-append, length-drop, length-map, get_or-append}
use lib.Seq.{take_at, drop_at, take-suc, take-length, drop-cons, set_at, length-take-le}
use Rattle.table.specs.Table.{total}
use Rattle.network.specs.Network.{block_count}
use Rattle.std.specs.Prelude.{Ok, Err}
use Rattle.verdict.specs.declared.Refusal.{Refusal}
use Rattle.verdict.specs.Verdict.{Verdict, verdict, done, numbered, said_by}
use Rattle.verdict.proofs.Said.{no_zero, refused_is, done_is, value_is, says}
use Rattle.network.specs.Check.{checked, network_in}
use Rattle.network.proofs.Values.{accepted_good}
use Rattle.blocks.specs.declared.Outputs.{Outputs}
use Rattle.blocks.specs.Answer.{no_outputs}
use Rattle.scan.specs.Scan.{scanned, scan_verdict, scan_table, scan_records, scan_packed}
use Rattle.blocks.specs.Packed.{packed, unpacked}
use Rattle.scan.proofs.Kept.{checks, done_outputs, done_records, records_kept, enough}
use Rattle.scan.proofs.Packing.{back_whole}
use Rattle.scan.proofs.Repeating.{one_count}
use Rattle.scan.proofs.Scanning.{all_outs_count}
use Rattle.scan.proofs.Verdicts.{by_tests}
use Rattle.outputs.specs.Inner.{Spelled}
use Rattle.outputs.specs.Records.{RecordOfBlock, EntriesStay, ShortListRefused}

-- ---- a list whose first k entries are filled from numbers
abbrev pub filled : List ℕ → List Outputs → ℕ → List Outputs
filled ns os k = map unpacked (take k ns) ++ drop k os

module _ (ns : List ℕ) (os : List Outputs) (k : ℕ) where
  front_long : k ≤ length ns → length (map unpacked (take k ns)) ≡ k
  front_long l = length-map (take k ns) unpacked ∙ length-take-le k ns l

  pub filled_long : k ≤ length ns → k ≤ length os → length (filled ns os k) ≡ length os
  filled_long l u =
      length-append (map unpacked (take k ns)) (drop k os)
      ∙ omega (arith, front_long l, length-drop k os)

  -- one more
  pub filled_next : k < length ns → k < length os → set (filled ns os k) k (unpacked (get_or ns k 0)) ≡ filled ns os (k + 1)
  filled_next l u =
      let front : List Outputs = map unpacked (take k ns) in
      let a : Outputs = unpacked (get_or ns k 0) in
      let ys : List Outputs = drop (suc k) os in
      ap (λ (r : List Outputs). set (front ++ r) k a) (drop-cons os k a u)
      ∙ set_at front (get_or os k a) ys a k (front_long (omega arith))
      ∙ sym (append_assoc front (a ∷ []) ys)
      ∙ ap (λ (x : List Outputs). x ++ ys) (sym (map-append unpacked (take k ns) (get_or ns k 0 ∷ [])) ∙ ap (map unpacked) (sym (take-suc ns k 0 l)))
      ∙ ap (filled ns os) (sym (add-one k))

-- all of them
pub filled_all : (ns : List ℕ) (os : List Outputs) (k : ℕ) → k ≡ length ns → filled ns os k ≡ map unpacked ns ++ drop (length ns) os
filled_all ns os k e = ap (filled ns os) e ∙ ap (λ (xs : List ℕ). map unpacked xs ++ drop (length ns) os) (take-length ns)

-- ---- the verdict goes by the room, of which a network needs 128 entries at most
same_leb : (n a b : ℕ) → (n ≤ a → n ≤ b) → (n ≤ b → n ≤ a) → leb n a ≡ leb n b
same_leb n a b f g = go (leb n a) (leb n b) refl refl
  where
    go : (x y : Bool) → leb n a ≡ x → leb n b ≡ y → x ≡ y
    go true true p q = refl
    go true false p q = absurd (omega (arith, f (leb-true n a p), leb-false n b q))
    go false true p q = absurd (omega (arith, g (leb-true n b q), leb-false n a p))
    go false false p q = refl

same_room : (ws : List ℕ) (size a b : ℕ) → (block_count (network_in ws) ≤ 128 → leb (block_count (network_in ws)) a ≡ leb (block_count (network_in ws)) b) → scan_verdict ws size a ≡ scan_verdict ws size b
same_room ws size a b h = go (eqb (checked ws).number 0) refl
  where
    go : (fine : Bool) → eqb (checked ws).number 0 ≡ fine → scan_verdict ws size a ≡ scan_verdict ws size b
    go true p =
        by_tests ws size a true _ _ p refl (h (accepted_good ws (eqb-true (checked ws).number 0 p)).few) ∙ sym (by_tests ws size b true _ _ p refl refl)
    go false p = by_tests ws size a false _ _ p refl refl ∙ sym (by_tests ws size b false _ _ p refl refl)

-- a list of at most 128 entries is judged as a longer one
pub judged_same : (ws : List ℕ) (size room e : ℕ) → e ≡ min room 128 → scan_verdict ws size e ≡ scan_verdict ws size room
judged_same ws size room e least =
    same_room ws size e room (λ few. same_leb (block_count (network_in ws)) e room (λ u. omega (arith, least)) (λ u. omega (arith, least, few)))

module _ (ws t : List ℕ) (room e : ℕ) (least : e ≡ min room 128) (zs : List ℕ) (long : length zs ≡ 128) where
  front_is : length (take e zs) ≡ e
  front_is = length-take-le e zs (omega (arith, least, long))

  pub same_verdict : scan_verdict ws (length t) (length (take e zs)) ≡ scan_verdict ws (length t) room
  same_verdict = ap (scan_verdict ws (length t)) front_is ∙ judged_same ws (length t) room e least

  pub same_table : scan_table ws t (length (take e zs)) ≡ scan_table ws t room
  unfolding scan_table
  same_table = ap (λ (x : Verdict). cond (eqb x.number 0) (scanned (network_in ws) t).table t) same_verdict

  -- what the answer says, with the count in place of nothing
  pub refusal_told : (r : Refusal) → numbered (Err r) ≡ said_by (scan_verdict ws (length t) (length (take e zs))) (tt {0})
      → numbered (Err r) ≡ said_by (scan_verdict ws (length t) room) (block_count (network_in ws))
  refusal_told r q = says r (scan_verdict ws (length t) room) (block_count (network_in ws)) (sym (refused_is r (scan_verdict ws (length t) (length (take e zs))) tt q) ∙ same_verdict)

  pub count_told : (n : ℕ) → n ≡ block_count (network_in ws) → numbered (Ok (tt {0})) ≡ said_by (scan_verdict ws (length t) (length (take e zs))) (tt {0})
      → numbered (Ok n) ≡ said_by (scan_verdict ws (length t) room) (block_count (network_in ws))
  count_told n p q = rw (sym same_verdict ∙ done_is tt (scan_verdict ws (length t) (length (take e zs))) tt q) (ap (λ (k : ℕ). numbered (Ok k)) p)

  pub spelled : (rest : List ℕ) {packs : List ℕ} → packs ≡ scan_packed ws t (take e zs) → Spelled ws t room (packs ++ rest)
  spelled rest {packs} left h =
      let zero_number : (scan_verdict ws (length t) (length (take e zs))).number ≡ 0 = ap (λ (x : Verdict). x.number) same_verdict ∙ h in
      let numbers : List ℕ = map packed (scanned (network_in ws) t).outs in
      ap (λ (x : List ℕ). take (block_count (network_in ws)) (x ++ rest)) (left ∙ done_outputs ws t (take e zs) zero_number)
      ∙ ap (take (block_count (network_in ws))) (append_assoc numbers (drop (block_count (network_in ws)) (take e zs)) rest)
      ∙ take_at numbers (drop (block_count (network_in ws)) (take e zs) ++ rest) (block_count (network_in ws)) (one_count (network_in ws) t)

-- ---- the list, as the numbers fill it
module _ (ws t : List ℕ) (list : List Outputs) where
  -- a refusal
  pub list_kept : (r : Refusal) → numbered (Err r) ≡ said_by (scan_verdict ws (length t) (length list)) (block_count (network_in ws)) → list ≡ scan_records ws t list
  list_kept r e =
      sym (records_kept ws t list (λ q.
      no_zero r.fault (sym (ap (λ (v : Verdict). v.number) (refused_is r (scan_verdict ws (length t) (length list)) (block_count (network_in ws)) e)) ∙ q)))

  -- what is not refused
  module _ (count : ℕ) (e : numbered (Ok count) ≡ said_by (scan_verdict ws (length t) (length list)) (block_count (network_in ws))) where
    zero_number : (scan_verdict ws (length t) (length list)).number ≡ 0
    zero_number = ap (λ (v : Verdict). v.number) (done_is count (scan_verdict ws (length t) (length list)) (block_count (network_in ws)) e)

    count_is : count ≡ block_count (network_in ws)
    count_is = value_is count (scan_verdict ws (length t) (length list)) (block_count (network_in ws)) e

    pub few : count ≤ 128
    few = omega (arith, count_is, (accepted_good ws (checks ws t (length list) zero_number)).few)

    pub room_for : count ≤ length list
    room_for = omega (arith, count_is, enough ws t (length list) zero_number)

    module _ (numbers : List ℕ) (s : Spelled ws t (length list) numbers) where
      front : take count numbers ≡ map packed (scanned (network_in ws) t).outs
      front = ap (λ (k : ℕ). take k numbers) count_is ∙ s zero_number

      pub front_count : length (take count numbers) ≡ count
      front_count = ap length front ∙ one_count (network_in ws) t ∙ sym count_is

      pub list_filled : map unpacked (take count numbers) ++ drop (length (take count numbers)) list ≡ scan_records ws t list
      list_filled =
          ap₂ (λ (x : List Outputs) (k : ℕ). x ++ drop k list)
          (ap (map unpacked) front ∙ back_whole (network_in ws) t (accepted_good ws (checks ws t (length list) zero_number))) (front_count ∙ count_is)
          ∙ sym (done_records ws t list zero_number)

-- ---- what is true of the list that is left
otherwise : (outs : List Outputs) (i : ℕ) (d e : Outputs) → i < length outs → get_or outs i d ≡ get_or outs i e
otherwise [] i d e l = absurd (omega arith)
otherwise (out ∷ outs) zero d e l = refl
otherwise (out ∷ outs) (suc i) d e l = otherwise outs i d e (omega arith)

pub record_of_block : RecordOfBlock
record_of_block ws t list k d h l u =
    let outs : List Outputs = (scanned (network_in ws) t).outs in
    let inside : k - 1 < length outs = omega (arith, all_outs_count (network_in ws) t) in
    ap (λ (w : List Outputs). get_or w (k - 1) d) (done_records ws t list h)
    ∙ get_or-append outs (drop (block_count (network_in ws)) list) d (k - 1) inside
    ∙ otherwise outs (k - 1) d no_outputs inside

pub entries_stay : EntriesStay
entries_stay ws t list = go (eqb (scan_verdict ws (length t) (length list)).number 0) refl
  where
    n : ℕ
    n = block_count (network_in ws)

    go : (a : Bool) → eqb (scan_verdict ws (length t) (length list)).number 0 ≡ a → drop n (scan_records ws t list) ≡ drop n list
    go true e =
        ap (drop n) (done_records ws t list (eqb-true (scan_verdict ws (length t) (length list)).number 0 e))
        ∙ drop_at (scanned (network_in ws) t).outs (drop n list) n (all_outs_count (network_in ws) t)
    go false e = ap (drop n) (records_kept ws t list (eqb-false (scan_verdict ws (length t) (length list)).number 0 e))

pub short_list_refused : ShortListRefused
short_list_refused ws t list h l = by_tests ws (length t) (length list) true _ _ (eq-eqb (checked ws).number 0 h) refl (lt-leb (block_count (network_in ws)) (length list) l) ∙ go (eqb (length t) (total (network_in ws).sizes))
  where
    go : (a : Bool) → cond (a && false) done (verdict 12 0) ≡ verdict 12 0
    go true = refl
    go false = refl
