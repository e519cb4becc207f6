-- The round trips of a record. A network's words with a record's at block k are those of the network with that record for its block k,
-- which is good where the writer is not refused; and the words of an accepted network are those of its records. Assumes nothing.
use mathlib.Core.Path.{◌≡◌, refl, sym, ap, ap₂, ◌∙◌, subst}
use mathlib.Core.Bool.{Bool, true, false, cond, ◌&&◌, false≢true}
use mathlib.Core.List.{List, [], ◌∷◌, ◌++◌, flat_map, append_assoc}
use Rattle.std.specs.Prelude.{Some, None}
use Prim.Native.Nat.{ℕ, zero, suc, ◌+◌, ◌-◌, ◌*◌, ◌≤◌, ◌<◌}
use native.Mathlib.Decide.{ℕ_discrete}
use native.Mathlib.Omega.{arith}
use borrow.Author.Tests.{leb-true}
use lib.Dec.{leb, eqb}
use lib.ListN.{length, take, drop, set, length-set, length-drop}
use lib.Seq.{take_at, take-add, drop_at, drop-drop, append_snoc, get_or-set_same, get_or-set_other}
use Rattle.verdict.specs.Verdict.{Verdict, verdict, done, then}
use Rattle.verdict.specs.Verdict.{Said, said_by}
use Rattle.runs.specs.Run.{placed}
use Rattle.section.specs.Walk.{first_of}
use Rattle.section.proofs.Limits.{in_count}
use Rattle.section.proofs.Walk.{then_zero, then_next, clean_done, done_clean}
use Rattle.table.specs.declared.sizes.Sizes.{Sizes}
use Rattle.table.specs.Table.{allowed}
use Rattle.table.proofs.Good.{sizes_allowed}
use Rattle.record.specs.declared.Block.{Block}
use Rattle.record.specs.Record.{record_words, block_in, spelled}
use Rattle.record.proofs.Words.{spelled_long, spelled_rest, fifteen}
use Rattle.rules.specs.Fault.{faults, judged}
use Rattle.rules.specs.Sound.{GoodBlock}
use Rattle.rules.proofs.Faults.{faults_long}
use Rattle.rules.proofs.Good.{good_block, record_clean}
use Rattle.areas.specs.Areas.{has_level, areas_spelled, areas_end}
use Rattle.network.specs.Network.{Network, block_count, block_of, no_block, words_of}
use Rattle.network.specs.Check.{most_blocks, network_in, checked, opened_value, record_start, read_verdict, read_at, read}
use Rattle.network.specs.Sound.{GoodNetwork, Sound}
use Rattle.network.proofs.Accepted.{accepts_exactly, spellable, spells_back, good_accepted}
use Rattle.network.proofs.Good.{whole_front}
use Rattle.network.proofs.Networks.{count_is, block_is, end_is}
use Rattle.network.proofs.Values.{reads_block}
use Rattle.writer.specs.Writer.{write_verdict, write_buffer}
use Rattle.writer.specs.RoundTrips.{WrittenIsRead, ReadIsWritten}
use Rattle.writer.proofs.Writing.{write_done, buffer_written}

-- ---- words put into others after their first n
placed_past : (h rest m : List ℕ) (n k : ℕ) → length h ≡ n → placed (h ++ rest) (n + k) m ≡ h ++ placed rest k m
placed_past h rest m n k e =
    let all : List ℕ = h ++ rest in
    let before : List ℕ = take k rest in
    let after : List ℕ = drop (k + length m) rest in
    let to : n + k + length m ≡ n + (k + length m) = omega arith in
    let past : drop n all ≡ rest = drop_at h rest n e in
    let front : take (n + k) all ≡ h ++ before = take-add n k all ∙ ap₂ ◌++◌ (take_at h rest n e) (ap (take k) past) in
    let back : drop (n + k + length m) all ≡ after =
    ap (λ (i : ℕ). drop i all) to ∙ sym (drop-drop (k + length m) n all) ∙ ap (drop (k + length m)) past in
    ap₂ (λ (f g : List ℕ). f ++ m ++ g) front back
    ∙ ap (λ (f : List ℕ). f ++ after) (append_assoc h before m)
    ∙ append_assoc h (before ++ m) after

-- the words of records, one of which is put in another's place
put_at : (bs : List Block) (j : ℕ) (b : Block) → j < length bs → placed (flat_map spelled bs) (record_words * j) (spelled b) ≡ flat_map spelled (set bs j b)
unfolding flat_map
put_at [] j b l = absurd (omega arith)
put_at (x ∷ bs) zero b l =
    let to : 0 + length (spelled b) ≡ record_words = omega (arith, spelled_long b) in
    ap (λ (k : ℕ). spelled b ++ drop k (spelled x ++ flat_map spelled bs)) to
    ∙ ap (λ (t : List ℕ). spelled b ++ t) (spelled_rest x (flat_map spelled bs))
put_at (x ∷ bs) (suc j) b l =
    let to : record_words * suc j ≡ record_words + record_words * j = omega arith in
    ap (λ (k : ℕ). placed (spelled x ++ flat_map spelled bs) k (spelled b)) to
    ∙ placed_past (spelled x) (flat_map spelled bs) (spelled b) record_words (record_words * j) (spelled_long x)
    ∙ ap (λ (t : List ℕ). spelled x ++ t) (put_at bs j b (omega arith))

-- ---- a network with a record for the block after the first j
module _ (net : Network) (j : ℕ) (b : Block) (l : j < block_count net) where
  abbrev changed : Network
  changed = record { sizes = net.sizes; blocks = set net.blocks j b }

  same_count : block_count changed ≡ block_count net
  same_count = length-set net.blocks j b

  -- the words before the records: the areas and the count
  abbrev head : Bool → ℕ → List ℕ
  head with_level count = areas_spelled with_level net.sizes ++ count ∷ []

  head_long : (with_level : Bool) → length (head with_level (block_count net)) ≡ areas_end (words_of with_level net) + 1
  unfolding words_of areas_spelled
  head_long true = refl
  head_long false = refl

  changed_words : (with_level : Bool) → let all = words_of with_level net in placed all (record_start all j) (spelled b) ≡ words_of with_level changed
  unfolding words_of
  changed_words with_level =
      let areas : List ℕ = areas_spelled with_level net.sizes in
      let start : ℕ = record_start (words_of with_level net) j in
      ap (λ (t : List ℕ). placed t start (spelled b)) (sym (append_snoc areas (block_count net) (flat_map spelled net.blocks)))
      ∙ placed_past (head with_level (block_count net)) (flat_map spelled net.blocks) (spelled b) (areas_end (words_of with_level net) + 1) (record_words * j) (head_long with_level)
      ∙ ap₂ (λ (n : ℕ) (t : List ℕ). head with_level n ++ t) (sym same_count) (put_at net.blocks j b l)
      ∙ append_snoc areas (block_count changed) (flat_map spelled changed.blocks)

  changed_block : block_of changed j ≡ b
  changed_block = get_or-set_same net.blocks j b no_block l

  changed_good : GoodNetwork net → GoodBlock net.sizes j b → GoodNetwork changed
  changed_good g h = record {
    areas = g.areas;
    few = omega (arith, g.few, same_count);
    blocks = λ i u.
        elim (ℕ_discrete i j) [
          | yes e ↦ subst (λ (k : ℕ). GoodBlock net.sizes k (block_of changed k)) (sym e) (subst (GoodBlock net.sizes j) (sym changed_block) h)
          | no e ↦ subst (GoodBlock net.sizes i) (sym (get_or-set_other net.blocks j i b no_block e)) (g.blocks i (omega (arith, u, same_count)))
        ];
  }

-- ---- accepted words are read by their opening
read_accepted : (ws : List ℕ) (k : ℕ) → (checked ws).number ≡ 0 → read ws k ≡ read_at ws (opened_value ws) k
unfolding read_at
read_accepted ws k e =
    ap (λ (v : Verdict). said_by v (block_in (drop (record_start ws (k - 1)) ws))) (then_next (checked ws) (read_verdict (opened_value ws) k (length ws)) e)

-- ---- a record that the writer takes is good
written_good : (z : Sizes) (k : ℕ) (b : Block) (size : ℕ) → (write_verdict z k b size).number ≡ 0 → GoodBlock z (k - 1) b
unfolding write_verdict
written_good z k b size e =
    let words : Verdict = judged z (k - 1) b 0 record_words in
    let last : Verdict = cond (eqb size record_words) done (verdict 12 0) in
    let counted : Verdict = cond (leb 1 k && leb k most_blocks) done (verdict 12 0) in
    let sizes : Verdict = cond (allowed z) done (verdict 3 0) in
    let fine : words.number ≡ 0 = (then_zero words last (then_zero counted (then words last) (then_zero sizes (then counted (then words last)) e).1).1).0 in
    good_block z (k - 1) b (done_clean record_words (faults z (k - 1) b) 0 (omega arith) fine).0

pub written_is_read : WrittenIsRead
written_is_read ws k b buffer e l u w =
    let s : Sound ws = (accepts_exactly ws).0 e in
    let net : Network = network_in ws in
    let j : ℕ = k - 1 in
    let below : j < block_count net = omega arith in
    let now : Network = changed net j b below in
    let level : Bool = has_level (first_of ws) in
    let all : List ℕ = words_of level now in
    let words : placed ws (record_start ws j) (write_buffer net.sizes k b buffer) ≡ all =
    ap₂ (λ (t m : List ℕ). placed t (record_start t j) m) (sym s.words) (buffer_written net.sizes k b buffer w) ∙ changed_words net j b below level in
    let good : GoodNetwork now = changed_good net j b below s.network (written_good net.sizes k b (length buffer) w) in
    let done_now : checked all ≡ done = good_accepted level now (spellable ws) good in
    let back : network_in all ≡ now = spells_back level now (spellable ws) in
    let there : j < block_count (network_in all) = omega (arith, below, ap block_count back, same_count net j b below) in
    let one : j + 1 ≡ k = omega arith in
    record {
      accepted = ap checked words ∙ done_now;
      is_read =
          ap₂ read words (sym one)
          ∙ read_accepted all (j + 1) (ap (λ (v : Verdict). v.number) done_now)
          ∙ reads_block all (opened_value all) j refl (ap (λ (v : Verdict). v.number) done_now) there
          ∙ ap (λ (n : Network). said_by done (block_of n j)) back
          ∙ ap (said_by done) (changed_block net j b below);
    }

-- ---- what a record that is read rests on
module _ (ws : List ℕ) (k : ℕ) (b : Block) (e : read ws k ≡ said_by done b) where
  holds : (b : Bool) → (cond b done (verdict 12 0)).number ≡ 0 → b ≡ true
  holds true h = refl
  holds false h = absurd (omega arith)

  all_three : (x y z : Bool) → ((x && y) && z) ≡ true → (x ≡ true) × (y ≡ true)
  all_three true true z h = (refl, refl)
  all_three true false z h = absurd (false≢true h)
  all_three false y z h = absurd (false≢true h)

  verdict_is : then (checked ws) (read_verdict (opened_value ws) k (length ws)) ≡ done
  verdict_is = ap (λ (s : Said Block). s.verdict) e

  tests : ((checked ws).number ≡ 0) × ((leb 1 k && leb k (block_count (network_in ws)) && leb (opened_value ws).next (length ws)) ≡ true)
  unfolding read_verdict
  tests =
      let t = then_zero (checked ws) (cond (leb 1 k && leb k (block_count (network_in ws)) && leb (opened_value ws).next (length ws)) done (verdict 12 0)) (ap (λ (v : Verdict). v.number) verdict_is) in
      (t.0, holds _ t.1)

  counts : (1 ≤ k) × (k ≤ block_count (network_in ws))
  counts =
      let t = all_three (leb 1 k) (leb k (block_count (network_in ws))) (leb (opened_value ws).next (length ws)) tests.1 in
      (leb-true 1 k t.0, leb-true k (block_count (network_in ws)) t.1)

  value_is : block_in (drop (record_start ws (k - 1)) ws) ≡ b
  value_is =
      let same : Some (block_in (drop (record_start ws (k - 1)) ws)) ≡ Some b =
      sym (ap (λ (v : Verdict). cond (eqb v.number 0) (Some (block_in (drop (record_start ws (k - 1)) ws))) None) verdict_is) ∙ ap (λ (s : Said Block). s.value) e in
      cc

-- the first 15 words are those of the record that they spell
spelled_words : (ws : List ℕ) → record_words ≤ length ws → spelled (block_in ws) ≡ take record_words ws
spelled_words ws l =
    sym (take_at (spelled (block_in ws)) (drop record_words ws) record_words (spelled_long (block_in ws))) ∙ ap (take record_words) (fifteen ws l)

pub read_is_written : ReadIsWritten
read_is_written ws k b buffer r long =
    let e = (tests ws k b r).0 in
    let low = (counts ws k b r).0 in
    let high = (counts ws k b r).1 in
    let s : Sound ws = (accepts_exactly ws).0 e in
    let j : ℕ = k - 1 in
    let z : Sizes = (network_in ws).sizes in
    let at : b ≡ block_in (drop (record_start ws j) ws) = sym (value_is ws k b r) in
    let good : GoodBlock z j b = subst (GoodBlock z j) (block_is ws j (omega arith) ∙ sym at) (s.network.blocks j (omega arith)) in
    let judge : judged z j b 0 record_words ≡ done =
    clean_done record_words (faults z j b) 0 (record_clean z j b good) (omega (arith, faults_long z j b)) in
    let ok : write_verdict z k b (length buffer) ≡ done =
    write_done z k b buffer (sizes_allowed z s.network.areas)
    (in_count most_blocks k low (omega (arith, s.network.few))) (ap (λ (v : Verdict). v.number) judge) long in
    record {
      is_written = ok;
      words =
          buffer_written z k b buffer (ap (λ (v : Verdict). v.number) ok)
          ∙ ap spelled at
          ∙ spelled_words (drop (record_start ws j) ws) (omega (arith, length-drop (record_start ws j) ws, (whole_front ws e).1, end_is ws, count_is ws));
    }
