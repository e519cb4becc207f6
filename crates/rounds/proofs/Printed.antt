-- What the bench prints of a block: of each scan the text says whether its middle output is on, what the scan counts of it and, of a compare
-- block, what the scan reports of it; so demand 3 is what the text says. Assumes nothing.
use mathlib.Core.Path.{◌≡◌, refl, sym, ap, ap₂, ◌∙◌, subst}
use mathlib.Core.Bool.{Bool, true, false, cond}
use mathlib.Core.List.{List, [], ◌∷◌, ◌++◌, append-nil}
use mathlib.Core.Option.{none, some}
use Prim.Native.Nat.{ℕ, zero, suc, ◌+◌, ◌-◌, ◌≤◌, ◌<◌}
use native.Mathlib.Omega.{arith}
use borrow.Author.Tests.{eq-eqb}
use lib.ListN.{length, get_or, take, drop, replicate, length-replicate}
use Rattle.words.specs.Words.{words_in, odd_byte}
use Rattle.network.specs.Network.{Network, block_of, block_count}
use Rattle.network.specs.Sound.{GoodNetwork}
use Rattle.rules.proofs.KindFacts.{accepted_means}
use Rattle.file.specs.File.{File, table_words, file_in, file_checked}
use Rattle.file.specs.Sound.{SoundFile}
use Rattle.file.proofs.Accepted.{accepts_files}
use Rattle.blocks.specs.Kind.{has_pointer}
use Rattle.blocks.specs.Answer.{no_outputs}
use Rattle.scan.specs.Scan.{scanned}
use Rattle.scan.specs.Scans.{scan_pointers, scans_table}
use Rattle.scan.proofs.Repeating.{scans_exact}
use Rattle.blocks.specs.declared.Outputs.{Outputs}
use Rattle.scan.proofs.Packing.{fit_at, packed_whole}
use Rattle.text.specs.Text.{decimal, no_pointer, pointer_field, head_line, end_line, refusal_line}
use Rattle.run.specs.Bench.{file_text, words_text}
use Rattle.run.proofs.ByScans.{scan_lines, scans_lines, run_by_scans}
use Rattle.rounds.specs.Demand3.{report, register_in, done_by, Steady, Scanning, in_turn, round_at, RoundAt}
use Rattle.rounds.specs.Counts.{count}
use Rattle.rounds.specs.Bench.{number_in, report_in, count_in, text_says, Demand3Bench}
use Rattle.rounds.specs.Lamp.{lit}
use Rattle.rounds.proofs.Called.{in_turn_same}
use Rattle.rounds.proofs.Demand3.{demand_3}
use Rattle.rounds.proofs.Marks.{shown_pointer}
use Rattle.rounds.proofs.Reading.{decimal_read, fields, reads_report, Tells, tells_none, tells_both, told_as, all_told, other_line, own_line, head_tells, end_tells}
use Rattle.rounds.proofs.Visits.{done_low}

-- ---- what is said in turn
in_turn_last : {A : Type 0} (f : ℕ → A) (k a : ℕ) → in_turn f a (suc k) ≡ in_turn f a k ++ f (a + k) ∷ []
unfolding in_turn
in_turn_last f zero a = let e : a ≡ a + 0 = omega arith in ap (λ (x : ℕ). f x ∷ []) e
in_turn_last {A} f (suc k) a = let e : suc a + k ≡ a + suc k = omega arith in ap (λ (l : List A). f a ∷ l) (in_turn_last f k (suc a) ∙ ap (λ (x : ℕ). in_turn f (suc a) k ++ f x ∷ []) e)

in_turn_count : {A : Type 0} (f : ℕ → A) (k a : ℕ) → length (in_turn f a k) ≡ k
unfolding in_turn
in_turn_count f zero a = refl
in_turn_count f (suc k) a = ap suc (in_turn_count f k (suc a))

in_turn_front : {A : Type 0} (f : ℕ → A) (c m a : ℕ) → c ≤ m → take c (in_turn f a m) ≡ in_turn f a c
unfolding in_turn
in_turn_front f zero m a l = refl
in_turn_front f (suc c) zero a l = absurd (omega arith)
in_turn_front {A} f (suc c) (suc m) a l = ap (λ (x : List A). f a ∷ x) (in_turn_front f c m (suc a) (omega arith))

in_turn_rest : {A : Type 0} (f : ℕ → A) (j m a : ℕ) → j ≤ m → drop j (in_turn f a m) ≡ in_turn f (a + j) (m - j)
unfolding in_turn
in_turn_rest f zero m a l = let e : a ≡ a + 0 = omega arith in let n : m ≡ m - 0 = omega arith in ap₂ (in_turn f) e n
in_turn_rest f (suc j) zero a l = absurd (omega arith)
in_turn_rest f (suc j) (suc m) a l =
    let e : suc a + j ≡ a + suc j = omega arith in let n : m - j ≡ suc m - suc j = omega arith in in_turn_rest f j m (suc a) (omega arith) ∙ ap₂ (in_turn f) e n

in_turn_at : {A : Type 0} (f : ℕ → A) (otherwise : A) (j m a : ℕ) → j < m → get_or (in_turn f a m) j otherwise ≡ f (a + j)
unfolding in_turn
in_turn_at f otherwise j zero a l = absurd (omega arith)
in_turn_at f otherwise zero (suc m) a l = let e : a ≡ a + 0 = omega arith in ap f e
in_turn_at f otherwise (suc j) (suc m) a l = let e : suc a + j ≡ a + suc j = omega arith in in_turn_at f otherwise j m (suc a) (omega arith) ∙ ap f e

lit_as : (on : Bool) (pointer : ℕ) → lit (cond on (some pointer) none) ≡ on
lit_as true pointer = refl
lit_as false pointer = refl

-- any c from any on
in_turn_part : {A : Type 0} (f : ℕ → A) (c j m : ℕ) → j + c ≤ m → take c (drop j (in_turn f 0 m)) ≡ in_turn f j c
in_turn_part f c j m l =
    let z : 0 + j ≡ j = omega arith in
    ap (take c) (in_turn_rest f j m 0 (omega arith) ∙ ap (λ (x : ℕ). in_turn f x (m - j)) z)
    ∙ in_turn_front f c (m - j) j (omega arith)

-- ---- what the lines of scans say of block i + 1
module _ {A : Type 0} (read : List (List ℕ) → A) (net : Network) (i : ℕ) (there : i < block_count net) (few : block_count net ≤ 128) where
  abbrev shown_of : List ℕ → Outputs
  shown_of t = get_or (scanned net t).outs i no_outputs

  abbrev mark_of : List ℕ → List ℕ
  mark_of t = pointer_field (block_of net i).kind (get_or (scan_pointers net t) i 0)

  -- in scan s of table t
  unfoldable pub entry : ℕ → List ℕ → A
  entry s t = read (fields s (i + 1) (shown_of t) (mark_of t))

  module _ (t : List ℕ) (s : ℕ) where
    before : (n : ℕ) → n ≤ i → Tells read (i + 1) (scan_lines net t s n) []
    unfolding scan_lines
    before zero l = tells_none
    before (suc n) l =
        tells_both (before n (omega arith))
        (other_line s (n + 1) (block_of net n).kind (get_or (scan_pointers net t) n 0) (get_or (scanned net t).outs n no_outputs) (omega (arith, there, few)) read (i + 1) (λ e. omega arith))

    after : (r : ℕ) → suc i + r ≤ block_count net → Tells read (i + 1) (scan_lines net t s (suc i + r)) (entry s t ∷ [])
    unfolding scan_lines entry
    after zero l =
        let n : suc i ≡ suc i + 0 = omega arith in
        subst (λ (k : ℕ). Tells read (i + 1) (scan_lines net t s k) (entry s t ∷ [])) n
        (tells_both (before i (omega arith))
        (own_line s (i + 1) (block_of net i).kind (get_or (scan_pointers net t) i 0) (shown_of t) (omega (arith, there, few)) read))
    after (suc r) l =
        let n : suc (suc i + r) ≡ suc i + suc r = omega arith in
        subst (λ (k : ℕ). Tells read (i + 1) (scan_lines net t s k) (entry s t ∷ [])) n
        (tells_both (after r (omega arith))
        (other_line s (suc i + r + 1) (block_of net (suc i + r)).kind (get_or (scan_pointers net t) (suc i + r) 0) (get_or (scanned net t).outs (suc i + r) no_outputs) (omega (arith, l, few)) read (i + 1) (λ e. omega arith)))

    one_scan : Tells read (i + 1) (scan_lines net t s (block_count net)) (entry s t ∷ [])
    one_scan =
        let n : suc i + (block_count net - suc i) ≡ block_count net = omega (arith, there) in
        subst (λ (k : ℕ). Tells read (i + 1) (scan_lines net t s k) (entry s t ∷ [])) n (after (block_count net - suc i) (omega (arith, there)))

  all_scans : (t : List ℕ) (s j : ℕ) → Tells read (i + 1) (scans_lines net t s j) (in_turn (λ x. entry (s + x) (scans_table net t x)) 0 j)
  unfolding scans_lines in_turn
  all_scans t s zero = tells_none
  all_scans t s (suc j) =
      let e : 0 + j ≡ j = omega arith in
      let said : ℕ → A = λ x. entry (s + x) (scans_table net t x) in
      told_as
      (sym (in_turn_last said j 0 ∙ ap (λ (x : ℕ). in_turn said 0 j ++ said x ∷ []) e))
      (tells_both (all_scans t s j) (one_scan (scans_table net t j) (s + j)))

-- ---- an accepted file
module _ (ws : List ℕ) (odd : Bool) (fine : (file_checked ws odd).number ≡ 0) (i : ℕ) where
  abbrev f : File
  f = file_in ws

  abbrev net : Network
  net = f.network

  abbrev given : ℕ → List ℕ
  given = scans_table net f.image

  sound : SoundFile ws odd
  sound = (accepts_files ws odd).0 fine

  pub good : GoodNetwork net
  good = sound.file.network

  pub scanning : Scanning net f.run given
  scanning = record { accepted = good; right_size = λ j l. scans_exact net good j f.image sound.file.image }

  module _ (there : i < block_count net) where
    -- the text of the file, scan by scan
    by_scans : file_text f ≡ head_line (block_count net) (table_words f) ++ scans_lines net f.image 1 f.run ++ end_line f.run
    unfolding file_text
    by_scans =
        ap (λ (x : List ℕ). head_line (block_count net) (table_words f) ++ x ++ end_line f.run)
        (run_by_scans net good f.image (replicate (block_count net) 0) sound.file.image (length-replicate (block_count net) 0) f.run)

    -- it says one thing for each scan: what is read in the fields of the block's line
    module _ {A : Type 0} (read : List (List ℕ) → A) where
      unfoldable pub says : ℕ → A
      unfolding entry
      says j = entry read net i there good.few (1 + j) (given j)

      text_is : text_says read (i + 1) (words_text ws odd) ≡ in_turn says 0 f.run
      unfolding words_text says
      text_is =
          ap (λ (a : Bool). text_says read (i + 1) (cond a (file_text f) (refusal_line (file_checked ws odd)))) (eq-eqb (file_checked ws odd).number 0 fine)
          ∙ ap (text_says read (i + 1)) by_scans
          ∙ all_told
          (tells_both
          (tells_both (head_tells read (i + 1) (block_count net) (table_words f)) (all_scans read net i there good.few f.image 1 f.run))
          (end_tells read (i + 1) f.run))
          ∙ append-nil (in_turn (λ j. entry read net i there good.few (1 + j) (given j)) 0 f.run)

      pub said_count : length (text_says read (i + 1) (words_text ws odd)) ≡ f.run
      said_count = ap length text_is ∙ in_turn_count says f.run 0

      -- where each scan says what is wanted of it, so does the text
      module _ (wanted : ℕ → A) (shown : (j : ℕ) → j < f.run → says j ≡ wanted j) where
        pub said_at : (otherwise : A) (j : ℕ) → j < f.run → get_or (text_says read (i + 1) (words_text ws odd)) j otherwise ≡ wanted j
        said_at otherwise j l =
            let z : 0 + j ≡ j = omega arith in
            ap (λ (said : List A). get_or said j otherwise) text_is ∙ in_turn_at says otherwise j f.run 0 l ∙ ap says z ∙ shown j l

        pub said_part : (c j : ℕ) → j + c ≤ f.run → take c (drop j (text_says read (i + 1) (words_text ws odd))) ≡ in_turn wanted j c
        said_part c j l =
            ap (λ (said : List A). take c (drop j said)) text_is
            ∙ in_turn_part says c j f.run l
            ∙ in_turn_same shown c j l

    -- a report: the pointer, where the middle output is on
    reported : (j : ℕ) → says report_in j ≡ cond (get_or (scanned net (given j)).outs i no_outputs).middle (some (number_in (pointer_field (block_of net i).kind (get_or (scan_pointers net (given j)) i 0)))) none
    unfolding says entry
    reported j =
        reads_report (1 + j) (i + 1) (get_or (scanned net (given j)).outs i no_outputs) (pointer_field (block_of net i).kind (get_or (scan_pointers net (given j)) i 0))

    pub said_lit : (j : ℕ) → j < f.run → lit (get_or (text_says report_in (i + 1) (words_text ws odd)) j none) ≡ (get_or (scanned net (given j)).outs i no_outputs).middle
    said_lit j l =
        ap lit (said_at report_in _ (λ s u. reported s) none j l)
        ∙ lit_as (get_or (scanned net (given j)).outs i no_outputs).middle (number_in (pointer_field (block_of net i).kind (get_or (scan_pointers net (given j)) i 0)))

    -- a count: the scan's
    pub counted : (j : ℕ) → j < f.run → says count_in j ≡ count net i (given j)
    unfolding says entry
    counted j l =
        decimal_read (count net i (given j))
        (omega (arith, fit_at (scanned net (given j)).outs (packed_whole net (given j) good) i))

  module _ (S : Steady net i f.run given) where
    -- a scan's line shows its report
    low : (j : ℕ) → j < f.run → register_in net i (done_by net i (given j)) < 65536
    low j l = omega (arith, done_low scanning S j l, ((accepted_means net.sizes i (block_of net i) (good.blocks i S.there)).compare S.compares).few)

    shown : (j : ℕ) → j < f.run → says S.there report_in j ≡ report net i (given j)
    unfolding pointer_field
    shown j l =
        reported S.there j
        ∙ ap (λ (k : ℕ). cond (get_or (scanned net (given j)).outs i no_outputs).middle (some (number_in (cond (has_pointer k) (decimal (get_or (scan_pointers net (given j)) i 0)) no_pointer))) none) S.compares
        ∙ ap (λ (x : ℕ). cond (get_or (scanned net (given j)).outs i no_outputs).middle (some x) none)
        (ap (λ (x : ℕ). number_in (decimal x)) (shown_pointer net good i S.there S.compares (given j)) ∙ decimal_read (register_in net i (done_by net i (given j))) (low j l))

pub demand_3_bench : Demand3Bench
demand_3_bench bytes fine i S =
    let ws : List ℕ = words_in bytes in
    let odd : Bool = odd_byte bytes in
    let given : ℕ → List ℕ = scans_table (file_in ws).network (file_in ws).image in
    record {
      for_each = said_count ws odd fine i S.there report_in;
      rounds = λ j l.
          let c : ℕ = round_at (file_in ws).network i given j in
          subst (RoundAt (file_in ws).network i given j)
          (sym (said_part ws odd fine i S.there report_in (λ s. report (file_in ws).network i (given s)) (shown ws odd fine i S) c j l))
          (demand_3 (file_in ws).network i (file_in ws).run given (scanning ws odd fine i) S j l);
    }
