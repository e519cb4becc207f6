-- The laws of a call: what it puts, when it refuses, and what it leaves.
use mathlib.Core.Path.{◌≡◌, refl, sym, ap, ap₂, ◌∙◌, subst}
use mathlib.Core.Bool.{Bool, true, false, false≢true, cond, ◌&&◌}
use mathlib.Core.List.{List, [], ◌++◌}
use mathlib.Core.Logic.{◌⊎◌, inl, inr, ⊎_elim}
use Prim.Native.Nat.{ℕ, ◌+◌, ◌-◌, ◌*◌, ◌≤◌, ◌<◌}
use native.Mathlib.Nat.{mul-le-mul_right}
use native.Mathlib.Omega.{arith}
use borrow.Author.Tests.{le-leb, lt-leb, eq-eqb, ne_eqb}
use lib.Dec.{eqb, leb}
use lib.ListN.{length, get_or, drop}
use Rattle.std.specs.Prelude.{Result, Ok, Err}
use Rattle.verdict.specs.declared.Refusal.{Refusal}
use Rattle.verdict.specs.declared.Fault.TheVariants.{Call}
use Rattle.verdict.specs.Verdict.{Verdict, number_of, refusal, verdict, done, numbered}
use Rattle.verdict.proofs.Said.{no_zero, refused_is, done_is, value_is}
use Rattle.network.specs.Network.{Network, block_count}
use Rattle.file.specs.declared.checker.OpenedFile.{OpenedFile}
use Rattle.file.specs.File.{table_words, file_in, file_checked, opened_file_value, opened_file}
use Rattle.file.specs.Sound.{SoundFile}
use Rattle.file.proofs.Accepted.{front_fine, accepts_files}
use Rattle.file.proofs.Files.{network_is}
use Rattle.plan.specs.declared.Step.{Step}
use Rattle.plan.specs.Plan.{plan_put, no_steps, plan_of}
use Rattle.plan.proofs.Plans.{plan_read}
use Rattle.text.specs.Text.{label_of, head_line, end_line, longest_line, place_after, laid}
use Rattle.text.specs.Inner.{Put}
use Rattle.text.proofs.Putting.{put_long, put_none, put_then, put_front, put_as}
use Rattle.text.proofs.Laying.{head_few, last_few, laid_put}
use Rattle.run.specs.declared.{Page.Page, visits.Reached.Reached}
use Rattle.run.specs.Visits.{visits_state, visits_lines}
use Rattle.run.specs.Bench.{visit_count}
use Rattle.run.specs.Page.{least_room, fitting, many, state_words, first_line, next_visit, page, run_verdict, run_lines, went, run_went, went_from, run_state, run_text}
use Rattle.run.specs.Inner.{Ready, fit, Made, Taken, Done}
use Rattle.run.proofs.Going.{Ahead}
use Rattle.run.proofs.Paging.{by_tests}

-- ---- the first line and the last
module _ (text : List ℕ) where
  pub no_first : (from count table : ℕ) → longest_line ≤ length text → (from ≡ 0 → ⊥) → Put longest_line text 0 (cond (eqb from 0) (head_line count table) []) 0 text
  no_first from count table l h =
      put_as (omega arith) (sym (ap (λ (a : Bool). cond a (head_line count table) []) (ne_eqb from 0 h))) (put_none 0 text 0 (omega arith))

  pub a_first : (from count table : ℕ) {next : ℕ} {after : List ℕ} → longest_line ≤ length text → from ≡ 0
      → next ≡ place_after 0 (head_line count table) text → after ≡ laid 0 (head_line count table) text
      → Put longest_line text 0 (cond (eqb from 0) (head_line count table) []) next after
  a_first from count table l e p q =
      put_as (omega arith) (sym (ap (λ (a : Bool). cond a (head_line count table) []) (eq-eqb from 0 e)))
      (laid_put 0 (head_line count table) text (omega (arith, l)) (head_few count table) (record { answers = p; leaves = q }))

  pub no_last : (at next visits scans : ℕ) → at + longest_line ≤ length text → (next ≡ visits → ⊥) → Put longest_line text at (cond (eqb next visits) (end_line scans) []) at text
  no_last at next visits scans l h =
      put_as (omega arith) (sym (ap (λ (a : Bool). cond a (end_line scans) []) (ne_eqb next visits h))) (put_none 0 text at (omega (arith, l)))

  pub a_last : (at next visits scans : ℕ) {end : ℕ} {after : List ℕ} → at + longest_line ≤ length text → next ≡ visits
      → end ≡ place_after at (end_line scans) text → after ≡ laid at (end_line scans) text
      → Put longest_line text at (cond (eqb next visits) (end_line scans) []) end after
  a_last at next visits scans l e p q =
      put_as (omega arith) (sym (ap (λ (a : Bool). cond a (end_line scans) []) (eq-eqb next visits e)))
      (laid_put at (end_line scans) text l (last_few scans) (record { answers = p; leaves = q }))

-- ---- a file that was checked before
module _ {ws : List ℕ} {f : OpenedFile} {state : List ℕ} {from : ℕ} (p : Ready ws f state from) where
  sound : SoundFile ws false
  sound = (accepts_files ws false).0 p.accepted

  abbrev net : Network
  net = (file_in ws).network

  -- what the file's record holds
  count_is : f.network.count ≡ block_count net
  count_is = ap (λ (x : OpenedFile). x.network.count) p.opened ∙ ap block_count (sym (network_is ws))

  words_is : f.words ≡ table_words (file_in ws)
  words_is = ap (λ (x : OpenedFile). x.words) p.opened

  scans_is : f.scans ≡ (file_in ws).run
  scans_is = ap (λ (x : OpenedFile). x.scans) p.opened

  pub words_small : f.words ≤ 65535
  words_small = let z = sound.file.network.areas in omega (arith, words_is, z.coils, z.discretes, z.inputs, z.holding)

  module _ {count all : ℕ} (c : count ≡ f.network.count) (a : all ≡ f.scans * count) where
    same_count : count ≡ block_count net
    same_count = c ∙ count_is

    pub few_blocks : count ≤ 128
    few_blocks = omega (arith, same_count, sound.file.network.few)

    pub same_visits : all ≡ visit_count (file_in ws)
    same_visits = a ∙ ap₂ ◌*◌ scans_is same_count

    -- no file has more visits than 1000 for each block
    pub visits_few : f.scans * count ≤ count * 1000
    visits_few = omega (arith, mul-le-mul_right {m = f.scans} {n = 1000} count (omega (arith, scans_is, sound.file.run_high)))

    -- some visits are made of some blocks
    pub is_ahead : {plan : List Step} {labels text : List ℕ} {at : ℕ} → from < all → at + longest_line ≤ length text → plan ≡ plan_put ws f.network no_steps
        → ((k : ℕ) → k < count → get_or labels k 0 ≡ label_of (k + 1)) → length labels ≡ 128 → Ahead net count f.words plan labels state from all text at
    is_ahead l room q labels long = record {
      good = sound.file.network;
      counted = same_count;
      some = omega (arith, l, a, visits_few);
      sized = words_is;
      exact = p.exact;
      high = omega (arith, l);
      scans = omega (arith, a, visits_few);
      room = room;
      plan_is =
          q
          ∙ plan_read ws f.network (ap (λ (x : OpenedFile). x.network) p.opened) (front_fine ws false p.accepted)
          (subst (λ (n : Network). block_count n ≤ 128) (network_is ws) sound.file.network.few)
          ∙ ap plan_of (sym (network_is ws));
      labels_are = labels;
      labels_long = long;
    }

-- ---- the call of a file that was checked before
module _ {ws : List ℕ} {f : OpenedFile} {state : List ℕ} {from : ℕ} {text : List ℕ} (p : Taken ws f state from text)
    {count i : ℕ} {one : List ℕ} (c : count ≡ f.network.count) (x : Put longest_line text 0 (cond (eqb from 0) (head_line count f.words) []) i one) where
  pub after_first : i + longest_line ≤ length one
  after_first = omega (arith, p.enough, x.few, x.reaches, put_long x)

  first_is : cond (eqb from 0) (head_line count f.words) [] ≡ first_line (file_in ws) from
  first_is h = cond (eqb from 0) (head_line ((c ∙ count_is p.ready) h) (words_is p.ready h)) []

  -- the visits that the code makes are those that the definition says
  as_many : fit (file_in ws).network state from (visit_count (file_in ws)) one i ≡ many (file_in ws) state from (length text)
  as_many =
      let placed : i ≡ length (first_line (file_in ws) from) = omega (arith, x.reaches, ap length first_is) in
      let room : length one - longest_line - i ≡ length text - longest_line - length (first_line (file_in ws) from) =
      ap₂ (λ (n k : ℕ). n - longest_line - k) (put_long x) placed in
      ap (fitting (file_in ws).network from (visit_count (file_in ws) - from) state) room

  pub all_done : {visits k : ℕ} {two three left : List ℕ} {r : Reached} {next : ℕ} → visits ≡ f.scans * count
      → Made (file_in ws).network state from (visit_count (file_in ws)) one i r left two
      → Put longest_line two r.at (cond (eqb r.visit visits) (end_line f.scans) []) k three
      → next ≡ cond (eqb r.visit visits) (r.visit + 1) r.visit → Done ws state from text (record { next = next; bytes = k }) left three
  unfolding run_lines
  all_done {visits} {k} {two} {three} {left} {r} v y z n =
      let all = put_front (put_then (put_then x y.puts) z) in
      let reached : r.visit ≡ from + many (file_in ws) state from (length text) = y.reaches ∙ ap (λ (m : ℕ). from + m) as_many in
      let visits_are : visits ≡ visit_count (file_in ws) = same_visits p.ready c v in
      let same : cond (eqb from 0) (head_line count f.words) [] ++ visits_lines (file_in ws).network from (fit (file_in ws).network state from (visit_count (file_in ws)) one i) state ++ cond (eqb r.visit visits) (end_line f.scans) []
      ≡ page ws state from (length text) =
      λ h. first_is h ++ visits_lines (file_in ws).network from (as_many h) state ++ cond (eqb (reached h) (visits_are h)) (end_line (scans_is p.ready h)) [] in
      record {
        goes_on = n ∙ ap₂ (λ (m v : ℕ). cond (eqb m v) (m + 1) m) reached visits_are;
        counted = all.0 ∙ ap length same;
        leaves = y.leaves ∙ ap (λ (m : ℕ). visits_state (file_in ws).network from m state) as_many;
        puts = all.1 ∙ ap (λ (l : List ℕ). l ++ drop (length l) text) same;
      }

-- ---- the answer
module _ (ws state : List ℕ) (from : ℕ) (text : List ℕ) where
  abbrev pub Answers : Result Page Refusal → List ℕ → List ℕ → Type 0
  Answers r left after = (went_from from r ≡ run_went ws state from (length text)) × (left ≡ run_state ws state from (length text)) × (after ≡ run_text ws state from text)

  abbrev then : ℕ
  then = next_visit (file_in ws) (from + many (file_in ws) state from (length text))

  refused : (r : Refusal) → run_verdict ws (length state) from (length text) ≡ verdict (number_of r.fault) r.place → Answers (Err r) state text
  unfolding run_went run_state run_text
  refused r e =
      let no = ne_eqb (run_verdict ws (length state) from (length text)).number 0 (λ q. no_zero r.fault (sym (ap (λ (x : Verdict). x.number) e) ∙ q)) in (
        sym
            (ap (λ (a : Bool). cond a (went done then (length (page ws state from (length text)))) (went (run_verdict ws (length state) from (length text)) from 0)) no
            ∙ ap (λ (x : Verdict). went x from 0) e),
        sym (ap (λ (a : Bool). cond a (visits_state (file_in ws).network from (many (file_in ws) state from (length text)) state) state) no),
        sym (ap (λ (a : Bool). cond a (page ws state from (length text) ++ drop (length (page ws state from (length text))) text) text) no),
      )

  module _ (r : Refusal) (e : numbered (Err r) ≡ opened_file ws false) where
    checked_is : file_checked ws false ≡ verdict (number_of r.fault) r.place
    checked_is = refused_is r (file_checked ws false) (opened_file_value ws) e

    pub bad_file : Answers (Err r) state text
    bad_file =
        refused r
        (by_tests ws (length state) from (length text) false _ _ _
        (ne_eqb (file_checked ws false).number 0 (λ q. no_zero r.fault (sym (ap (λ (x : Verdict). x.number) checked_is) ∙ q))) refl refl refl ∙ checked_is)

  module _ (f : OpenedFile) (e : numbered (Ok f) ≡ opened_file ws false) where
    checked_done : file_checked ws false ≡ done
    checked_done = done_is f (file_checked ws false) (opened_file_value ws) e

    zero_number : (file_checked ws false).number ≡ 0
    zero_number = ap (λ (x : Verdict). x.number) checked_done

    fine : eqb (file_checked ws false).number 0 ≡ true
    fine = eq-eqb (file_checked ws false).number 0 zero_number

    j : f ≡ opened_file_value ws
    j = value_is f (file_checked ws false) (opened_file_value ws) e

    file_sound : SoundFile ws false
    file_sound = (accepts_files ws false).0 zero_number

    scans_most : f.scans ≤ 1000
    scans_most = omega (arith, ap (λ (x : OpenedFile). x.scans) j, file_sound.file.run_high)

    module _ {count : ℕ} (counted : count ≡ f.network.count) where
      blocks_are : count ≡ block_count (file_in ws).network
      blocks_are = counted ∙ ap (λ (x : OpenedFile). x.network.count) j ∙ ap block_count (sym (network_is ws))

      pub visits_small : f.scans * count ≤ 128000
      visits_small = omega (arith, mul-le-mul_right {m = f.scans} {n = 1000} count scans_most, blocks_are, file_sound.file.network.few)

      pub state_small : f.words + count ≤ 100000
      state_small =
          let g = file_sound.file.network in
          omega (arith, ap (λ (x : OpenedFile). x.words) j, blocks_are, g.few, g.areas.coils, g.areas.discretes, g.areas.inputs, g.areas.holding)

      same_words : f.words + count ≡ state_words (file_in ws)
      same_words = ap₂ ◌+◌ (ap (λ (x : OpenedFile). x.words) j) blocks_are

      visits_are : f.scans * count ≡ visit_count (file_in ws)
      visits_are = ap₂ ◌*◌ (ap (λ (x : OpenedFile). x.scans) j) blocks_are

      -- a state, a visit or a buffer that does not do
      abbrev Short : Type 0
      Short =
          (length state ≡ f.words + count → ⊥)
          ⊎ (((length state ≡ f.words + count) × (f.scans * count < from)) ⊎ ((length state ≡ f.words + count) × (from ≤ f.scans * count) × (length text < least_room)))

      tests : (a b d : Bool) → ((a ≡ false) ⊎ ((b ≡ false) ⊎ (d ≡ false))) → cond (a && (b && d)) done (verdict 12 0) ≡ verdict 12 0
      tests false b d q = refl
      tests true false d q = refl
      tests true true false q = refl
      tests true true true q = absurd (⊎_elim (λ e. false≢true (sym e)) (λ u. ⊎_elim (λ e. false≢true (sym e)) (λ e. false≢true (sym e)) u) q)

      pub bad_call : Short → Answers (Err (refusal Call 0)) state text
      bad_call h =
          refused (refusal Call 0)
          (by_tests ws (length state) from (length text) true _ _ _ fine refl refl refl
          ∙ tests (eqb (length state) (state_words (file_in ws))) (leb from (visit_count (file_in ws))) (leb least_room (length text))
          (⊎_elim
          (λ u. inl (ne_eqb (length state) (state_words (file_in ws)) (λ e. u (e ∙ sym same_words))))
          (λ u. inr (⊎_elim
          (λ v. inl (lt-leb from (visit_count (file_in ws)) (subst (λ (k : ℕ). k < from) visits_are v.1)))
          (λ v. inr (lt-leb least_room (length text) v.2)) u))
          h))

      module _ (exact : length state ≡ f.words + count) where
        long : eqb (length state) (state_words (file_in ws)) ≡ true
        long = eq-eqb (length state) (state_words (file_in ws)) (exact ∙ same_words)

        module _ (high : from ≤ f.scans * count) where
          in_file : from ≤ visit_count (file_in ws)
          in_file = subst (λ (k : ℕ). from ≤ k) visits_are high

          module _ (enough : least_room ≤ length text) where
            pub is_taken : Taken ws f state from text
            is_taken = record { ready = record { opened = j; accepted = zero_number; exact = exact ∙ same_words; high = in_file }; enough = enough }

            accepted : run_verdict ws (length state) from (length text) ≡ done
            accepted = by_tests ws (length state) from (length text) true true true true fine long (le-leb from (visit_count (file_in ws)) in_file) (le-leb least_room (length text) enough)

            pub answered : {r : Page} {left after : List ℕ} → Done ws state from text r left after → Answers (Ok r) left after
            unfolding run_went run_state run_text
            answered {r} d =
                let yes = ap (λ (x : Verdict). eqb x.number 0) accepted in (
                  (λ i. went done (d.goes_on i) (d.counted i))
                      ∙ sym (ap (λ (a : Bool). cond a (went done then (length (page ws state from (length text)))) (went (run_verdict ws (length state) from (length text)) from 0)) yes),
                  d.leaves ∙ sym (ap (λ (a : Bool). cond a (visits_state (file_in ws).network from (many (file_in ws) state from (length text)) state) state) yes),
                  d.puts ∙ sym (ap (λ (a : Bool). cond a (page ws state from (length text) ++ drop (length (page ws state from (length text))) text) text) yes),
                )
