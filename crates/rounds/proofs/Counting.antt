-- What a compare counts in a scan is what it examines, and the counts of a round that begins at the start add to 16n; carried to what the calls
-- leave and to what the bench prints. Assumes nothing.
use mathlib.Core.Path.{◌≡◌, refl, sym, ap, ap₂, ◌∙◌, subst}
use mathlib.Core.Bool.{Bool, true, false, cond}
use mathlib.Core.List.{List}
use mathlib.Core.Logic.{⊎_elim}
use mathlib.Core.Option.{Option, none, some}
use Prim.Native.Nat.{ℕ, ◌-◌, ◌*◌, ◌≤◌, ◌<◌}
use native.Mathlib.Omega.{arith}
use lib.ListN.{length, get_or}
use Rattle.search.specs.Search.{differing, first_differing}
use Rattle.words.specs.Words.{words_in, odd_byte}
use Rattle.record.specs.declared.Block.{Block}
use Rattle.table.specs.Table.{total, start_of}
use Rattle.network.specs.Network.{Network, block_of, block_count}
use Rattle.network.specs.Sound.{GoodNetwork}
use Rattle.network.specs.Check.{network_in}
use Rattle.network.proofs.Values.{accepted_good}
use Rattle.file.specs.File.{file_in}
use Rattle.rules.proofs.KindFacts.{Compared, accepted_means}
use Rattle.blocks.specs.declared.Power.{Power}
use Rattle.blocks.specs.declared.Outputs.{Outputs}
use Rattle.blocks.specs.Kind.{kind_of}
use Rattle.blocks.specs.View.{View, first_word}
use Rattle.blocks.specs.Effect.{Effect, idle, zeroed, starts_at, found, compare}
use Rattle.blocks.specs.Effect.Change.{stays}
use Rattle.blocks.specs.Work.{pointer_node, matrix_put, change_put, one_word, effect_on, block_outputs}
use Rattle.blocks.proofs.Written.{coils_spare_word}
use Rattle.scan.specs.Scans.{scans_table}
use Rattle.scan.proofs.Kept.{checks, exact_table, exact_after}
use Rattle.scan.proofs.Scanning.{after}
use Rattle.rounds.specs.Demand3.{visit, power_at, register_index, register_in, register_found, source_found, matrix_found, done_by, round_at}
use Rattle.rounds.specs.Found.{sought_from}
use Rattle.rounds.specs.Bench.{count_in}
use Rattle.rounds.specs.Counts.{count, examined, added, CountInScan, CountsAdd, CountInRecords, CountsInRecords, CountInNumbers, CountsInNumbers, CountsPrinted, PrintedCountsAdd}
use Rattle.rounds.proofs.Climb.{from, from_inside, from_end, round_some}
use Rattle.rounds.proofs.Visits.{own_output, put_there, some_words}
use Rattle.rounds.proofs.Demand3.{N, pointer, Same, one_count, turns_along}
use Rattle.rounds.proofs.Finding.{view_found, compares_by, starts_from}
use Rattle.rounds.proofs.Spending.{reach, a_round_spends}
use Rattle.rounds.proofs.Called.{in_turn_same, scanning, taken, records_show, numbers_taken, numbers_show}
use Rattle.rounds.proofs.Printed.{scanning as file_scanning, said_count, said_at, said_part, counted}

-- ---- what a search that starts somewhere makes of a compare
module _ (n : ℕ) (v : View) (start : ℕ) where
  reached : Option ℕ → ℕ
  reached none = 16 * n
  reached (some p) = p

  counts : (o : Option ℕ) → (found n v start o).count ≡ reached o - start
  unfolding found reached
  counts none = refl
  counts (some p) = refl

  leaves : (o : Option ℕ) → (found n v start o).pointer ≡ some (reached o)
  unfolding found reached
  leaves none = refl
  leaves (some p) = refl

  keeps : (o : Option ℕ) → (found n v start o).destination ≡ stays
  unfolding found
  keeps none = refl
  keeps (some p) = refl

-- ---- a compare in a scan
module _ (net : Network) (i : ℕ) (t : List ℕ) (G : GoodNetwork net) (long : length t ≡ total net.sizes) (there : i < block_count net) (compares : (block_of net i).kind ≡ 5) where
  abbrev b : Block
  b = block_of net i

  abbrev on : Power
  on = power_at net i t

  abbrev here : List ℕ
  here = (visit net i t).table

  abbrev v : View
  v = view_found net i t G there compares

  facts : Compared net.sizes b
  facts = (accepted_means net.sizes i b (G.blocks i there)).compare compares

  exact : length here ≡ total net.sizes
  unfolding after
  exact = exact_after net t G long i (omega (arith, there))

  after_coils : net.sizes.coils ≤ register_index net i
  unfolding start_of
  after_coils = subst (λ (c : ℕ). net.sizes.coils ≤ start_of net.sizes c b.middle.number) (sym facts.held) (omega arith)

  -- the pointer when it is done
  done_at : {e : Effect} {to : ℕ} → effect_on net b here on ≡ e → e.pointer ≡ some to → e.destination ≡ stays → register_in net i (done_by net i t) ≡ to
  unfolding kind_of matrix_put change_put
  done_at {e} {to} q ep ed =
      coils_spare_word net b here on i (record { good = G.blocks i there; exact = exact }) (register_index net i) after_coils
      ∙ ap₂ (λ (x : Effect) (k : ℕ). get_or (matrix_put (first_word net (pointer_node (kind_of k) b)) (one_word x.pointer) (change_put (register_index net i) b.n x.destination here)) (register_index net i) 0) q compares
      ∙ (λ h. get_or (matrix_put (register_index net i) (one_word (ep h)) (change_put (register_index net i) b.n (ed h) here)) (register_index net i) 0)
      ∙ put_there here (register_index net i) to (omega (arith, exact, facts.pointer_and_matrix))

  -- what it does, by the power on its top input
  abbrev chosen : Bool → Effect
  chosen a = cond a (found b.n v (starts_at b.n v on) (first_differing v.source v.destination b.n (starts_at b.n v on))) (idle (cond on.middle (some (zeroed b.n v on).at) none))

  does : {a : Bool} → on.top ≡ a → effect_on net b here on ≡ chosen a
  unfolding compare
  does e = compares_by net i t G there compares ∙ ap chosen e

  counts_as : {a : Bool} → on.top ≡ a → count net i t ≡ (chosen a).count
  unfolding block_outputs
  counts_as e = ap (λ (out : Outputs). out.count) (own_output net t i there) ∙ ap (λ (x : Effect). x.count) (does e)

  by_power : (a : Bool) → on.top ≡ a → count net i t ≡ examined net i t
  by_power true e =
      let start : ℕ = starts_at b.n v on in
      let o : Option ℕ = first_differing v.source v.destination b.n start in
      counts_as e
      ∙ counts b.n v start o
      ∙ ap₂ ◌-◌ (sym (done_at (does e) (leaves b.n v start o) (keeps b.n v start o))) (starts_from net i t G there compares)
      ∙ sym (ap (λ (a : Bool). cond a (register_in net i (done_by net i t) - sought_from net i t) 0) e)
  by_power false e = counts_as e ∙ sym (ap (λ (a : Bool). cond a (register_in net i (done_by net i t) - sought_from net i t) 0) e)

pub count_in_scan : CountInScan
count_in_scan net i t G long there compares = by_power net i t G long there compares (power_at net i t).top refl

-- ---- the counts of a round
pub counts_add : CountsAdd
unfolding N pointer Same
counts_add net i m given R S j l start =
    let a : List ℕ = source_found net i (given j) in
    let b : List ℕ = matrix_found net i (given j) in
    let n : ℕ = (block_of net i).n in
    let f : ℕ → Bool = differing a b in
    let q : ℕ = register_found net i (given j) in
    let low : 1 ≤ 16 * n = omega (arith, some_words R S) in
    ap added (turns_along R S f (λ s. count net i (given s)) (reach f (16 * n)) (one_count R S f) (round_at net i given j) j l (λ p low high. refl))
    ∙ a_round_spends a b n q (some_words R S) (⊎_elim (λ e. ap (from f (16 * n)) e ∙ from_inside f (16 * n) 0 low) (from_end f (16 * n) q) start)

-- ---- calls
pub count_in_records : CountInRecords
count_in_records ws i m lent left lists records answers K there compares j l =
    let fine = taken ws i m lent left lists records answers K j l in
    ap (λ (out : Outputs). out.count) (records_show ws i m lent left lists records answers K there j l)
    ∙ count_in_scan (network_in ws) i (lent j) (accepted_good ws (checks ws (lent j) (length (lists j)) fine)) (exact_table ws (lent j) (length (lists j)) fine) there compares

pub counts_in_records : CountsInRecords
counts_in_records ws i m lent left lists records answers K S j l start =
    let net : Network = network_in ws in
    let c = round_some (source_found net i (lent j)) (matrix_found net i (lent j)) (block_of net i).n in
    ap added (in_turn_same (λ s u. ap (λ (out : Outputs). out.count) (records_show ws i m lent left lists records answers K S.there s u)) (round_at net i lent j) j l)
    ∙ counts_add net i m lent (scanning ws m lent (λ k. length (lists k)) (taken ws i m lent left lists records answers K) (omega (arith, c))) S j l start

pub count_in_numbers : CountInNumbers
count_in_numbers ws i m lent left lists numbers answers K there compares j l =
    let fine = numbers_taken ws i m lent left lists numbers answers K j l in
    ap (λ (out : Outputs). out.count) (numbers_show ws i m lent left lists numbers answers K there j l)
    ∙ count_in_scan (network_in ws) i (lent j) (accepted_good ws (checks ws (lent j) (length (lists j)) fine)) (exact_table ws (lent j) (length (lists j)) fine) there compares

pub counts_in_numbers : CountsInNumbers
counts_in_numbers ws i m lent left lists numbers answers K S j l start =
    let net : Network = network_in ws in
    let c = round_some (source_found net i (lent j)) (matrix_found net i (lent j)) (block_of net i).n in
    ap added (in_turn_same (λ s u. ap (λ (out : Outputs). out.count) (numbers_show ws i m lent left lists numbers answers K S.there s u)) (round_at net i lent j) j l)
    ∙ counts_add net i m lent (scanning ws m lent (λ k. length (lists k)) (numbers_taken ws i m lent left lists numbers answers K) (omega (arith, c))) S j l start

-- ---- what the bench prints
pub counts_printed : CountsPrinted
counts_printed bytes fine i there =
    let ws : List ℕ = words_in bytes in
    let odd : Bool = odd_byte bytes in
    let given : ℕ → List ℕ = scans_table (file_in ws).network (file_in ws).image in
    record {
      for_each = said_count ws odd fine i there count_in;
      counts = said_at ws odd fine i there count_in (λ s. count (file_in ws).network i (given s)) (counted ws odd fine i there) 0;
    }

pub printed_counts_add : PrintedCountsAdd
printed_counts_add bytes fine i S j l start =
    let ws : List ℕ = words_in bytes in
    let odd : Bool = odd_byte bytes in
    let net : Network = (file_in ws).network in
    let given : ℕ → List ℕ = scans_table net (file_in ws).image in
    ap added (said_part ws odd fine i S.there count_in (λ s. count net i (given s)) (counted ws odd fine i S.there) (round_at net i given j) j l)
    ∙ counts_add net i (file_in ws).run given (file_scanning ws odd fine i) S j l start
