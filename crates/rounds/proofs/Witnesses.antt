-- Demand 3 at work, computed: networks that meet its premises, with what they report and count; and for each of its last premises a network
-- that meets the others and breaks the conclusion. Assumes nothing.
use mathlib.Core.Path.{◌≡◌, refl, sym, ap, subst}
use mathlib.Core.Bool.{true, xor}
use mathlib.Core.List.{List, [], ◌∷◌, flat_map}
use mathlib.Core.Logic.{inr}
use mathlib.Core.Option.{Option, none, some}
use Prim.Native.Nat.{ℕ, zero, suc, ◌+◌, ◌*◌, ◌≤◌, ◌<◌}
use native.Mathlib.Omega.{arith}
use lib.ListN.{length, take, drop}
use Rattle.bits.specs.Bit.{bit, value, matrix as matrix_of}
use Rattle.matrix.specs.Logic.{combined}
use Rattle.search.specs.Search.{first}
use Rattle.pointer.specs.Pointer.{reset, in_range}
use Rattle.record.specs.declared.Block.{Block}
use Rattle.table.specs.Table.{total, reference_fault, start_of}
use Rattle.level.specs.Level.{most_level}
use Rattle.areas.specs.Areas.{sizes_faults, areas_section}
use Rattle.rules.specs.Rules.{rule, allows}
use Rattle.record.specs.Record.{block_in, spelled}
use Rattle.network.specs.Network.{Network, words_of}
use Rattle.rules.specs.Fault.{faults}
use Rattle.section.specs.Walk.{seek}
use Rattle.section.specs.Section.{section_earns, earned, meaning, judged_from, whole, records_earn, records_in}
use Rattle.network.specs.Check.{block_faults, blocks_section, network_in, checked}
use Rattle.network.specs.Sound.{GoodNetwork}
use Rattle.network.proofs.Values.{accepted_good}
use Rattle.blocks.specs.Kind.{kind_of}
use Rattle.blocks.specs.Work.{block_outputs, block_table}
use Rattle.inputs.specs.Input.{passes}
use Rattle.scan.specs.Scan.{step, steps, scanned}
use Rattle.scan.specs.Scans.{pointer_of, scans_table}
use Rattle.text.specs.Text.{places, digits, decimal, pointer_field, line, head_line, end_line, refusal_line}
use Rattle.run.specs.Visits.{visited, visit_line, visits_state, visits_lines}
use Rattle.run.specs.Bench.{file_text, words_text, bench_text}
use Rattle.scan.proofs.Repeating.{table_next}
use Rattle.words.specs.Words.{words_from, words_in, odd_byte}
use Rattle.file.specs.File.{File, image_section, run_section, file_in, file_checked}
use Rattle.rounds.specs.Demand3.{above, visit, source_in, matrix_in, register_in, source_found, matrix_found, after_step, report, SameBits, in_turn, how_often, nones, SourceLeavesOut, NothingElse, Premises, Steady, Scanning, round_at, RoundAt}
use Rattle.rounds.specs.Tests.{all_outside, Chain}
use Rattle.rounds.specs.Bench.{report_in, count_in, text_says, ShowsRounds}
use Rattle.rounds.specs.Counts.{count, added, adds_to}
use Rattle.rounds.proofs.Climb.{round_means}
use Rattle.rounds.proofs.Chained.{chain_is_steady}
use Rattle.rounds.proofs.Demand3.{demand_3}
use Rattle.rounds.proofs.Printed.{demand_3_bench}

-- ---- a network that its words spell, and that the checker takes
unfoldable spelt : Network → Network × ℕ
unfolding words_of flat_map spelled network_in meaning records_in block_in
    checked whole judged_from earned section_earns records_earn areas_section sizes_faults blocks_section block_faults seek faults reference_fault rule allows
spelt net = (network_in (words_of true net), (checked (words_of true net)).number)

taken : (net : Network) → spelt net ≡ (net, 0) → GoodNetwork net
unfolding spelt
taken net e = subst GoodNetwork (ap (λ (p : Network × ℕ). p.0) e) (accepted_good (words_of true net) (ap (λ (p : Network × ℕ). p.1) e))

-- ---- scans of one table, each of what the one before left
unfoldable pub onward : Network → List ℕ → ℕ → List ℕ
onward net t zero = t
onward net t (suc j) = (scanned net (onward net t j)).table

-- a network at a level, of so many words of coils and of holding registers
abbrev network : ℕ → ℕ → ℕ → List Block → Network
network level coils holding blocks =
    record { sizes = record { coils = coils; discretes = 0; inputs = 0; holding = holding; level = level }; blocks = blocks }

-- a block of one word with power on top: its kind, the class and the number of its top node, its middle register, its middle coil
abbrev block : ℕ → ℕ → ℕ → ℕ → ℕ → Block
block kind class top middle coil = record {
  kind = kind;
  n = 1;
  top = record { class = class; number = top };
  middle = record { class = 4; number = middle };
  inputs = record { top = record { code = 1; number = 0 }; middle = record { code = 0; number = 0 }; bottom = record { code = 0; number = 0 } };
  coils = record { top = 0; middle = coil; bottom = 0 };
}

-- a network of three holding registers; a block on registers without coils
abbrev registers : List Block → Network
registers = network 1 0 3

abbrev plain : ℕ → ℕ → ℕ → Block
plain kind top middle = block kind 4 top middle 0

-- the network of the bench's example at a level: 40001 against 40003, with pointer 40002
abbrev pub bench_at : ℕ → Network
bench_at level = network level 0 3 (plain 5 1 2 ∷ [])

abbrev pub bench : Network
bench = bench_at 1

bench_taken : (level : ℕ) → 1 ≤ level → level ≤ most_level → GoodNetwork (bench_at level)
unfolding spelt
bench_taken zero l u = absurd (omega arith)
bench_taken (suc zero) l u = taken (bench_at 1) refl
bench_taken (suc (suc zero)) l u = taken (bench_at 2) refl
bench_taken (suc (suc (suc level))) l u = absurd (omega arith)

-- the premises hold at both levels, whatever the three registers are
pub bench_chain : (level : ℕ) → 1 ≤ level → level ≤ most_level → (a p b m : ℕ) → Chain (bench_at level) 0 m (onward (bench_at level) (a ∷ p ∷ b ∷ []))
unfolding onward all_outside passes start_of
bench_chain level l u a p b m = record {
  accepted = bench_taken level l u;
  there = omega arith;
  compares = refl;
  first_size = refl;
  goes_on = λ j l. refl;
  powered = λ j l. refl;
  not_reset = λ j l. refl;
  source_leaves_out = refl;
  others_outside = refl;
}

-- what k of its scans report, from scan j on
abbrev reported : Network → (ℕ → List ℕ) → ℕ → ℕ → List (Option ℕ)
reported net given j k = in_turn (λ s. report net 0 (given s)) j k

-- so every round of it is one, from any pointer
pub bench_round : (level : ℕ) → 1 ≤ level → level ≤ most_level → (a p b j : ℕ) → let net = bench_at level in let given = onward net (a ∷ p ∷ b ∷ []) in
    RoundAt net 0 given j (reported net given j (round_at net 0 given j))
bench_round level l u a p b j =
    let net : Network = bench_at level in
    let given : ℕ → List ℕ = onward net (a ∷ p ∷ b ∷ []) in
    let m : ℕ = j + round_at net 0 given j in
    let met = chain_is_steady net 0 m given (bench_chain level l u a p b m) in
    demand_3 net 0 m given met.0 met.1 j (omega arith)

abbrev first_reports : ℕ → List ℕ → ℕ → List (Option ℕ)
first_reports level t k = reported (bench_at level) (onward (bench_at level) t) 0 k

-- the example's four scans, at any level: the last bit differs, so a round is 1, 16; a last bit that agrees: 2, none; no difference:
-- none; a pointer past the end
pub bench_reports : (level : ℕ) →
    ◌≡◌ {A = List (List (Option ℕ))}
    (first_reports level (32769 ∷ 0 ∷ 0 ∷ []) 4 ∷ first_reports level (0 ∷ 0 ∷ 0x4000 ∷ []) 4 ∷ first_reports level (5 ∷ 9 ∷ 5 ∷ []) 2 ∷ first_reports level (32769 ∷ 65535 ∷ 0 ∷ []) 3 ∷ [])
    ((some 1 ∷ some 16 ∷ some 1 ∷ some 16 ∷ [])
    ∷ (some 2 ∷ none ∷ some 2 ∷ none ∷ [])
    ∷ (none ∷ none ∷ [])
    ∷ (some 1 ∷ some 16 ∷ some 1 ∷ [])
    ∷ [])
unfolding onward in_turn step steps passes block_table block_outputs first reset in_range start_of matrix_of value bit xor
bench_reports level = refl

-- and count: 1 and 15, 2 and 14; all 16 where nothing differs, and from pointer 9 what is left; from a pointer past the end as from 0
abbrev first_counts : ℕ → List ℕ → ℕ → List ℕ
first_counts level t k = in_turn (λ s. count (bench_at level) 0 (onward (bench_at level) t s)) 0 k

pub bench_counts : (level : ℕ) →
    ◌≡◌ {A = List (List ℕ)}
    (first_counts level (32769 ∷ 0 ∷ 0 ∷ []) 4 ∷ first_counts level (0 ∷ 0 ∷ 0x4000 ∷ []) 4 ∷ first_counts level (5 ∷ 9 ∷ 5 ∷ []) 2 ∷ first_counts level (32769 ∷ 65535 ∷ 0 ∷ []) 3 ∷ [])
    ((1 ∷ 15 ∷ 1 ∷ 15 ∷ []) ∷ (2 ∷ 14 ∷ 2 ∷ 14 ∷ []) ∷ (7 ∷ 16 ∷ []) ∷ (1 ∷ 15 ∷ 1 ∷ []) ∷ [])
unfolding onward in_turn step steps passes block_table block_outputs first reset in_range start_of matrix_of value bit xor
bench_counts level = refl

-- ---- what the last premises are for

-- the counts of a round add to 16n from pointer 0 or from 16n on: from pointer 5 those of the example's network add to 12
pub start_must_be_zero : let given = onward bench (32769 ∷ 5 ∷ 0 ∷ []) in
    Scanning bench 2 given × Steady bench 0 2 given × (adds_to (λ s. count bench 0 (given s)) 0 (round_at bench 0 given 0) ≡ 16 * 1 → ⊥)
unfolding onward in_turn step steps passes block_table block_outputs first reset in_range start_of matrix_of value bit xor
    above added
start_must_be_zero =
    let met = chain_is_steady bench 0 2 (onward bench (32769 ∷ 5 ∷ 0 ∷ [])) (bench_chain 1 (omega arith) (omega arith) 32769 5 0 2) in
    (met.0, met.1, (λ e. let q : ◌≡◌ {A = ℕ} 12 16 = e in omega arith))

-- a statement on the numbers below 2, and below 3, from its cases
below_two : (P : ℕ → Type 0) → P 0 → P 1 → (j : ℕ) → j < 2 → P j
below_two P a b zero l = a
below_two P a b (suc zero) l = b
below_two P a b (suc (suc j)) l = absurd (omega arith)

below_three : (P : ℕ → Type 0) → P 0 → P 1 → P 2 → (j : ℕ) → j < 3 → P j
below_three P a b c zero l = a
below_three P a b c (suc zero) l = b
below_three P a b c (suc (suc zero)) l = c
below_three P a b c (suc (suc (suc j))) l = absurd (omega arith)

-- the source leaves out the pointer: here it is the pointer, 40002 against 40003. Nothing else changes it; but in the two scans
-- after the first, a round by then, no scan reports no miscompare.
abbrev own_source : Network
own_source = registers (plain 5 2 2 ∷ [])

abbrev own_tables : ℕ → List ℕ
own_tables = onward own_source (0 ∷ 0 ∷ 0 ∷ [])

pub source_must_leave_out :
    Scanning own_source 3 own_tables × Premises Unit (NothingElse own_source 0 3 own_tables) own_source 0 3 own_tables × (RoundAt own_source 0 own_tables 1 (reported own_source own_tables 1 (round_at own_source 0 own_tables 1)) → ⊥)
unfolding onward in_turn step steps passes block_table block_outputs first reset in_range start_of matrix_of value bit xor spelt
    above nones
source_must_leave_out = (
  record { accepted = taken own_source refl; right_size = below_three (λ j. length (own_tables j) ≡ total own_source.sizes) refl refl refl },
  record {
    there = omega arith;
    compares = refl;
    powered = λ j l. refl;
    not_reset = λ j l. refl;
    source_leaves_out = tt;
    nothing_else = record {
      source_stays = λ j l. below_two (λ j. SameBits 1 (source_found own_source 0 (own_tables (suc j))) (source_in own_source 0 (after_step own_source 0 (own_tables j)))) (λ p l u. refl) (λ p l u. refl) j (omega arith);
      matrix_stays = λ j l. below_two (λ j. SameBits 1 (matrix_found own_source 0 (own_tables (suc j))) (matrix_in own_source 0 (after_step own_source 0 (own_tables j)))) (λ p l u. refl) (λ p l u. refl) j (omega arith);
      pointer_stays = λ j l. below_two (λ j. register_in own_source 0 (visit own_source 0 (own_tables (suc j))).table ≡ register_in own_source 0 (after_step own_source 0 (own_tables j))) refl refl j (omega arith);
    };
  },
  (λ r. let e : ◌≡◌ {A = ℕ} 0 1 = (round_means _ _ 1 _ r).none_reported in omega arith),
)

-- nothing else changes: here COMP turns the matrix over in every scan, so that bit 2 is reported, at which the two did not differ
abbrev turned_over : Network
turned_over = registers (plain 5 1 2 ∷ plain 4 3 3 ∷ [])

abbrev turned_tables : ℕ → List ℕ
turned_tables = onward turned_over (0x8001 ∷ 0 ∷ 0 ∷ [])

pub nothing_else_must_change :
    Scanning turned_over 2 turned_tables × Premises (SourceLeavesOut turned_over 0) Unit turned_over 0 2 turned_tables × (RoundAt turned_over 0 turned_tables 0 (reported turned_over turned_tables 0 (round_at turned_over 0 turned_tables 0)) → ⊥)
unfolding onward in_turn step steps passes block_table block_outputs first combined reset in_range start_of matrix_of value bit xor spelt
    above how_often
nothing_else_must_change = (
  record { accepted = taken turned_over refl; right_size = below_two (λ j. length (turned_tables j) ≡ total turned_over.sizes) refl refl },
  record {
    there = omega arith;
    compares = refl;
    powered = λ j l. refl;
    not_reset = λ j l. refl;
    source_leaves_out = inr (omega arith);
    nothing_else = tt;
  },
  (λ r. let e : ◌≡◌ {A = ℕ} 1 0 = (round_means _ _ 1 _ r).no_other 2 (omega arith) (omega arith) refl in omega arith),
)

-- the block's own coils included: a network of this block alone, whose middle coil, 00005, lies in its source, coils 1 to 16. It
-- reports 1 and then 5, and never that there is no miscompare.
abbrev own_coil : Network
own_coil = network 1 1 2 (block 5 0 1 1 5 ∷ [])

abbrev coil_tables : ℕ → List ℕ
coil_tables = onward own_coil (0x8000 ∷ 0 ∷ 0 ∷ [])

pub own_coils_included :
    Scanning own_coil 2 coil_tables × Premises (SourceLeavesOut own_coil 0) Unit own_coil 0 2 coil_tables × (RoundAt own_coil 0 coil_tables 0 (reported own_coil coil_tables 0 (round_at own_coil 0 coil_tables 0)) → ⊥)
unfolding onward in_turn step steps passes block_table block_outputs first reset in_range start_of matrix_of value bit xor spelt
    above nones
own_coils_included = (
  record { accepted = taken own_coil refl; right_size = below_two (λ j. length (coil_tables j) ≡ total own_coil.sizes) refl refl },
  record {
    there = omega arith;
    compares = refl;
    powered = λ j l. refl;
    not_reset = λ j l. refl;
    source_leaves_out = inr (omega arith);
    nothing_else = tt;
  },
  (λ r. let e : ◌≡◌ {A = ℕ} 0 1 = (round_means _ _ 1 _ r).none_reported in omega arith),
)

-- ---- document 01's example, for what the bench prints

-- its bytes, and the file that they spell
abbrev pub example_bytes : List ℕ
example_bytes =
    0 ∷ 4 ∷ 0 ∷ 0 ∷ 0 ∷ 0 ∷ 0 ∷ 0 ∷ 0 ∷ 3 ∷ 0 ∷ 1 ∷ 0 ∷ 5 ∷ 0 ∷ 1 ∷ 0 ∷ 4
    ∷ 0 ∷ 1 ∷ 0 ∷ 4 ∷ 0 ∷ 2 ∷ 0 ∷ 1 ∷ 0 ∷ 0 ∷ 0 ∷ 0 ∷ 0 ∷ 0 ∷ 0 ∷ 0 ∷ 0 ∷ 0
    ∷ 0 ∷ 0 ∷ 0 ∷ 0 ∷ 0 ∷ 0 ∷ 0 ∷ 3 ∷ 128 ∷ 1 ∷ 0 ∷ 0 ∷ 0 ∷ 0 ∷ 0 ∷ 1 ∷ 0 ∷ 4 ∷ []

abbrev example_file : File
example_file = record { network = bench; image = 32769 ∷ 0 ∷ 0 ∷ []; run = 4 }

unfoldable read_as : List ℕ → File × ℕ
unfolding words_from file_in file_checked whole judged_from earned meaning section_earns image_section run_section areas_section sizes_faults blocks_section records_earn
    records_in block_faults seek faults reference_fault rule allows block_in
read_as bytes = (file_in (words_in bytes), (file_checked (words_in bytes) (odd_byte bytes)).number)

example_is : read_as example_bytes ≡ (example_file, 0)
unfolding read_as
example_is = refl

-- its compare meets the premises over its scans
example_chain : Chain bench 0 4 (scans_table bench (32769 ∷ 0 ∷ 0 ∷ []))
unfolding scans_table all_outside passes start_of spelt
example_chain = record {
  accepted = taken bench refl;
  there = omega arith;
  compares = refl;
  first_size = refl;
  goes_on = λ j l. table_next bench j (32769 ∷ 0 ∷ 0 ∷ []);
  powered = λ j l. refl;
  not_reset = λ j l. refl;
  source_leaves_out = refl;
  others_outside = refl;
}

-- so that its lines show rounds
pub example_shows : ShowsRounds example_bytes 0
unfolding read_as
example_shows =
    demand_3_bench example_bytes (ap (λ (p : File × ℕ). p.1) example_is) 0
    (subst (λ (f : File). Steady f.network 0 f.run (scans_table f.network f.image)) (sym (ap (λ (p : File × ℕ). p.0) example_is))
    (chain_is_steady bench 0 4 (scans_table bench (32769 ∷ 0 ∷ 0 ∷ [])) example_chain).1)

-- what document 01's six lines say of block 1, and of block 2, which is not there
abbrev pub example_text : List ℕ
example_text =
    98 ∷ 108 ∷ 111 ∷ 99 ∷ 107 ∷ 115 ∷ 32 ∷ 49 ∷ 32 ∷ 119 ∷ 111 ∷ 114 ∷ 100 ∷ 115 ∷ 32 ∷ 51 ∷ 10 ∷ 49
    ∷ 32 ∷ 49 ∷ 32 ∷ 49 ∷ 32 ∷ 49 ∷ 32 ∷ 49 ∷ 32 ∷ 49 ∷ 32 ∷ 49 ∷ 10 ∷ 50 ∷ 32 ∷ 49 ∷ 32 ∷ 49
    ∷ 32 ∷ 49 ∷ 32 ∷ 49 ∷ 32 ∷ 49 ∷ 54 ∷ 32 ∷ 49 ∷ 53 ∷ 10 ∷ 51 ∷ 32 ∷ 49 ∷ 32 ∷ 49 ∷ 32 ∷ 49
    ∷ 32 ∷ 49 ∷ 32 ∷ 49 ∷ 32 ∷ 49 ∷ 10 ∷ 52 ∷ 32 ∷ 49 ∷ 32 ∷ 49 ∷ 32 ∷ 49 ∷ 32 ∷ 49 ∷ 32 ∷ 49
    ∷ 54 ∷ 32 ∷ 49 ∷ 53 ∷ 10 ∷ 101 ∷ 110 ∷ 100 ∷ 32 ∷ 52 ∷ 10 ∷ []

pub example_says :
    ◌≡◌ {A = List (List (Option ℕ))} (text_says report_in 1 example_text ∷ text_says report_in 2 example_text ∷ []) ((some 1 ∷ some 16 ∷ some 1 ∷ some 16 ∷ []) ∷ [] ∷ [])
unfolding text_says flat_map
example_says = refl

pub example_counts : ◌≡◌ {A = List (List ℕ)} (text_says count_in 1 example_text ∷ text_says count_in 2 example_text ∷ []) ((1 ∷ 15 ∷ 1 ∷ 15 ∷ []) ∷ [] ∷ [])
unfolding text_says flat_map
example_counts = refl

-- and these are the lines that its bytes print
pub example_prints : bench_text example_bytes ≡ example_text
unfolding read_as words_text file_text visits_lines visits_state visit_line visited line pointer_field head_line end_line refusal_line decimal digits places
    pointer_of kind_of passes block_table block_outputs first reset in_range start_of matrix_of value bit xor
example_prints = refl

-- so that the counts of its two rounds add to 16 each
pub example_counts_add :
    (added (take 2 (text_says count_in 1 (bench_text example_bytes))) ≡ 16) × (added (take 2 (drop 2 (text_says count_in 1 (bench_text example_bytes)))) ≡ 16)
unfolding text_says flat_map added
example_counts_add = (
  ap (λ (text : List ℕ). added (take 2 (text_says count_in 1 text))) example_prints,
  ap (λ (text : List ℕ). added (take 2 (drop 2 (text_says count_in 1 text)))) example_prints,
)

-- the same compare on a Level 2 machine: count 5, and level 2 after the sizes
abbrev pub example_at_two : List ℕ
example_at_two =
    0 ∷ 5 ∷ 0 ∷ 0 ∷ 0 ∷ 0 ∷ 0 ∷ 0 ∷ 0 ∷ 3 ∷ 0 ∷ 2 ∷ 0 ∷ 1 ∷ 0 ∷ 5 ∷ 0 ∷ 1 ∷ 0 ∷ 4
    ∷ 0 ∷ 1 ∷ 0 ∷ 4 ∷ 0 ∷ 2 ∷ 0 ∷ 1 ∷ 0 ∷ 0 ∷ 0 ∷ 0 ∷ 0 ∷ 0 ∷ 0 ∷ 0 ∷ 0 ∷ 0
    ∷ 0 ∷ 0 ∷ 0 ∷ 0 ∷ 0 ∷ 0 ∷ 0 ∷ 3 ∷ 128 ∷ 1 ∷ 0 ∷ 0 ∷ 0 ∷ 0 ∷ 0 ∷ 1 ∷ 0 ∷ 4 ∷ []

pub two_prints : bench_text example_at_two ≡ example_text
unfolding read_as words_text file_text visits_lines visits_state visit_line visited line pointer_field head_line end_line refusal_line decimal digits places
    pointer_of kind_of passes block_table block_outputs first reset in_range start_of matrix_of value bit xor
two_prints = refl
