-- What a compare counts (document 02, ticket 3): in a scan, for the calls, and for what the bench prints; and that under demand 3's premises,
-- from pointer 0 or a pointer of 16n or more, the c counts of a round add to exactly 16n. Assumes nothing.
use Rattle.std.specs.Prelude.{ℕ, ◌+◌, ◌-◌, ◌*◌, ◌≤◌, ◌<◌, ◌≡◌, cond, List, [], ◌∷◌, map, ◌⊎◌, length, get_or, take, drop}
use Rattle.verdict.specs.Lists.{Words, Table, Bytes}
use Rattle.verdict.specs.Verdict.{Verdict}
use Rattle.table.specs.Table.{total}
use Rattle.network.specs.Network.{Network, block_of, block_count}
use Rattle.network.specs.Sound.{GoodNetwork}
use Rattle.network.specs.Check.{network_in}
use Rattle.blocks.specs.declared.Outputs.{Outputs}
use Rattle.blocks.specs.Answer.{no_outputs}
use Rattle.blocks.specs.Packed.{unpacked}
use Rattle.words.specs.Words.{words_in, odd_byte}
use Rattle.file.specs.File.{file_in, file_checked}
use Rattle.scan.specs.Scan.{scanned}
use Rattle.scan.specs.Scans.{scans_table}
use Rattle.run.specs.Bench.{bench_text}
use Rattle.rounds.specs.Demand3.{power_at, register_in, register_found, done_by, Steady, Scanning, in_turn, round_at}
use Rattle.rounds.specs.Found.{sought_from}
use Rattle.rounds.specs.Calls.{RecordCalls, PackedCalls}
use Rattle.rounds.specs.Bench.{count_in, text_says}

-- ---- block i + 1 of a network, in a scan of a table

-- what the scan counts of the block, among its outputs
abbrev pub count : Network → ℕ → Table → ℕ
count net i t = (get_or (scanned net t).outs i no_outputs).count

-- with power the position reached, which is the pointer when the block is done, less the pointer it started from after reset or wrap; without
-- power 0
abbrev pub examined : Network → ℕ → Table → ℕ
examined net i t = cond (power_at net i t).top (register_in net i (done_by net i t) - sought_from net i t) 0

-- a compare's count is that
abbrev pub CountInScan : Type 0
CountInScan =
    (net : Network) (i : ℕ) (t : Table) → GoodNetwork net → length t ≡ total net.sizes → i < block_count net → (block_of net i).kind ≡ 5 →
    count net i t ≡ examined net i t

-- ---- the counts of a round

unfoldable pub added : List ℕ → ℕ
added [] = 0
added (x ∷ l) = x + added l

-- the block finds pointer 0, or a pointer of 16n or more
abbrev pub AtStart : Network → ℕ → Table → Type 0
AtStart net i t = (register_found net i t ≡ 0) ⊎ (16 * (block_of net i).n ≤ register_found net i t)

-- what k successive scans count, from scan j on, added
abbrev pub adds_to : (ℕ → ℕ) → ℕ → ℕ → ℕ
adds_to counts j k = added (in_turn counts j k)

abbrev pub CountsAdd : Type 0
CountsAdd =
    (net : Network) (i m : ℕ) (given : ℕ → Table) → Scanning net m given → Steady net i m given → (j : ℕ) → j + round_at net i given j ≤ m →
    AtStart net i (given j) → adds_to (λ s. count net i (given s)) j (round_at net i given j) ≡ 16 * (block_of net i).n

-- ---- m calls of `scan`: the block's entry in the list of records
abbrev pub CountInRecords : Type 0
CountInRecords =
    (ws : Words) (i m : ℕ) (lent left : ℕ → Table) (lists records : ℕ → List Outputs) (answers : ℕ → Verdict) →
    RecordCalls ws m lent left lists records answers → let net = network_in ws in
    i < block_count net → (block_of net i).kind ≡ 5 → (j : ℕ) → j < m → (get_or (records j) i no_outputs).count ≡ examined net i (lent j)

abbrev pub CountsInRecords : Type 0
CountsInRecords =
    (ws : Words) (i m : ℕ) (lent left : ℕ → Table) (lists records : ℕ → List Outputs) (answers : ℕ → Verdict) →
    RecordCalls ws m lent left lists records answers → let net = network_in ws in
    Steady net i m lent → (j : ℕ) → j + round_at net i lent j ≤ m → AtStart net i (lent j) →
    adds_to (λ s. (get_or (records s) i no_outputs).count) j (round_at net i lent j) ≡ 16 * (block_of net i).n

-- of `scan_packed`, whose list has numbers
abbrev pub CountInNumbers : Type 0
CountInNumbers =
    (ws : Words) (i m : ℕ) (lent left : ℕ → Table) (lists numbers : ℕ → List ℕ) (answers : ℕ → Verdict) →
    PackedCalls ws m lent left lists numbers answers → let net = network_in ws in
    i < block_count net → (block_of net i).kind ≡ 5 → (j : ℕ) → j < m → (get_or (map unpacked (numbers j)) i no_outputs).count ≡ examined net i (lent j)

abbrev pub CountsInNumbers : Type 0
CountsInNumbers =
    (ws : Words) (i m : ℕ) (lent left : ℕ → Table) (lists numbers : ℕ → List ℕ) (answers : ℕ → Verdict) →
    PackedCalls ws m lent left lists numbers answers → let net = network_in ws in
    Steady net i m lent → (j : ℕ) → j + round_at net i lent j ≤ m → AtStart net i (lent j) →
    adds_to (λ s. (get_or (map unpacked (numbers s)) i no_outputs).count) j (round_at net i lent j) ≡ 16 * (block_of net i).n

-- ---- what the bench prints

-- of an accepted file, and any of its blocks, the text says one count for each scan: the scan's
pub record ShowsCounts (bytes : Bytes) (i : ℕ) : Type 0 where
  pub for_each : length (text_says count_in (i + 1) (bench_text bytes)) ≡ (file_in (words_in bytes)).run
  pub counts : (j : ℕ) → let f = file_in (words_in bytes) in j < f.run →
      get_or (text_says count_in (i + 1) (bench_text bytes)) j 0 ≡ count f.network i (scans_table f.network f.image j)

abbrev pub CountsPrinted : Type 0
CountsPrinted =
    (bytes : Bytes) → (file_checked (words_in bytes) (odd_byte bytes)).number ≡ 0 →
    (i : ℕ) → i < block_count (file_in (words_in bytes)).network → ShowsCounts bytes i

-- and where the block meets demand 3's premises over the scans, the counts of a round add to 16n
abbrev pub PrintedCountsAdd : Type 0
PrintedCountsAdd =
    (bytes : Bytes) → (file_checked (words_in bytes) (odd_byte bytes)).number ≡ 0 → let f = file_in (words_in bytes) in
    let given = scans_table f.network f.image in
    (i : ℕ) → Steady f.network i f.run given → (j : ℕ) → j + round_at f.network i given j ≤ f.run → AtStart f.network i (given j) →
    added (take (round_at f.network i given j) (drop j (text_says count_in (i + 1) (bench_text bytes)))) ≡ 16 * (block_of f.network i).n
