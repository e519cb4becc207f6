-- The cases P1 to P14, both sides of the edges in hex words, one table, and the statement about all of it: a row has the
-- case's label, its network of one block at any level, the table before the scan, and the table and the outputs after it.
use Rattle.std.specs.Prelude.{ℕ, ◌≡◌, Bool, true, false, List, [], ◌∷◌, map, length}
use Prim.Native.String.{String}
use Rattle.verdict.specs.Lists.{Table}
use Rattle.verdict.specs.Verdict.{Verdict, done}
use Rattle.record.specs.declared.{Node.Node, Input.Input, Inputs.Inputs, Block.Block}
use Rattle.network.specs.Network.{Network, words_of}
use Rattle.blocks.specs.declared.Outputs.{Outputs}
use Rattle.blocks.specs.Work.{shows}
use Rattle.blocks.specs.Answer.{no_outputs}
use Rattle.scan.specs.Scan.{scan_verdict, scan_table, scan_records}

pub record Case : Type 0 where
  pub label : String
  pub network : ℕ → Network
  pub before : Table
  pub after : Table
  pub outputs : Outputs

abbrev case : String → (ℕ → Network) → Table → Table → Outputs → Case
case label network before after outputs =
    record { label = label; network = network; before = before; after = after; outputs = outputs }

-- ---- a network of one block over four holding registers, without coils, by its level

-- an input that always has power, and one that never has
abbrev always : Input
always = record { code = 1; number = 0 }

abbrev never : Input
never = record { code = 0; number = 0 }

-- power on top alone; on top and bottom; on all three
abbrev top_on : Inputs
top_on = record { top = always; middle = never; bottom = never }

abbrev top_and_bottom : Inputs
top_and_bottom = record { top = always; middle = never; bottom = always }

abbrev all_on : Inputs
all_on = record { top = always; middle = always; bottom = always }

abbrev register : ℕ → Node
register number = record { class = 4; number = number }

-- a block by the number of its kind, its length, the registers of its top and middle nodes and its inputs
abbrev block : ℕ → ℕ → ℕ → ℕ → Inputs → Block
block kind n top middle inputs = record {
  kind = kind;
  n = n;
  top = register top;
  middle = register middle;
  inputs = inputs;
  coils = record { top = 0; middle = 0; bottom = 0 };
}

abbrev over_registers : Block → ℕ → Network
over_registers b level = record { sizes = record { coils = 0; discretes = 0; inputs = 0; holding = 4; level = level }; blocks = b ∷ [] }

-- from 40001 to 40002: of CMPR these are the source and the pointer, of MBIT the pointer and the matrix
abbrev usual : ℕ → ℕ → Inputs → ℕ → Network
usual kind n inputs = over_registers (block kind n 1 2 inputs)

abbrev registers : ℕ → ℕ → ℕ → ℕ → Table
registers a b c d = a ∷ b ∷ c ∷ d ∷ []

-- the kinds by their numbers
abbrev AND : ℕ
AND = 1

abbrev OR : ℕ
OR = 2

abbrev XOR : ℕ
XOR = 3

abbrev COMP : ℕ
COMP = 4

abbrev CMPR : ℕ
CMPR = 5

abbrev MBIT : ℕ
MBIT = 6

abbrev BROT : ℕ
BROT = 8

-- the top output is on in every case; of the middle and the bottom output, and of a compare's count, it is said
abbrev on_and : Bool → Bool → Outputs
on_and middle bottom = shows true middle bottom 0

abbrev examining : ℕ → Bool → Bool → Outputs
examining count middle bottom = shows true middle bottom count

-- ---- the table; P10 has two rows, with wrap and without it
abbrev pub cases : List Case
cases =
    case "P1" (usual AND 1 top_on) (registers 0x3000 0x5000 0 0) (registers 0x3000 0x1000 0 0) (on_and false false)
    ∷ case "P2" (usual OR 1 top_on) (registers 0x3000 0x5000 0 0) (registers 0x3000 0x7000 0 0) (on_and false false)
    ∷ case "P3" (usual XOR 1 top_on) (registers 0x3000 0x5000 0 0) (registers 0x3000 0x6000 0 0) (on_and false false)
    ∷ case "P4" (usual COMP 1 top_on) (registers 0x3000 0x5000 0 0) (registers 0x3000 0xcfff 0 0) (on_and false false)
    ∷ case "P5" (usual CMPR 1 top_on) (registers 0x8001 0 0x0000 0) (registers 0x8001 1 0x0000 0) (examining 1 true true)
    ∷ case "P6" (usual CMPR 1 top_on) (registers 0x8001 1 0x0000 0) (registers 0x8001 16 0x0000 0) (examining 15 true true)
    ∷ case "P7" (usual CMPR 1 top_on) (registers 0x8001 16 0x0000 0) (registers 0x8001 1 0x0000 0) (examining 1 true true)
    ∷ case "P8" (usual CMPR 1 top_on) (registers 0x0000 0 0x4000 0) (registers 0x0000 2 0x4000 0) (examining 2 true false)
    ∷ case "P9" (usual CMPR 1 top_on) (registers 0x0000 2 0x4000 0) (registers 0x0000 16 0x4000 0) (examining 14 false false)
    ∷ case "P10" (usual BROT 1 top_and_bottom) (registers 0x0001 0x5555 0 0) (registers 0x0001 0x8000 0 0) (on_and true false)
    ∷ case "P10, without wrap" (usual BROT 1 top_on) (registers 0x0001 0x5555 0 0) (registers 0x0001 0x0000 0 0) (on_and true false)
    ∷ case "P11" (over_registers (block BROT 2 1 3 all_on)) (registers 0x8000 0x0001 0x5555 0x5555) (registers 0x8000 0x0001 0x0000 0x0003) (on_and true false)
    ∷ case "P12" (usual COMP 2 top_on) (registers 0x0000 0x0f0f 0x1234 0) (registers 0x0000 0xffff 0xf0f0 0) (on_and false false)
    ∷ case "P13" (usual MBIT 1 all_on) (registers 16 0x0000 0 0) (registers 1 0x0001 0 0) (on_and true false)
    ∷ case "P14" (usual MBIT 1 all_on) (registers 17 0x0000 0 0) (registers 17 0x0000 0 0) (on_and true true)
    ∷ []

-- ---- the statement

-- what a scan of a case's words, with the level or without it, answers and leaves, with one record for the outputs
abbrev pub happens : Bool → ℕ → Case → Verdict × Table × List Outputs
happens with_level level c =
    let ws = words_of with_level (c.network level) in
    (scan_verdict ws (length c.before) 1, scan_table ws c.before 1, scan_records ws c.before (no_outputs ∷ []))

-- and what the case says: the words are accepted, and the scan leaves that table and gives those outputs
abbrev pub expected : Case → Verdict × Table × List Outputs
expected c = (done, c.after, c.outputs ∷ [])

-- in every case that happens which it says: with level 1 left out of the words, and with level 1 and level 2 among them
abbrev pub AsDocument01 : Type 0
AsDocument01 =
    (map (happens false 1) cases ≡ map expected cases)
    × (map (happens true 1) cases ≡ map expected cases)
    × (map (happens true 2) cases ≡ map expected cases)
