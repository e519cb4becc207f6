-- Demand 3: every difference once in every round. A compare block with power and no reset in every scan, whose source leaves out its
-- pointer and whose pointer and matrices nothing else changes, reports in every c successive scans each differing position exactly
-- once, climbing and starting again at the lowest, and no miscompare exactly c - d times. Assumes nothing.
use Rattle.std.specs.Prelude.{ℕ, zero, suc, ◌+◌, ◌-◌, ◌*◌, ◌≤◌, ◌<◌, ◌≡◌, Bool, true, false, cond, List, [], ◌∷◌, ◌++◌, map, ◌⊎◌, eqb, length, get_or, take}
use Rattle.std.proofs.Math.Option.{Option, none, some}
use Rattle.verdict.specs.Lists.{Table, Matrix}
use Rattle.blocks.specs.declared.Power.{Power}
use Rattle.bits.specs.Bit.{bit}
use Rattle.search.specs.Search.{differing}
use Rattle.table.specs.Table.{total}
use Rattle.network.specs.Network.{Network, block_of, block_count}
use Rattle.network.specs.Sound.{GoodNetwork}
use Rattle.blocks.specs.View.{first_word, top_matrix, compared_matrix}
use Rattle.blocks.specs.Work.{matrix_put, one_word, effect_on, block_table}
use Rattle.inputs.specs.Input.{power_on}
use Rattle.blocks.specs.Answer.{no_outputs}
use Rattle.scan.specs.Scan.{State, fresh, steps, scanned}

-- ---- d, the positions and c, by the bit definition

-- the positions, of the k after i, at which f is on, ascending
unfoldable pub above : (ℕ → Bool) → ℕ → ℕ → List ℕ
above f i zero = []
above f i (suc k) = cond (f (suc i)) (suc i ∷ above f (suc i) k) (above f (suc i) k)

-- the positions at which two matrices of n words differ
abbrev pub differences : Matrix → Matrix → ℕ → List ℕ
differences a b n = above (differing a b) 0 (16 * n)

-- d: how many they are
abbrev pub difference_count : Matrix → Matrix → ℕ → ℕ
difference_count a b n = length (differences a b n)

-- c: d if the last bit differs, else d + 1
abbrev pub round_length : Matrix → Matrix → ℕ → ℕ
round_length a b n = cond (differing a b (16 * n)) (difference_count a b n) (difference_count a b n + 1)

-- ---- the reports of a round over two matrices of n words: a report is a position, or none

-- so many reports of none
unfoldable pub nothing : ℕ → List (Option ℕ)
nothing zero = []
nothing (suc k) = none ∷ nothing k

-- the differing positions from one of them on, climbing; none c - d times; then the others from the lowest on
pub record Round (a b : Matrix) (n : ℕ) (reports : List (Option ℕ)) : Type 0 where
  pub lower : List ℕ
  pub higher : List ℕ
  pub all : differences a b n ≡ lower ++ higher
  pub climbing : reports ≡ map some higher ++ nothing (round_length a b n - difference_count a b n) ++ map some lower

-- ---- block i + 1 of a network, in a scan of a table

-- the block's visit: what the i blocks before it leave
abbrev pub visit : Network → ℕ → Table → State
visit net i t = steps net (take i net.blocks) (fresh t)

-- the power on its inputs
abbrev pub power_at : Network → ℕ → Table → Power
power_at net i t = power_on net (visit net i t).table (visit net i t).outs (block_of net i).inputs

-- the words of its source and of its matrix in a table, and its pointer
abbrev pub source_in : Network → ℕ → Table → Matrix
source_in net i t = top_matrix net (block_of net i) t

abbrev pub matrix_in : Network → ℕ → Table → Matrix
matrix_in net i t = compared_matrix net (block_of net i) t

abbrev pub register_index : Network → ℕ → ℕ
register_index net i = first_word net (block_of net i).middle

abbrev pub register_in : Network → ℕ → Table → ℕ
register_in net i t = get_or t (register_index net i) 0

-- what the block finds
abbrev pub source_found : Network → ℕ → Table → Matrix
source_found net i t = source_in net i (visit net i t).table

abbrev pub matrix_found : Network → ℕ → Table → Matrix
matrix_found net i t = matrix_in net i (visit net i t).table

abbrev pub register_found : Network → ℕ → Table → ℕ
register_found net i t = register_in net i (visit net i t).table

-- the table after its own pointer step, before its coils are written; and when it is done
abbrev pub after_step : Network → ℕ → Table → Table
after_step net i t =
    matrix_put (register_index net i) (one_word (effect_on net (block_of net i) (visit net i t).table (power_at net i t)).pointer)
    (visit net i t).table

abbrev pub done_by : Network → ℕ → Table → Table
done_by net i t = block_table net (block_of net i) (visit net i t).table (power_at net i t)

-- what a scan reports of the block: where its middle output, among the scan's own, is on, the pointer when the block is done
abbrev pub report : Network → ℕ → Table → Option ℕ
report net i t = cond (get_or (scanned net t).outs i no_outputs).middle (some (register_in net i (done_by net i t))) none

-- ---- the premises, over a stretch of m successive scans; scan j is given a table: the one that the scan before left, or another

-- the same bits at every position of n words
abbrev pub SameBits : ℕ → Matrix → Matrix → Type 0
SameBits n a b = (p : ℕ) → 1 ≤ p → p ≤ 16 * n → bit a p ≡ bit b p

-- the source leaves out the pointer
abbrev pub SourceLeavesOut : Network → ℕ → Type 0
SourceLeavesOut net i =
    (register_index net i < first_word net (block_of net i).top)
    ⊎ (first_word net (block_of net i).top + (block_of net i).n ≤ register_index net i)

-- from one visit to the next nothing but the block's own pointer step changes its source, its matrix or its pointer: not other
-- blocks, not its own coils, and not whoever gives the table
pub record NothingElse (net : Network) (i m : ℕ) (given : ℕ → Table) : Type 0 where
  pub source_stays : (j : ℕ) → suc j < m → SameBits (block_of net i).n (source_found net i (given (suc j))) (source_in net i (after_step net i (given j)))
  pub matrix_stays : (j : ℕ) → suc j < m → SameBits (block_of net i).n (matrix_found net i (given (suc j))) (matrix_in net i (after_step net i (given j)))
  pub pointer_stays : (j : ℕ) → suc j < m → register_found net i (given (suc j)) ≡ register_in net i (after_step net i (given j))

-- the user's premises; the last two have names of their own, so that it can be shown what each is for
pub record Premises (Leaves Nothing : Type 0) (net : Network) (i m : ℕ) (given : ℕ → Table) : Type 0 where
  -- a compare block
  pub there : i < block_count net
  pub compares : (block_of net i).kind ≡ 5
  -- with power and no reset in every scan
  pub powered : (j : ℕ) → j < m → (power_at net i (given j)).top ≡ true
  pub not_reset : (j : ℕ) → j < m → (power_at net i (given j)).middle ≡ false
  -- whose source leaves out its pointer and whose pointer and matrices nothing else changes
  pub source_leaves_out : Leaves
  pub nothing_else : Nothing

abbrev pub Steady : Network → ℕ → ℕ → (ℕ → Table) → Type 0
Steady net i m given = Premises (SourceLeavesOut net i) (NothingElse net i m given) net i m given

-- scans that are done: a network as the checker accepts it, and tables of exactly its areas
pub record Scanning (net : Network) (m : ℕ) (given : ℕ → Table) : Type 0 where
  pub accepted : GoodNetwork net
  pub right_size : (j : ℕ) → j < m → length (given j) ≡ total net.sizes

-- ---- the demand

-- what k successive scans say, from scan j on
unfoldable pub in_turn : {A : Type 0} → (ℕ → A) → ℕ → ℕ → List A
in_turn says j zero = []
in_turn says j (suc k) = says j ∷ in_turn says (suc j) k

-- c and the round of what the block finds in scan j
abbrev pub round_at : Network → ℕ → (ℕ → Table) → ℕ → ℕ
round_at net i given j = round_length (source_found net i (given j)) (matrix_found net i (given j)) (block_of net i).n

abbrev pub RoundAt : Network → ℕ → (ℕ → Table) → ℕ → List (Option ℕ) → Type 0
RoundAt net i given j = Round (source_found net i (given j)) (matrix_found net i (given j)) (block_of net i).n

-- any c successive scans inside the stretch
abbrev pub Demand3 : Type 0
Demand3 =
    (net : Network) (i m : ℕ) (given : ℕ → Table) → Scanning net m given → Steady net i m given → (j : ℕ) → j + round_at net i given j ≤ m →
    RoundAt net i given j (in_turn (λ s. report net i (given s)) j (round_at net i given j))

-- ---- what a round says, position by position: it follows from its shape

-- how often a position is reported, and how often none
unfoldable pub how_often : ℕ → List (Option ℕ) → ℕ
how_often p [] = 0
how_often p (none ∷ l) = how_often p l
how_often p (some q ∷ l) = cond (eqb q p) 1 0 + how_often p l

unfoldable pub nones : List (Option ℕ) → ℕ
nones [] = 0
nones (none ∷ l) = 1 + nones l
nones (some q ∷ l) = nones l

-- each number higher than the one before
unfoldable pub Ascending : List ℕ → Type 0
Ascending [] = Unit
Ascending (x ∷ []) = Unit
Ascending (x ∷ y ∷ l) = (x < y) × Ascending (y ∷ l)

pub record RoundSays (a b : Matrix) (n : ℕ) (reports : List (Option ℕ)) : Type 0 where
  -- each differing position exactly once, and no other number
  pub once : (p : ℕ) → 1 ≤ p → p ≤ 16 * n → differing a b p ≡ true → how_often p reports ≡ 1
  pub no_other : (p : ℕ) → 1 ≤ p → p ≤ 16 * n → differing a b p ≡ false → how_often p reports ≡ 0
  pub none_outside : (p : ℕ) → (p < 1) ⊎ (16 * n < p) → how_often p reports ≡ 0
  -- no miscompare exactly c - d times
  pub none_reported : nones reports ≡ round_length a b n - difference_count a b n
  -- the positions, of which a round is a rotation, climb
  pub ascending : Ascending (differences a b n)

abbrev pub RoundMeans : Type 0
RoundMeans = (a b : Matrix) (n : ℕ) (reports : List (Option ℕ)) → Round a b n reports → RoundSays a b n reports
