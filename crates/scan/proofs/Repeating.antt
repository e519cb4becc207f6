-- The laws of scans, one after the other: how many outputs a scan has, the table with one scan more, and how long it is.
use mathlib.Core.Path.{◌≡◌, refl, ◌∙◌}
use mathlib.Core.List.{List, map}
use Prim.Native.Nat.{ℕ, zero, suc}
use lib.ListN.{length, length-map}
use Rattle.table.specs.Table.{total}
use Rattle.network.specs.Network.{Network, block_count}
use Rattle.network.specs.Sound.{GoodNetwork}
use Rattle.blocks.specs.Packed.{packed}
use Rattle.scan.specs.Scan.{scanned}
use Rattle.scan.specs.Scans.{scans_table}
use Rattle.scan.proofs.Kept.{scanned_exact}
use Rattle.scan.proofs.Scanning.{all_outs_count}

pub one_count : (net : Network) (t : List ℕ) → length (map packed (scanned net t).outs) ≡ block_count net
one_count net t = length-map (scanned net t).outs packed ∙ all_outs_count net t

-- one scan more, at the end
pub table_next : (net : Network) (j : ℕ) (t : List ℕ) → scans_table net t (suc j) ≡ (scanned net (scans_table net t j)).table
unfolding scans_table
table_next net zero t = refl
table_next net (suc j) t = table_next net j (scanned net t).table

pub scans_exact : (net : Network) → GoodNetwork net → (j : ℕ) (t : List ℕ) → length t ≡ total net.sizes → length (scans_table net t j) ≡ total net.sizes
unfolding scans_table
scans_exact net s zero t e = e
scans_exact net s (suc j) t e = scans_exact net s j (scanned net t).table (scanned_exact net t s e)
