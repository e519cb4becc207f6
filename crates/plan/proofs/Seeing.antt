-- The laws of looks: a masked word is its bit, a look sees what its input passes, and its index lies in the state. Assumes nothing.
use mathlib.Core.Path.{◌≡◌, refl, sym, ap, ap₂, ◌∙◌}
use mathlib.Core.Bool.{Bool, true, false, not, cond}
use mathlib.Core.List.{List, map}
use Prim.Native.Nat.{ℕ, zero, suc, ◌+◌, ◌-◌, ◌*◌, ◌/◌, ◌%◌, ◌^◌, ◌≤◌, ◌<◌}
use native.Mathlib.Nat.{pow-suc, zero-add}
use native.Mathlib.Omega.{arith}
use borrow.Author.Tests.{eq-eqb, ne_eqb}
use lib.Bits.{bit_and, and_high}
use lib.Dec.{eqb}
use lib.ListN.{get_or, take, drop}
use lib.Pow.{pow_pos, pow_mono}
use lib.Seq.{get_or-take, get_or-drop}
use Rattle.bits.specs.Bit.{odd, bit, of}
use Rattle.bits.proofs.Laws.{of_digit}
use Rattle.runs.specs.Run.{run}
use Rattle.table.specs.declared.sizes.Sizes.{Sizes}
use Rattle.table.specs.Table.{total}
use Rattle.record.specs.declared.Input.{Input}
use Rattle.rules.specs.Sound.{GoodInput}
use Rattle.network.specs.Network.{Network}
use Rattle.blocks.specs.declared.Outputs.{Outputs}
use Rattle.blocks.specs.Packed.{unpacked}
use Rattle.inputs.specs.Input.{of_block, passes}
use Rattle.inputs.proofs.Wired.{contact_bit, block_unpacked}
use Rattle.plan.specs.declared.Look.TheVariants.{Contact, Earlier}
use Rattle.plan.specs.declared.Output.TheVariants.{Top, Middle, Bottom}
use Rattle.plan.specs.Plan.{mask_of, look_of}
use Rattle.plan.specs.Seen.{sees, look_inside}

-- ---- a masked word
last_times : (r m : ℕ) → r < 2 → r * m ≡ cond (eqb r 1) m 0
last_times zero m h = omega arith
last_times (suc zero) m h = omega arith
last_times (suc (suc r)) m h = absurd (omega arith)

one_bit : (k : ℕ) → 2 ^ k ≡ 2 ^ (1 + k) - 2 ^ k
one_bit k =
    let next : 2 ^ (1 + k) ≡ 2 ^ k * 2 = ap (λ (j : ℕ). 2 ^ j) (omega arith) ∙ pow-suc 2 k in
    omega arith

pub masked_bit : (w j : ℕ) → j < 16 → bit_and w (2 ^ (15 - j)) ≡ cond (of w (suc j)) (2 ^ (15 - j)) 0
masked_bit w j h =
    let k : ℕ = 15 - j in
    let worth : 16 - suc j ≡ k = omega arith in
    ap (bit_and w) (one_bit k)
    ∙ and_high w 1 k
    ∙ last_times (w / 2 ^ k % 2) (2 ^ k) (omega arith)
    ∙ ap (λ (b : Bool). cond b (2 ^ k) 0) (ap (λ (i : ℕ). odd (w / 2 ^ i)) (sym worth) ∙ sym (of_digit w j h))

-- ---- a mask
pub mask_high : (i : ℕ) → mask_of i ≤ 32768
mask_high i = pow_mono {j = 15} (omega arith)

wants_on : (b : Bool) (m : ℕ) → 0 < m → eqb (cond b m 0) m ≡ b
wants_on true m h = eq-eqb m m refl
wants_on false m h = ne_eqb 0 m (λ e. omega arith)

wants_off : (b : Bool) (m : ℕ) → 0 < m → eqb (cond b m 0) 0 ≡ not b
wants_off true m h = ne_eqb m 0 (λ e. omega arith)
wants_off false m h = refl

-- the bit at a place of a word, by the mask: on, and off
pub seen_on : (w j : ℕ) → j < 16 → eqb (bit_and w (2 ^ (15 - j))) (2 ^ (15 - j)) ≡ of w (suc j)
seen_on w j h = ap (λ (x : ℕ). eqb x (2 ^ (15 - j))) (masked_bit w j h) ∙ wants_on (of w (suc j)) (2 ^ (15 - j)) (pow_pos (15 - j))

pub seen_off : (w j : ℕ) → j < 16 → eqb (bit_and w (2 ^ (15 - j))) 0 ≡ not (of w (suc j))
seen_off w j h = ap (λ (x : ℕ). eqb x 0) (masked_bit w j h) ∙ wants_off (of w (suc j)) (2 ^ (15 - j)) (pow_pos (15 - j))

-- ---- a contact of the n words from s on, all in the table
module _ (words : ℕ) (state : List ℕ) (s n number : ℕ) (inside : s + n ≤ words) (low : 1 ≤ number) (high : number ≤ 16 * n) where
  place : ℕ
  place = (number - 1) % 16

  bit_seen : of (get_or state (s + (number - 1) / 16) 0) (suc place) ≡ bit (run (take words state) s n) number
  unfolding place
  bit_seen =
      let one : suc place ≡ place + 1 = omega arith in
      ap₂ of (sym (get_or-take words state (s + (number - 1) / 16) 0 (omega arith))) one
      ∙ contact_bit (take words state) s n number (λ e. omega arith) (omega arith)

  open_seen : sees state words (Contact (s + (number - 1) / 16) (mask_of (number - 1)) (mask_of (number - 1))) ≡ bit (run (take words state) s n) number
  unfolding place
  open_seen = seen_on (get_or state (s + (number - 1) / 16) 0) place (omega arith) ∙ bit_seen

  closed_seen : sees state words (Contact (s + (number - 1) / 16) (mask_of (number - 1)) 0) ≡ not (bit (run (take words state) s n) number)
  unfolding place
  closed_seen = seen_off (get_or state (s + (number - 1) / 16) 0) place (omega arith) ∙ ap not bit_seen

-- ---- an output of an earlier block
module _ (words : ℕ) (state : List ℕ) (earlier number : ℕ) (low : 1 ≤ number) (high : number ≤ earlier) where
  block_seen : unpacked (get_or state (words + (number - 1)) 0) ≡ of_block (map unpacked (take earlier (drop words state))) number
  block_seen =
      ap unpacked (sym (get_or-take earlier (drop words state) (number - 1) 0 (omega arith) ∙ get_or-drop words state (number - 1) 0))
      ∙ sym (block_unpacked (take earlier (drop words state)) number)

  top_seen : sees state words (Earlier (number - 1) Top) ≡ (of_block (map unpacked (take earlier (drop words state))) number).top
  top_seen = seen_on (get_or state (words + (number - 1)) 0) 15 (omega arith) ∙ ap (λ (out : Outputs). out.top) block_seen

  middle_seen : sees state words (Earlier (number - 1) Middle) ≡ (of_block (map unpacked (take earlier (drop words state))) number).middle
  middle_seen = seen_on (get_or state (words + (number - 1)) 0) 14 (omega arith) ∙ ap (λ (out : Outputs). out.middle) block_seen

  bottom_seen : sees state words (Earlier (number - 1) Bottom) ≡ (of_block (map unpacked (take earlier (drop words state))) number).bottom
  bottom_seen = seen_on (get_or state (words + (number - 1)) 0) 13 (omega arith) ∙ ap (λ (out : Outputs). out.bottom) block_seen

-- ---- a look by its input's code
abbrev coded : ℕ → ℕ → Input
coded code number = record { code = code; number = number }

module _ (net : Network) (earlier : ℕ) (state : List ℕ) where
  words : ℕ
  words = total net.sizes

  before : List Outputs
  before = map unpacked (take earlier (drop words state))

  by_code : (code number : ℕ) → GoodInput net.sizes earlier (coded code number)
      → sees state words (look_of net.sizes (coded code number)) ≡ passes net (take words state) before (coded code number)
  unfolding words before look_of passes
  by_code zero number g = refl
  by_code (suc zero) number g = refl
  by_code (suc (suc zero)) number g =
      let h = g.coil (omega arith) (omega arith) in
      ap (λ (i : ℕ). sees state words (Contact i (mask_of (number - 1)) (mask_of (number - 1)))) (sym (zero-add ((number - 1) / 16)))
      ∙ open_seen words state 0 net.sizes.coils number (omega arith) h.0 h.1
  by_code (suc (suc (suc zero))) number g =
      let h = g.coil (omega arith) (omega arith) in
      ap (λ (i : ℕ). sees state words (Contact i (mask_of (number - 1)) 0)) (sym (zero-add ((number - 1) / 16)))
      ∙ closed_seen words state 0 net.sizes.coils number (omega arith) h.0 h.1
  by_code (suc (suc (suc (suc zero)))) number g =
      let h = g.contact (omega arith) (omega arith) in
      open_seen words state net.sizes.coils net.sizes.discretes number (omega arith) h.0 h.1
  by_code (suc (suc (suc (suc (suc zero))))) number g =
      let h = g.contact (omega arith) (omega arith) in
      closed_seen words state net.sizes.coils net.sizes.discretes number (omega arith) h.0 h.1
  by_code (suc (suc (suc (suc (suc (suc zero)))))) number g =
      let h = g.block (omega arith) in top_seen words state earlier number h.0 h.1
  by_code (suc (suc (suc (suc (suc (suc (suc zero))))))) number g =
      let h = g.block (omega arith) in middle_seen words state earlier number h.0 h.1
  by_code (suc (suc (suc (suc (suc (suc (suc (suc zero)))))))) number g =
      let h = g.block (omega arith) in bottom_seen words state earlier number h.0 h.1
  by_code (suc (suc (suc (suc (suc (suc (suc (suc (suc code))))))))) number g = absurd (omega (arith, g.known))

pub look_passes : (net : Network) (earlier : ℕ) (input : Input) → GoodInput net.sizes earlier input → (state : List ℕ)
    → sees state (total net.sizes) (look_of net.sizes input)
    ≡ passes net (take (total net.sizes) state) (map unpacked (take earlier (drop (total net.sizes) state))) input
unfolding words before
look_passes net earlier input g state = by_code net earlier state input.code input.number g

-- ---- where a look looks, and its mask
module _ (z : Sizes) (earlier count : ℕ) (few : earlier ≤ count) (some : 0 < count) where
  room_by_code : (code number : ℕ) → GoodInput z earlier (coded code number) → look_inside (total z + count) (total z) (look_of z (coded code number))
  unfolding look_of
  room_by_code zero number g = omega arith
  room_by_code (suc zero) number g = omega arith
  room_by_code (suc (suc zero)) number g = let h = g.coil (omega arith) (omega arith) in omega arith
  room_by_code (suc (suc (suc zero))) number g = let h = g.coil (omega arith) (omega arith) in omega arith
  room_by_code (suc (suc (suc (suc zero)))) number g = let h = g.contact (omega arith) (omega arith) in omega arith
  room_by_code (suc (suc (suc (suc (suc zero))))) number g = let h = g.contact (omega arith) (omega arith) in omega arith
  room_by_code (suc (suc (suc (suc (suc (suc zero)))))) number g = let h = g.block (omega arith) in omega arith
  room_by_code (suc (suc (suc (suc (suc (suc (suc zero))))))) number g = let h = g.block (omega arith) in omega arith
  room_by_code (suc (suc (suc (suc (suc (suc (suc (suc zero)))))))) number g = let h = g.block (omega arith) in omega arith
  room_by_code (suc (suc (suc (suc (suc (suc (suc (suc (suc code))))))))) number g = absurd (omega (arith, g.known))

  pub look_room : (input : Input) → GoodInput z earlier input → look_inside (total z + count) (total z) (look_of z input)
  look_room input g = room_by_code input.code input.number g
