-- The laws of a plan: how long it is, where a block's step stands in it, and that the plan which is read out of accepted words is their
-- network's. Assumes nothing.
use mathlib.Core.Path.{◌≡◌, refl, sym, ap, ap₂, ◌∙◌}
use mathlib.Core.Bool.{Bool, cond}
use mathlib.Core.List.{List, [], ◌∷◌, map}
use Rattle.std.specs.Prelude.{Some}
use Prim.Native.Nat.{ℕ, zero, suc, ◌+◌, ◌-◌, ◌≤◌, ◌<◌}
use native.Mathlib.Decide.{dec_lt}
use native.Mathlib.Omega.{arith}
use borrow.Author.Tests.{lt-ltb, le-ltb}
use lib.ListN.{length, get_or, take, drop, length-append, length-take, length-drop, length-replicate, length-map, get_or-append, drop_of_length-le}
use lib.Seq.{take_all, drop-cons, get_or-take}
use Rattle.verdict.specs.Verdict.{Said, said_by, done}
use Rattle.section.proofs.Walk.{le_of_not_lt}
use Rattle.record.specs.declared.Block.{Block}
use Rattle.record.specs.Record.{block_in}
use Rattle.network.specs.declared.checker.Opened.{Opened}
use Rattle.network.specs.Network.{Network, block_count, block_of, no_block}
use Rattle.network.specs.Check.{network_in, front_checked, opened_value, record_start, read_at}
use Rattle.network.proofs.Good.{front_good}
use Rattle.network.proofs.Networks.{block_is}
use Rattle.network.proofs.ReadAt.{read_record}
use Rattle.plan.specs.declared.Step.{Step}
use Rattle.plan.specs.Plan.{step_of, steps_put, planned_count, given, reads, planned_blocks, plan_put, absent, no_step, no_steps, plan_of}

-- ---- how many blocks have room
module _ (count room : ℕ) where
  pub room_first : room < count → room ≡ planned_count count room
  room_first l = sym (ap (λ (a : Bool). cond a room count) (lt-ltb room count l))

  pub count_first : count ≤ room → count ≡ planned_count count room
  count_first l = sym (ap (λ (a : Bool). cond a room count) (le-ltb room count l))

  pub planned_few : (planned_count count room ≤ count) × (planned_count count room ≤ room)
  planned_few = elim (dec_lt room count) [
    | yes l ↦ let e = room_first l in (omega (arith, e, l), omega (arith, e, l))
    | no n ↦ let e = count_first (le_of_not_lt n) in let l : count ≤ room = le_of_not_lt n in (omega (arith, e, l), omega (arith, e, l))
  ]

-- ---- a network's plan
module _ (net : Network) where
  room : length no_steps ≡ 128
  unfolding no_steps
  room = length-replicate {A = Step} 128 no_step

  pub plan_long : length (plan_of net) ≡ 128
  unfolding plan_of
  plan_long =
      length-append (map (step_of net.sizes) (take 128 net.blocks)) (drop (length (take 128 net.blocks)) no_steps)
      ∙ omega (arith, length-map (take 128 net.blocks) (step_of net.sizes), room, length-take 128 net.blocks, length-drop (length (take 128 net.blocks)) no_steps)

  pub plan_has : (k : ℕ) → k < block_count net → k < 128 → get_or (plan_of net) k absent ≡ step_of net.sizes (block_of net k)
  unfolding plan_of
  plan_has k l m =
      let few : k < length (take 128 net.blocks) = omega (arith, l, m, length-take 128 net.blocks) in
      get_or-append (map (step_of net.sizes) (take 128 net.blocks)) (drop (length (take 128 net.blocks)) no_steps) absent k (omega (arith, few, length-map (take 128 net.blocks) (step_of net.sizes)))
      ∙ mapped (take 128 net.blocks) k few
      ∙ ap (step_of net.sizes) (get_or-take 128 net.blocks k no_block m)
    where
      mapped : (blocks : List Block) (j : ℕ) → j < length blocks → get_or (map (step_of net.sizes) blocks) j absent ≡ step_of net.sizes (get_or blocks j no_block)
      mapped [] j u = absurd (omega (arith, u))
      mapped (b ∷ blocks) zero u = refl
      mapped (b ∷ blocks) (suc j) u = mapped blocks j (omega (arith, u))

-- ---- the blocks that the reader gives of accepted words are the network's
module _ (ws : List ℕ) (fine : (front_checked ws).number ≡ 0) where
  given_here : (k : ℕ) → k < block_count (network_in ws) → (read_at ws (opened_value ws) (k + 1)).value ≡ Some (block_of (network_in ws) k)
  given_here k l =
      let n : k + 1 - 1 ≡ k = omega arith in
      ap (λ (s : Said Block). s.value)
      (read_record ws (opened_value ws) (k + 1) (omega arith) (omega (arith, l)) (front_good ws fine).2
      ∙ ap (λ (i : ℕ). said_by done (block_in (drop (record_start ws i) ws))) n
      ∙ ap (λ (b : Block). said_by done b) (sym (block_is ws k l)))

  reads_all : (m k : ℕ) → k + m ≡ block_count (network_in ws) → reads ws (opened_value ws) k m ≡ drop k (network_in ws).blocks
  unfolding reads
  reads_all zero k e = sym (drop_of_length-le (network_in ws).blocks {i = k} (omega (arith, e)))
  reads_all (suc m) k e =
      let l : k < block_count (network_in ws) = omega (arith, e) in
      ap₂ given (given_here k l) (reads_all m (suc k) (omega (arith, e))) ∙ sym (drop-cons (network_in ws).blocks k no_block l)

pub plan_read : (ws : List ℕ) (o : Opened) → o ≡ opened_value ws → (front_checked ws).number ≡ 0 → block_count (network_in ws) ≤ 128 → plan_put ws o no_steps ≡ plan_of (network_in ws)
unfolding plan_put plan_of
plan_read ws o e fine few =
    let net = network_in ws in
    let all : planned_count (block_count net) (length no_steps) ≡ block_count net = sym (count_first (block_count net) (length no_steps) (omega (arith, room net, few))) in
    let blocks : reads ws (opened_value ws) 0 (planned_count (block_count net) (length no_steps)) ≡ take 128 net.blocks =
    ap (reads ws (opened_value ws) 0) all ∙ reads_all ws fine (block_count net) 0 (omega arith) ∙ sym (take_all 128 net.blocks few) in
    ap (λ (x : Opened). steps_put x.sizes (planned_blocks ws x (length no_steps)) no_steps) e
    ∙ ap (λ (bs : List Block). steps_put net.sizes bs no_steps) blocks
