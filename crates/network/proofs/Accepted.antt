-- The checker accepts exactly the words of good networks: a network's words spell it, and the words at the front of which a network is
-- accepted begin with its words. Assumes nothing.
use mathlib.Core.Path.{◌≡◌, refl, sym, ap, ap₂, ◌∙◌, subst⁻¹}
use mathlib.Core.Bool.{Bool, true, false, cond}
use mathlib.Core.List.{List, [], ◌∷◌, ◌++◌, flat_map, append_assoc, append-nil}
use Prim.Native.Nat.{ℕ, zero, suc, ◌+◌, ◌*◌, ◌≤◌}
use native.Mathlib.Omega.{arith}
use lib.ListN.{length, take, drop, length-append, length-drop}
use lib.Seq.{take_at, take-add, take_all, length-take-le}
use Rattle.section.specs.Walk.{word, first_of}
use Rattle.verdict.specs.Verdict.{Verdict, done, said_by}
use Rattle.section.specs.Section.{section_earns, meaning, records_in}
use Rattle.section.proofs.Words.{one_more}
use Rattle.table.specs.declared.sizes.Sizes.{Sizes}
use Rattle.areas.specs.Areas.{sizes_faults, has_level, area_count, areas_section, areas_spelled, areas_end}
use Rattle.areas.proofs.Laws.{areas_front}
use Rattle.record.specs.declared.Block.{Block}
use Rattle.record.specs.Record.{record_words, block_in, spelled}
use Rattle.record.proofs.Words.{spelled_long, spelled_back, spelled_rest, fifteen}
use Rattle.network.specs.Network.{Network, block_count, words_of}
use Rattle.network.specs.Check.{blocks_section, network_in, network_end, front_checked, checked, leading, opened}
use Rattle.network.specs.Sound.{GoodNetwork, Sound, AcceptsExactly, Spellable, SpellsBack}
use Rattle.network.proofs.Good.{front_good, good_front, good_whole, whole_front}
use Rattle.network.proofs.Networks.{sizes_is, blocks_are, count_is, end_is, front_done}

-- ---- a network's words, whatever follows them
blocks_long : (bs : List Block) → length (flat_map spelled bs) ≡ record_words * length bs
unfolding flat_map
blocks_long [] = refl
blocks_long (b ∷ bs) = length-append (spelled b) (flat_map spelled bs) ∙ omega (arith, spelled_long b, blocks_long bs)

module _ (after : List ℕ) where
  blocks_back : (bs : List Block) → records_in record_words block_in (length bs) (flat_map spelled bs ++ after) ≡ bs
  unfolding records_in flat_map
  blocks_back [] = refl
  blocks_back (b ∷ bs) =
      let rest : List ℕ = flat_map spelled bs ++ after in
      let here : spelled b ++ flat_map spelled bs ++ after ≡ spelled b ++ rest = append_assoc (spelled b) (flat_map spelled bs) after in
      ap₂ ◌∷◌ (ap block_in here ∙ spelled_back b rest)
      (ap (records_in record_words block_in (length bs)) (ap (drop record_words) here ∙ spelled_rest b rest) ∙ blocks_back bs)

  module _ (net : Network) where
    pub spells_front : (with_level : Bool) → Spellable with_level net → network_in (words_of with_level net ++ after) ≡ net
    unfolding network_in meaning areas_section blocks_section section_earns sizes_faults words_of
    spells_front true s = λ i. record { sizes = net.sizes; blocks = blocks_back net.blocks i }
    spells_front false s = λ i. record {
      sizes = record {
        coils = net.sizes.coils;
        discretes = net.sizes.discretes;
        inputs = net.sizes.inputs;
        holding = net.sizes.holding;
        level = sym (s refl) i;
      };
      blocks = blocks_back net.blocks i;
    }

    -- the first word says whether the level is among them
    pub level_front : (with_level : Bool) → has_level (first_of (words_of with_level net ++ after)) ≡ with_level
    unfolding words_of
    level_front true = refl
    level_front false = refl

    count_front : (with_level : Bool) → area_count (first_of (words_of with_level net ++ after)) ≡ true
    unfolding words_of
    count_front true = refl
    count_front false = refl

    pub end_front : (with_level : Bool) → network_end (words_of with_level net ++ after) ≡ length (words_of with_level net)
    unfolding words_of
    end_front true = end_is (words_of true net ++ after) ∙ omega (arith, blocks_long net.blocks)
    end_front false = end_is (words_of false net ++ after) ∙ omega (arith, blocks_long net.blocks)

    pub good_front_done : (with_level : Bool) → Spellable with_level net → GoodNetwork net → front_checked (words_of with_level net ++ after) ≡ done
    good_front_done with_level s g =
        good_front (words_of with_level net ++ after) (count_front with_level) (subst⁻¹ GoodNetwork (spells_front with_level s) g)
        (omega (arith, end_front with_level, length-append (words_of with_level net) after))

pub spells_back : SpellsBack
spells_back with_level net s = ap network_in (sym (append-nil (words_of with_level net))) ∙ spells_front [] net with_level s

pub words_end : (with_level : Bool) (net : Network) → network_end (words_of with_level net) ≡ length (words_of with_level net)
words_end with_level net = ap network_end (sym (append-nil (words_of with_level net))) ∙ end_front [] net with_level

pub good_accepted : (with_level : Bool) (net : Network) → Spellable with_level net → GoodNetwork net → checked (words_of with_level net) ≡ done
good_accepted with_level net s g =
    let all : List ℕ = words_of with_level net in
    good_whole all (ap (λ (l : List ℕ). area_count (first_of l)) (sym (append-nil all)) ∙ count_front [] net with_level)
    (subst⁻¹ GoodNetwork (spells_back with_level net s) g) (sym (words_end with_level net))

-- ---- the words at the front of others
records_front : (n : ℕ) (ws : List ℕ) → record_words * n ≤ length ws → flat_map spelled (records_in record_words block_in n ws) ≡ take (record_words * n) ws
unfolding flat_map records_in
records_front zero ws u = refl
records_front (suc n) ws u =
    let rest : List ℕ = drop record_words ws in
    let here : spelled (block_in ws) ++ rest ≡ ws = fifteen ws (omega arith) in
    let more : record_words + record_words * n ≡ record_words * suc n = omega arith in
    ap₂ ◌++◌
    (sym (take_at (spelled (block_in ws)) rest record_words (spelled_long (block_in ws))) ∙ ap (take record_words) here)
    (records_front n rest (omega (arith, u, length-drop record_words ws)))
    ∙ sym (take-add record_words (record_words * n) ws)
    ∙ ap (λ (k : ℕ). take k ws) more

pub front_words : (ws : List ℕ) → (front_checked ws).number ≡ 0 → words_of (has_level (first_of ws)) (network_in ws) ≡ take (network_end ws) ws
unfolding words_of
front_words ws e =
    let all = front_good ws e in
    let at : ℕ = areas_end ws in
    let count : ℕ = word ws at in
    let last : network_end ws ≡ at + 1 + record_words * count = end_is ws in
    let fits : network_end ws ≤ length ws = all.2 in
    let records : flat_map spelled (network_in ws).blocks ≡ take (record_words * count) (drop (at + 1) ws) =
    ap (flat_map spelled) (blocks_are ws) ∙ records_front count (drop (at + 1) ws) (omega (arith, fits, last, length-drop (at + 1) ws)) in
    ap₂ (λ (z : Sizes) (c : ℕ). areas_spelled (has_level (first_of ws)) z ++ c ∷ flat_map spelled (network_in ws).blocks) (sizes_is ws) (count_is ws)
    ∙ ap₂ (λ (l m : List ℕ). l ++ count ∷ m) (areas_front ws all.0 (omega (arith, fits, last))) records
    ∙ one_more ws at (record_words * count) (omega (arith, fits, last))
    ∙ ap (λ (k : ℕ). take k ws) (sym last)

-- Level 1 alone may be left out of the words that spell it
pub spellable : (ws : List ℕ) → Spellable (has_level (first_of ws)) (network_in ws)
spellable ws e = ap (λ (z : Sizes). z.level) (sizes_is ws) ∙ ap (λ (b : Bool). cond b (word (drop 1 ws) 4) 1) e

-- they are a network of their own, which is the same and opens as it does at the front
pub front_network : (ws : List ℕ) → (front_checked ws).number ≡ 0 → network_in (take (network_end ws) ws) ≡ network_in ws
front_network ws e = ap network_in (sym (front_words ws e)) ∙ spells_back (has_level (first_of ws)) (network_in ws) (spellable ws)

pub front_opens : (ws : List ℕ) → (front_checked ws).number ≡ 0 → opened (take (network_end ws) ws) ≡ leading ws
front_opens ws e =
    let net : Network = network_in ws in
    let level : Bool = has_level (first_of ws) in
    let back = spells_back level net (spellable ws) in
    let all = front_good ws e in
    let long : network_end ws ≡ length (words_of level net) = sym (ap length (front_words ws e) ∙ length-take-le (network_end ws) ws all.2) in
    ap opened (sym (front_words ws e))
    ∙ λ i. said_by ((good_accepted level net (spellable ws) all.1 ∙ sym (front_done ws e)) i)
    (record {
      sizes = (back i).sizes;
      count = block_count (back i);
      next = (words_end level net ∙ sym long) i;
    })

-- ---- all of the words
accepted_sound : (ws : List ℕ) → (checked ws).number ≡ 0 → Sound ws
accepted_sound ws e =
    let front = whole_front ws e in
    record {
      network = (front_good ws front.0).1;
      words = front_words ws front.0 ∙ take_all (network_end ws) ws (omega (arith, front.1));
    }

pub accepts_exactly : AcceptsExactly
accepts_exactly ws = (
  accepted_sound ws,
  λ s. ap (λ (l : List ℕ). (checked l).number) (sym s.words) ∙ ap (λ (v : Verdict). v.number) (good_accepted (has_level (first_of ws)) (network_in ws) (spellable ws) s.network),
)
