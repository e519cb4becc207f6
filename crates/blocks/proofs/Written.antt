-- What a block of an accepted network leaves: there is room for what it writes, so every bit of the table afterwards is the one that the
-- block put there or the one that was there. From this the frame and the key rule. Assumes nothing.
use mathlib.Core.Path.{◌≡◌, refl, sym, ap, ◌∙◌, subst}
use mathlib.Core.Bool.{Bool}
use mathlib.Core.List.{List}
use mathlib.Core.Logic.{◌⊎◌, inl, inr, ⊎_elim}
use mathlib.Core.Option.{Option, none, some}
use Prim.Native.Nat.{ℕ, ◌+◌, ◌*◌, ◌≤◌, ◌<◌}
use native.Mathlib.Omega.{arith}
use lib.ListN.{length, get_or}
use Rattle.bits.specs.Bit.{bit}
use Rattle.record.specs.declared.Block.{Block}
use Rattle.network.specs.Network.{Network}
use Rattle.table.specs.Table.{total}
use Rattle.blocks.specs.declared.Power.{Power}
use Rattle.blocks.specs.Kind.{kind_of}
use Rattle.blocks.specs.View.{first_word}
use Rattle.blocks.specs.Effect.{Effect}
use Rattle.blocks.specs.Work.{pointer_node, one_word, matrix_put, change_put, coil_put, outputs, effect_on, block_outputs, block_table}
use Rattle.blocks.specs.Truths.{matrix_bit, change_bit, coil_bit, later, bit_written, or_stays, Runs, NoCoil, SameLong, EveryBit, Frame, InputsStay, KeyRule}
use Rattle.blocks.proofs.Places.{Fits, Destination, Register, Writes, writes}
use Rattle.blocks.proofs.Puts.{Off, Room, Makes, makes_so, put_length, put_bits, put_spares, put_spares_word, change_length, change_bits, change_spares, change_spares_word, coil_length, coil_bits, coil_spares, coil_word}
use Rattle.blocks.proofs.Viewed.{effect_same}

or_later : (a w : Option Bool) (x : Bool) → or_stays (later a w) x ≡ or_stays a (or_stays w x)
or_later none w x = refl
or_later (some y) w x = refl

-- ---- the tables that a block's writes leave, one after the other: its destination, its pointer, its coils
module _ (net : Network) (b : Block) (t : List ℕ) (on : Power) where
  abbrev e : Effect
  e = effect_on net b t on

  abbrev destination_at : ℕ
  destination_at = first_word net b.middle

  abbrev pointer_at : ℕ
  pointer_at = first_word net (pointer_node (kind_of b.kind) b)

  abbrev with_destination : List ℕ
  with_destination = change_put destination_at b.n e.destination t

  abbrev pub with_pointer : List ℕ
  with_pointer = matrix_put pointer_at (one_word e.pointer) with_destination

  abbrev with_top : List ℕ
  with_top = coil_put net b.coils.top on.top with_pointer

  abbrev with_middle : List ℕ
  with_middle = coil_put net b.coils.middle e.middle with_top

  module _ (earlier : ℕ) (r : Runs net earlier b t) where
    w : Writes (Destination net b) (Register net b) b.n e
    w = writes net earlier b t r on

    room_1 : Makes (destination_at + b.n ≤ length t) b.n e.destination
    room_1 = makes_so b.n e.destination (λ d. omega (arith, d.fits.inside, r.exact)) w.destination

    long_1 : length with_destination ≡ total net.sizes
    long_1 = change_length destination_at b.n e.destination t room_1 ∙ r.exact

    room_2 : Room (length with_destination) pointer_at (one_word e.pointer)
    room_2 m q = omega (arith, (w.pointer.each m q).fits.inside, long_1)

    long_2 : length with_pointer ≡ total net.sizes
    long_2 = put_length pointer_at (one_word e.pointer) with_destination room_2 ∙ long_1

    coils_in : (u : List ℕ) → length u ≡ total net.sizes → net.sizes.coils ≤ length u
    coils_in u q = omega arith

    long_3 : length with_top ≡ total net.sizes
    long_3 = coil_length net b.coils.top on.top with_pointer (coils_in with_pointer long_2) ∙ long_2

    long_4 : length with_middle ≡ total net.sizes
    long_4 = coil_length net b.coils.middle e.middle with_top (coils_in with_top long_3) ∙ long_3

    long_after : length (block_table net b t on) ≡ length t
    unfolding block_table
    long_after = coil_length net b.coils.bottom e.bottom with_middle (coils_in with_middle long_4) ∙ long_4 ∙ sym r.exact

    -- ---- every bit afterwards
    bit_after : (p : ℕ) → bit (block_table net b t on) p ≡ or_stays (bit_written net b on e p) (bit t p)
    unfolding block_table
    bit_after p =
        coil_bits net b.coils.bottom e.bottom with_middle (coils_in with_middle long_4) r.good.bottom_coil p
        ∙ ap (or_stays c₃)
        (coil_bits net b.coils.middle e.middle with_top (coils_in with_top long_3) r.good.middle_coil p
        ∙ ap (or_stays c₂)
        (coil_bits net b.coils.top on.top with_pointer (coils_in with_pointer long_2) r.good.top_coil p
        ∙ ap (or_stays c₁)
        (put_bits pointer_at (one_word e.pointer) with_destination room_2 p
        ∙ ap (or_stays q) (change_bits destination_at b.n e.destination t room_1 p)
        ∙ sym (or_later q d (bit t p)))
        ∙ sym (or_later c₁ (later q d) (bit t p)))
        ∙ sym (or_later c₂ (later c₁ (later q d)) (bit t p)))
        ∙ sym (or_later c₃ (later c₂ (later c₁ (later q d))) (bit t p))
      where
        c₃ : Option Bool
        c₃ = coil_bit b.coils.bottom e.bottom p

        c₂ : Option Bool
        c₂ = coil_bit b.coils.middle e.middle p

        c₁ : Option Bool
        c₁ = coil_bit b.coils.top on.top p

        q : Option Bool
        q = matrix_bit pointer_at (one_word e.pointer) p

        d : Option Bool
        d = change_bit destination_at e.destination p

    -- ---- what stays

    -- bits and words outside the destination and the pointer are as they were until the coils are written
    pub work_spares : (p : ℕ) → (Destination net b → Off destination_at b.n p)
        → ((m : List ℕ) → one_word e.pointer ≡ some m → Off pointer_at (length m) p) → bit with_pointer p ≡ bit t p
    work_spares p f g =
        put_spares pointer_at (one_word e.pointer) with_destination room_2 p g
        ∙ change_spares destination_at b.n e.destination t p
        (makes_so b.n e.destination (λ d. (omega (arith, d.fits.inside, r.exact), f d)) w.destination)

    pub work_spares_word : (k : ℕ) → (Destination net b → (k < destination_at) ⊎ (destination_at + b.n ≤ k))
        → ((m : List ℕ) → one_word e.pointer ≡ some m → (k < pointer_at) ⊎ (pointer_at + length m ≤ k)) → get_or with_pointer k 0 ≡ get_or t k 0
    work_spares_word k f g =
        put_spares_word pointer_at (one_word e.pointer) with_destination room_2 k g
        ∙ change_spares_word destination_at b.n e.destination t k
        (makes_so b.n e.destination (λ d. (omega (arith, d.fits.inside, r.exact), f d)) w.destination)

    -- and from there on those that are none of the coils
    pub coils_spare : (p : ℕ) → NoCoil b p → bit (block_table net b t on) p ≡ bit with_pointer p
    unfolding block_table
    coils_spare p n =
        coil_spares net b.coils.bottom e.bottom with_middle (coils_in with_middle long_4) r.good.bottom_coil p n.no_bottom
        ∙ coil_spares net b.coils.middle e.middle with_top (coils_in with_top long_3) r.good.middle_coil p n.no_middle
        ∙ coil_spares net b.coils.top on.top with_pointer (coils_in with_pointer long_2) r.good.top_coil p n.no_top

    pub coils_spare_word : (k : ℕ) → net.sizes.coils ≤ k → get_or (block_table net b t on) k 0 ≡ get_or with_pointer k 0
    unfolding block_table
    coils_spare_word k l =
        coil_word net b.coils.bottom e.bottom with_middle (coils_in with_middle long_4) k l
        ∙ coil_word net b.coils.middle e.middle with_top (coils_in with_top long_3) k l
        ∙ coil_word net b.coils.top on.top with_pointer (coils_in with_pointer long_2) k l

    -- a bit that is none of the pointer's and none of the coils' is as the destination's change leaves it
    pub beside_pointer : (p : ℕ) → NoCoil b p → ((pointer_node (kind_of b.kind) b).class ≡ 4 → Off pointer_at 1 p)
        → bit (block_table net b t on) p ≡ or_stays (change_bit destination_at e.destination p) (bit t p)
    beside_pointer p n off =
        coils_spare p n
        ∙ put_spares pointer_at (one_word e.pointer) with_destination room_2 p
        (λ m q. subst (λ (k : ℕ). Off pointer_at k p) (sym (w.pointer.each m q).one_long) (off (w.pointer.each m q).held))
        ∙ change_bits destination_at b.n e.destination t room_1 p

-- what fits spares the inputs
no_input : {net : Network} {s words p : ℕ} → Fits net s words → 16 * net.sizes.coils < p → p ≤ 16 * (net.sizes.coils + net.sizes.discretes + net.sizes.inputs) → Off s words p
no_input f l u = ⊎_elim (λ h. inr (omega arith)) (λ h. inl (omega arith)) f.no_inputs

pub same_long : SameLong
same_long net earlier b t r on = long_after net b t on earlier r

pub every_bit : EveryBit
every_bit net earlier b t r on = bit_after net b t on earlier r

pub frame : Frame
frame net earlier b t r on p q = every_bit net earlier b t r on p ∙ ap (λ (o : Option Bool). or_stays o (bit t p)) q

pub inputs_stay : InputsStay
inputs_stay net earlier b t r on p l u =
    let w = writes net earlier b t r on in
    coils_spare net b t on earlier r p (record {
      no_top = inr (λ q. omega (arith, r.good.top_coil));
      no_middle = inr (λ q. omega (arith, r.good.middle_coil));
      no_bottom = inr (λ q. omega (arith, r.good.bottom_coil));
    })
    ∙ work_spares net b t on earlier r p (λ d. no_input d.fits l u) (λ m q. no_input (w.pointer.each m q).fits l u)

-- ---- the key rule
pub key_rule : KeyRule
unfolding block_outputs
key_rule net earlier b t u r s agree on = (ap (outputs on) same, bits)
  where
    same : effect_on net b t on ≡ effect_on net b u on
    same = effect_same net b t u r.good.length_low agree on

    bits : (p : ℕ) (x : Bool) → bit_written net b on (effect_on net b t on) p ≡ some x
        → (bit (block_table net b t on) p ≡ x) × (bit (block_table net b u on) p ≡ x)
    bits p x q = (
      every_bit net earlier b t r on p ∙ ap (λ (o : Option Bool). or_stays o (bit t p)) q,
      every_bit net earlier b u s on p
          ∙ ap (λ (o : Option Bool). or_stays o (bit u p)) (ap (λ (e : Effect). bit_written net b on e p) (sym same) ∙ q),
    )
