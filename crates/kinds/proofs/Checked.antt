-- A block of a checked network is not refused: what the call of its work answers and leaves is what the definitions say of the block in
-- its network; and so is the pointer that it shows. Assumes nothing.
use mathlib.Core.Path.{◌≡◌, refl, ap, ◌∙◌}
use mathlib.Core.Bool.{cond}
use mathlib.Core.List.{List}
use mathlib.Core.Logic.{◌⊎◌, inl, inr, ⊎_elim}
use Prim.Native.Nat.{ℕ, zero, suc, ◌+◌, ◌≤◌}
use native.Mathlib.Omega.{arith}
use lib.ListN.{length}
use Rattle.runs.specs.Run.{fault}
use Rattle.bits.specs.Bit.{longest, longest_whole}
use Rattle.runs.proofs.Refusals.{unless_done, fault_none}
use Rattle.record.specs.declared.Block.{Block}
use Rattle.network.specs.Network.{Network}
use Rattle.rules.specs.Rules.{kind}
use Rattle.rules.proofs.KindFacts.{Pointed, KindFacts, accepted_means}
use Rattle.blocks.specs.declared.Power.{Power}
use Rattle.blocks.specs.Kind.{Kind, kind_of}
use Rattle.blocks.specs.Kind.Kind.{AND, OR, XOR, COMP, CMPR, MBIT, SENS, BROT}
use Rattle.blocks.specs.View.{first_word, located, view}
use Rattle.blocks.specs.Work.{pointer_node, effect_put, effect_on, outputs, block_outputs}
use Rattle.blocks.specs.Answer.{finished, refused}
use Rattle.blocks.specs.Truths.{Runs}
use Rattle.pointed.specs.Call.{compare_fault, pointed_fault}
use Rattle.pointed.proofs.Refusing.{register_inside, constant_taken, register_taken}
use Rattle.kinds.specs.Call.{kind_fault, work_fault, pointer_word, work_answer, work_table}

-- the pointer's word is the first of its node
pub word_of_node : (k : Kind) (net : Network) (b : Block) → pointer_word k (located net b) ≡ first_word net (pointer_node k b)
word_of_node AND net b = refl
word_of_node OR net b = refl
word_of_node XOR net b = refl
word_of_node COMP net b = refl
word_of_node CMPR net b = refl
word_of_node MBIT net b = refl
word_of_node SENS net b = refl
word_of_node BROT net b = refl

module _ (net : Network) (earlier : ℕ) (b : Block) (t : List ℕ) (r : Runs net earlier b t) where
  facts : KindFacts net.sizes b
  facts = accepted_means net.sizes earlier b r.good

  -- ---- its words lie in the table
  whole_lies : (b.kind ≤ 4) ⊎ (b.kind ≡ 8) → fault longest_whole (length t) b.n (first_word net b.top) (first_word net b.middle) ≡ 0
  whole_lies k =
      let h = facts.two k in
      fault_none longest_whole (length t) b.n (first_word net b.top) (first_word net b.middle) (record {
        some_words = h.some;
        few = h.few;
        first = omega (arith, h.source, r.exact);
        second = omega (arith, h.destination, r.exact);
      })

  compared_lies : b.kind ≡ 5 → compare_fault (length t) b.n (first_word net b.top) (first_word net b.middle) ≡ 0
  compared_lies k =
      let h = facts.compare k in
      register_inside (length t) b.n (first_word net b.top) (first_word net b.middle) (omega (arith, h.pointer_and_matrix, r.exact))
      ∙ fault_none longest_whole (length t) b.n (first_word net b.top) (first_word net b.middle + 1) (record {
        some_words = h.some;
        few = h.few;
        first = omega (arith, h.source, r.exact);
        second = omega (arith, h.pointer_and_matrix, r.exact);
      })

  pointed_lies : Pointed net.sizes b → pointed_fault (length t) b.top (first_word net b.top) b.n (first_word net b.middle) ≡ 0
  pointed_lies h =
      ⊎_elim
      (λ e. constant_taken (length t) b.top (first_word net b.top) b.n (first_word net b.middle) run e)
      (λ e. register (⊎_elim (λ q. λ z. omega (arith, q, z)) (λ q. λ z. omega (arith, q, z)) e))
      h.pointer
    where
      run : fault longest (length t) b.n (first_word net b.middle) (first_word net b.middle) ≡ 0
      run = fault_none longest (length t) b.n (first_word net b.middle) (first_word net b.middle) (record {
        some_words = h.some;
        few = h.few;
        first = omega (arith, h.matrix, r.exact);
        second = omega (arith, h.matrix, r.exact);
      })

      register : (b.top.class ≡ 9 → ⊥) → pointed_fault (length t) b.top (first_word net b.top) b.n (first_word net b.middle) ≡ 0
      register no_constant = register_taken (length t) b.top (first_word net b.top) b.n (first_word net b.middle) run no_constant (omega (arith, h.register no_constant, r.exact))

  -- ---- it earns no refusal
  none_as : (k : ℕ) → b.kind ≡ k → 1 ≤ k → k ≤ 8 → cond (kind k) (kind_fault (kind_of k) (located net b) (length t)) 4 ≡ 0
  unfolding kind_of kind_fault
  none_as zero e l u = absurd (omega arith)
  none_as (suc zero) e l u = whole_lies (inl (omega (arith, e)))
  none_as (suc (suc zero)) e l u = whole_lies (inl (omega (arith, e)))
  none_as (suc (suc (suc zero))) e l u = whole_lies (inl (omega (arith, e)))
  none_as (suc (suc (suc (suc zero)))) e l u = whole_lies (inl (omega (arith, e)))
  none_as (suc (suc (suc (suc (suc zero))))) e l u = compared_lies e
  none_as (suc (suc (suc (suc (suc (suc zero)))))) e l u = pointed_lies (facts.modify e)
  none_as (suc (suc (suc (suc (suc (suc (suc zero))))))) e l u = pointed_lies (facts.sense e)
  none_as (suc (suc (suc (suc (suc (suc (suc (suc zero)))))))) e l u = whole_lies (inr e)
  none_as (suc (suc (suc (suc (suc (suc (suc (suc (suc k))))))))) e l u = absurd (omega arith)

  pub not_refused : work_fault (located net b) (length t) ≡ 0
  unfolding work_fault
  not_refused = none_as b.kind refl r.good.kind_low r.good.kind_high

  -- ---- so that it works as the definitions say
  module _ (on : Power) where
    pub answers_done : work_answer (located net b) t on ≡ finished (block_outputs net b t on)
    unfolding work_answer block_outputs view
    answers_done = unless_done (work_fault (located net b) (length t)) (finished (outputs on (effect_on net b t on))) (refused (work_fault (located net b) (length t))) not_refused

    pub table_done : work_table (located net b) t on ≡ effect_put (first_word net b.middle) b.n (first_word net (pointer_node (kind_of b.kind) b)) (effect_on net b t on) t
    unfolding work_table view
    table_done =
        unless_done (work_fault (located net b) (length t)) (effect_put (first_word net b.middle) b.n (pointer_word (kind_of b.kind) (located net b)) (effect_on net b t on) t) t not_refused
        ∙ ap (λ (p : ℕ). effect_put (first_word net b.middle) b.n p (effect_on net b t on) t) (word_of_node (kind_of b.kind) net b)
