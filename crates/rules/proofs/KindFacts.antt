-- What acceptance gives for each kind, for whoever works on an accepted network's blocks: the row of a kind says which classes its
-- nodes may have, and a node of such a class that is placed lies in the table. Assumes nothing.
use mathlib.Core.Path.{◌≡◌, refl, sym, ap, ◌∙◌, subst}
use mathlib.Core.Bool.{true, false, false≢true}
use mathlib.Core.Logic.{◌⊎◌, inl, inr, ⊎_elim}
use Prim.Native.Nat.{ℕ, zero, suc, ◌+◌, ◌≤◌}
use native.Mathlib.Decide.{ℕ_discrete}
use native.Mathlib.Omega.{arith}
use borrow.Author.Tests.{ne_eqb}
use Rattle.bits.specs.Bit.{longest_whole, longest}
use Rattle.level.specs.declared.ByLevel.{ByLevel}
use Rattle.level.specs.Level.{at_level, whole_length, single_length}
use Rattle.level.proofs.Limits.{at_most}
use Rattle.table.specs.declared.sizes.Sizes.{Sizes}
use Rattle.table.specs.Table.{area, total, start_of}
use Rattle.table.specs.Sound.{Placed}
use Rattle.table.proofs.Parts.{area_within}
use Rattle.record.specs.declared.Node.{Node}
use Rattle.record.specs.declared.Block.{Block}
use Rattle.rules.specs.declared.rules.Classes.{Classes}
use Rattle.rules.specs.declared.rules.Rule.{Rule}
use Rattle.rules.specs.Rules.{any_matrix, writable, held, pointers, row, rule, allows}
use Rattle.rules.specs.Fault.{constant_in, top_words}
use Rattle.rules.specs.Sound.{GoodNode, GoodBlock}

-- ---- the facts

-- so many words from a node's first word on lie in the table
abbrev pub Lies : Sizes → Node → ℕ → Type 0
Lies z node words = start_of z node.class node.number + words ≤ total z

-- a node whose words are written: coils or holding registers
abbrev pub Writable : Node → Type 0
Writable node = (node.class ≡ 0) ⊎ (node.class ≡ 4)

-- AND, OR, XOR, COMP and BROT: a source, and a destination that is written
pub record TwoMatrices (z : Sizes) (b : Block) : Type 0 where
  pub some : 1 ≤ b.n
  pub few : b.n ≤ longest_whole
  pub source : Lies z b.top b.n
  pub destination : Lies z b.middle b.n
  pub writable : Writable b.middle

-- CMPR: a source, and a pointer in a holding register with its matrix in the n registers after it
pub record Compared (z : Sizes) (b : Block) : Type 0 where
  pub some : 1 ≤ b.n
  pub few : b.n ≤ longest_whole
  pub source : Lies z b.top b.n
  pub held : b.middle.class ≡ 4
  pub pointer_and_matrix : Lies z b.middle (b.n + 1)

-- MBIT and SENS: a pointer that is a constant or one register, and a matrix
pub record Pointed (z : Sizes) (b : Block) : Type 0 where
  pub some : 1 ≤ b.n
  pub few : b.n ≤ longest
  pub constant : b.top.class ≡ 9 → b.top.number ≤ constant_in z
  pub register : (b.top.class ≡ 9 → ⊥) → Lies z b.top 1
  pub pointer : (b.top.class ≡ 9) ⊎ ((b.top.class ≡ 3) ⊎ (b.top.class ≡ 4))
  pub matrix : Lies z b.middle b.n

-- each kind has its facts
pub record KindFacts (z : Sizes) (b : Block) : Type 0 where
  pub two : (b.kind ≤ 4) ⊎ (b.kind ≡ 8) → TwoMatrices z b
  pub compare : b.kind ≡ 5 → Compared z b
  pub modify : b.kind ≡ 6 → Pointed z b
  pub modified : b.kind ≡ 6 → Writable b.middle
  pub sense : b.kind ≡ 7 → Pointed z b

-- ---- the classes of a node
data Class (class : ℕ) : Type 0 where
  a_coil : class ≡ 0 → Class class
  a_discrete : class ≡ 1 → Class class
  an_input : class ≡ 3 → Class class
  a_holding : class ≡ 4 → Class class
  a_constant : class ≡ 9 → Class class

known : (c : Classes) (class : ℕ) → allows c class ≡ true → Class class
unfolding allows
known c class e = elim (ℕ_discrete class 0) [
  | yes p ↦ a_coil p
  | no p ↦ elim (ℕ_discrete class 1) [
    | yes q ↦ a_discrete q
    | no q ↦ elim (ℕ_discrete class 3) [
      | yes r ↦ an_input r
      | no r ↦ elim (ℕ_discrete class 4) [
        | yes s ↦ a_holding s
        | no s ↦ elim (ℕ_discrete class 9) [
          | yes t ↦ a_constant t
          | no t ↦ absurd (false≢true (sym (none p q r s t) ∙ e))
        ]
      ]
    ]
  ]
]
  where
    none : (class ≡ 0 → ⊥) → (class ≡ 1 → ⊥) → (class ≡ 3 → ⊥) → (class ≡ 4 → ⊥) → (class ≡ 9 → ⊥) → allows c class ≡ false
    none p q r s t = simp (ne_eqb class 0 p, ne_eqb class 1 q, ne_eqb class 3 r, ne_eqb class 4 s, ne_eqb class 9 t)

-- a class that is allowed at a row's value of it
at : (c : Classes) {class : ℕ} (k : ℕ) → class ≡ k → allows c class ≡ true → allows c k ≡ true
at c k p e = subst (λ (x : ℕ). allows c x ≡ true) p e

area_at : {class : ℕ} (k : ℕ) → class ≡ k → area k ≡ true → area class ≡ true
area_at k p e = subst (λ (x : ℕ). area x ≡ true) (sym p) e

-- a node that may be any matrix, or one that is written, is in an area and no constant
record InArea (class : ℕ) : Type 0 where
  is_area : area class ≡ true
  no_constant : class ≡ 9 → ⊥

any_area : (class : ℕ) → allows any_matrix class ≡ true → InArea class
unfolding allows
any_area class e = go (known any_matrix class e)
  where
    go : Class class → InArea class
    go (a_coil p) = record { is_area = area_at 0 p refl; no_constant = λ q. omega arith }
    go (a_discrete p) = record { is_area = area_at 1 p refl; no_constant = λ q. omega arith }
    go (an_input p) = record { is_area = area_at 3 p refl; no_constant = λ q. omega arith }
    go (a_holding p) = record { is_area = area_at 4 p refl; no_constant = λ q. omega arith }
    go (a_constant p) = absurd (false≢true (at any_matrix 9 p e))

written_class : (class : ℕ) → allows writable class ≡ true → (class ≡ 0) ⊎ (class ≡ 4)
unfolding allows
written_class class e = go (known writable class e)
  where
    go : Class class → (class ≡ 0) ⊎ (class ≡ 4)
    go (a_coil p) = inl p
    go (a_discrete p) = absurd (false≢true (at writable 1 p e))
    go (an_input p) = absurd (false≢true (at writable 3 p e))
    go (a_holding p) = inr p
    go (a_constant p) = absurd (false≢true (at writable 9 p e))

held_class : (class : ℕ) → allows held class ≡ true → class ≡ 4
unfolding allows
held_class class e = go (known held class e)
  where
    go : Class class → class ≡ 4
    go (a_coil p) = absurd (false≢true (at held 0 p e))
    go (a_discrete p) = absurd (false≢true (at held 1 p e))
    go (an_input p) = absurd (false≢true (at held 3 p e))
    go (a_holding p) = p
    go (a_constant p) = absurd (false≢true (at held 9 p e))

pointer_class : (class : ℕ) → allows pointers class ≡ true → (class ≡ 9) ⊎ ((class ≡ 3) ⊎ (class ≡ 4))
unfolding allows
pointer_class class e = go (known pointers class e)
  where
    go : Class class → (class ≡ 9) ⊎ ((class ≡ 3) ⊎ (class ≡ 4))
    go (a_coil p) = absurd (false≢true (at pointers 0 p e))
    go (a_discrete p) = absurd (false≢true (at pointers 1 p e))
    go (an_input p) = inr (inl p)
    go (a_holding p) = inr (inr p)
    go (a_constant p) = inl p

of_written : (class : ℕ) → (class ≡ 0) ⊎ (class ≡ 4) → InArea class
of_written class = ⊎_elim
    (λ p. record { is_area = area_at 0 p refl; no_constant = λ q. omega arith })
    (λ p. record { is_area = area_at 4 p refl; no_constant = λ q. omega arith })

-- ---- a node that is placed in an area lies in the table
lies : (z : Sizes) (node : Node) (words : ℕ) → area node.class ≡ true → Placed z node.class node.number words → Lies z node words
unfolding start_of
lies z node words a p = omega (arith, p.inside, area_within z node.class a)

in_area : (z : Sizes) (classes : Classes) (node : Node) (words : ℕ) → GoodNode z classes node words → InArea node.class → Lies z node words
in_area z classes node words g a = lies z node words a.is_area (g.placed a.no_constant)

-- ---- the facts of a record whose kind's row is known
module _ (z : Sizes) (earlier : ℕ) (b : Block) (g : GoodBlock z earlier b) where
  -- its length is at most what its row has at any level
  few : (lengths : ByLevel) (most : ℕ) → (rule b.kind).most ≡ lengths → lengths.one ≤ most → lengths.two ≤ most → b.n ≤ most
  few lengths most e l u =
      let low : b.n ≤ at_level lengths z.level = subst (λ (x : ByLevel). b.n ≤ at_level x z.level) e g.length_high in
      omega (arith, low, at_most lengths most z.level l u)

  two_matrices : rule b.kind ≡ row any_matrix writable whole_length 0 false → TwoMatrices z b
  two_matrices e =
      let top : GoodNode z any_matrix b.top b.n =
      subst (λ (r : Rule). GoodNode z r.top b.top (top_words r.pointer b.n)) e g.top_node in
      let middle : GoodNode z writable b.middle (b.n + 0) =
      subst (λ (r : Rule). GoodNode z r.middle b.middle (b.n + r.extra)) e g.middle_node in
      let w = written_class b.middle.class middle.class_allowed in
      record {
        some = g.length_low;
        few = few whole_length longest_whole (ap (λ (r : Rule). r.most) e) (omega arith) (omega arith);
        source = in_area z any_matrix b.top b.n top (any_area b.top.class top.class_allowed);
        destination = plus_none (in_area z writable b.middle (b.n + 0) middle (of_written b.middle.class w));
        writable = w;
      }
    where
      plus_none : Lies z b.middle (b.n + 0) → Lies z b.middle b.n
      plus_none l = omega arith

  compared : rule b.kind ≡ row any_matrix held whole_length 1 false → Compared z b
  compared e =
      let top : GoodNode z any_matrix b.top b.n =
      subst (λ (r : Rule). GoodNode z r.top b.top (top_words r.pointer b.n)) e g.top_node in
      let middle : GoodNode z held b.middle (b.n + 1) =
      subst (λ (r : Rule). GoodNode z r.middle b.middle (b.n + r.extra)) e g.middle_node in
      let h = held_class b.middle.class middle.class_allowed in
      record {
        some = g.length_low;
        few = few whole_length longest_whole (ap (λ (r : Rule). r.most) e) (omega arith) (omega arith);
        source = in_area z any_matrix b.top b.n top (any_area b.top.class top.class_allowed);
        held = h;
        pointer_and_matrix = in_area z held b.middle (b.n + 1) middle (of_written b.middle.class (inr h));
      }

  pointed : (c : Classes) → ((class : ℕ) → allows c class ≡ true → InArea class) → rule b.kind ≡ row pointers c single_length 0 true → Pointed z b
  pointed c areas e =
      let top : GoodNode z pointers b.top 1 =
      subst (λ (r : Rule). GoodNode z r.top b.top (top_words r.pointer b.n)) e g.top_node in
      let middle : GoodNode z c b.middle (b.n + 0) =
      subst (λ (r : Rule). GoodNode z r.middle b.middle (b.n + r.extra)) e g.middle_node in
      let p = pointer_class b.top.class top.class_allowed in
      record {
        some = g.length_low;
        few = few single_length longest (ap (λ (r : Rule). r.most) e) (omega arith) (omega arith);
        constant = top.constant;
        register = λ h. lies z b.top 1 (⊎_elim (λ q. absurd (h q)) (⊎_elim (λ q. area_at 3 q refl) (λ q. area_at 4 q refl)) p) (top.placed h);
        pointer = p;
        matrix = plus_none (in_area z c b.middle (b.n + 0) middle (areas b.middle.class middle.class_allowed));
      }
    where
      plus_none : Lies z b.middle (b.n + 0) → Lies z b.middle b.n
      plus_none l = omega arith

  row_of : (kind : ℕ) → b.kind ≡ kind → rule b.kind ≡ rule kind
  row_of kind e = ap rule e

  logic_row : (b.kind ≤ 4) ⊎ (b.kind ≡ 8) → rule b.kind ≡ row any_matrix writable whole_length 0 false
  unfolding rule
  logic_row (inl l) = low b.kind g.kind_low l
    where
      low : (m : ℕ) → 1 ≤ m → m ≤ 4 → rule m ≡ row any_matrix writable whole_length 0 false
      low zero a u = absurd (omega arith)
      low (suc zero) a u = refl
      low (suc (suc zero)) a u = refl
      low (suc (suc (suc zero))) a u = refl
      low (suc (suc (suc (suc zero)))) a u = refl
      low (suc (suc (suc (suc (suc m))))) a u = absurd (omega arith)
  logic_row (inr e) = row_of 8 e

  facts : KindFacts z b
  unfolding rule
  facts = record {
    two = λ h. two_matrices (logic_row h);
    compare = λ e. compared (row_of 5 e);
    modify = λ e. pointed writable (λ class a. of_written class (written_class class a)) (row_of 6 e);
    modified = λ e.
        written_class b.middle.class
        (subst (λ (r : Rule). allows r.middle b.middle.class ≡ true) (row_of 6 e) g.middle_node.class_allowed);
    sense = λ e. pointed any_matrix any_area (row_of 7 e);
  }

pub accepted_means : (z : Sizes) (earlier : ℕ) (b : Block) → GoodBlock z earlier b → KindFacts z b
accepted_means = facts
