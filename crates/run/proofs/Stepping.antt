-- The laws of a step's work: it does what the block's kind does, with the power that its work reads. Assumes nothing.
use mathlib.Core.Path.{◌≡◌, refl, sym, ap, ◌∙◌}
use mathlib.Core.Bool.{Bool, true, false, cond, ◌||◌}
use mathlib.Core.List.{List, [], ◌++◌}
use mathlib.Core.Logic.{◌⊎◌, ⊎_elim, inl, inr}
use mathlib.Core.Option.{Option, none}
use Prim.Native.Nat.{ℕ, zero, suc, ◌≤◌, ◌<◌, ◌*◌}
use native.Mathlib.Omega.{arith}
use borrow.Author.Tests.{eqb-true, eqb-false, ne_eqb}
use lib.Dec.{eqb, ltb}
use lib.ListN.{length, get_or, get_or-append}
use Rattle.matrix.specs.declared.logic.Operation.TheVariants.{And, Or, Xor, Comp}
use Rattle.runs.specs.Run.{unless}
use Rattle.record.specs.declared.{Block.Block, Node.Node}
use Rattle.network.specs.Network.{Network}
use Rattle.blocks.specs.declared.Power.{Power}
use Rattle.blocks.specs.declared.Located.{Located}
use Rattle.blocks.specs.Kind.{kind_of, has_pointer}
use Rattle.blocks.specs.View.{View, seen, top_run, compared_run, seen_by, first_word, located, pointer_at}
use Rattle.blocks.specs.Effect.{Effect, logic, compare, rotate, modify, sense, effect_of}
use Rattle.blocks.specs.Work.{pointer_node, one_word, matrix_put, change_put, effect_as, effect_put, effect_on, shows, block_outputs}
use Rattle.blocks.specs.Answer.{Worked, finished, refused}
use Rattle.blocks.specs.Truths.{Runs}
use Rattle.rules.specs.Rules.{kind}
use Rattle.bits.specs.Bit.{longest}
use Rattle.runs.specs.Run.{fault, run}
use Rattle.blocks.specs.declared.Outputs.{Outputs}
use Rattle.rules.proofs.KindFacts.{Pointed, KindFacts, accepted_means}
use Rattle.kinds.proofs.Checked.{answers_done, table_done}
use Rattle.kinds.specs.Call.{kind_fault, work_fault, pointer_word, work_answer, work_table, pointer_shown}
use Rattle.pointed.specs.declared.place.Place.{Place}
use Rattle.kinds.specs.declared.task.Work.{Work}
use Rattle.pointed.specs.declared.place.Place.TheVariants.{Constant, Input, Holding}
use Rattle.kinds.specs.declared.task.Work.TheVariants.{Combine, Compare, Modify, Sense, Rotate, Unknown}
use Rattle.pointed.specs.Places.{place_at, place_node, place_word}
use Rattle.kinds.specs.Tasks.{task_fault, task_effect, task_matrix, task_pointer, task_answer, task_table}
use Rattle.matrix.specs.Logic.{combined}
use Rattle.plan.specs.Plan.{place_of, work_of}
use Rattle.table.specs.Table.{total}
use Rattle.scan.specs.Scans.{pointer_of}
use Rattle.text.specs.Text.{decimal, pointer_field, uncounted}
use Rattle.run.specs.Inner.{power_read, shown_at, place_inside, pointer_inside, field_in, told}

-- ---- a pointer that is not held stays
three : (a b : Bool) (x y w : Effect) → x.pointer ≡ none → y.pointer ≡ none → w.pointer ≡ none → (cond a (cond b x y) w).pointer ≡ none
three true true x y w e f g = e
three true false x y w e f g = f
three false b x y w e f g = g

modify_stays : (n : ℕ) (v : View) (on : Power) → (modify false n v on).pointer ≡ none
unfolding modify
modify_stays n v on = three on.top (ltb (16 * n) v.pointer) _ _ _ refl refl refl

sense_stays : (n : ℕ) (v : View) (on : Power) → (sense false n v on).pointer ≡ none
unfolding sense
sense_stays n v on = three on.top (ltb (16 * n) v.pointer) _ _ _ refl refl refl

unwritten : (d n p q : ℕ) (e : Effect) (t : List ℕ) → e.pointer ≡ none → effect_put d n p e t ≡ effect_put d n q e t
unfolding matrix_put
unwritten d n p q e t h =
    ap (λ (o : Option ℕ). matrix_put p (one_word o) (change_put d n e.destination t)) h
    ∙ sym (ap (λ (o : Option ℕ). matrix_put q (one_word o) (change_put d n e.destination t)) h)

-- ---- a pointer's place: its node is a constant, in class 9, or held, in class 4, or neither, whatever else its class is
module _ (node : Node) (at : ℕ) (t : List ℕ) where
  abbrev place_by : Bool → Bool → Place
  place_by nine four = cond nine (Constant node.number) (cond four (Holding at) (Input at))

  pub record Says (nine four : Bool) : Type 0 where
    pub held : eqb (place_node (place_by nine four)).class 4 ≡ four
    pub pointer : pointer_at (place_node (place_by nine four)) (place_word (place_by nine four)) t ≡ cond nine node.number (get_or t at 0)
    pub word : (place_word (place_by nine four) ≡ at) ⊎ (four ≡ false)
    pub constant : (eqb (place_node (place_by nine four)).class 9 || ltb (place_word (place_by nine four)) (length t)) ≡ (nine || ltb at (length t))

  says : (nine four : Bool) → (nine ≡ true → four ≡ false) → Says nine four
  says true four h = record { word = inr (h refl); held = sym (h refl); pointer = refl; constant = refl }
  says false true h = record { word = inl refl; held = refl; pointer = refl; constant = refl }
  says false false h = record { word = inl refl; held = refl; pointer = refl; constant = refl }

  pub place_says : Says (eqb node.class 9) (eqb node.class 4)
  place_says = says (eqb node.class 9) (eqb node.class 4) (λ e. ne_eqb node.class 4 (λ q. omega (arith, eqb-true node.class 9 e, q)))

  place_lies : (words : ℕ) (nine four : Bool) → (nine ≡ false → at < words) → place_inside words (place_by nine four)
  place_lies words true four l = omega arith
  place_lies words false true l = l refl
  place_lies words false false l = l refl

-- ---- what a place shows
shown_pointer : (u : List ℕ) (p : Place) → shown_at u p ≡ pointer_at (place_node p) (place_word p) u
shown_pointer u (Constant v) = refl
shown_pointer u (Input p) = refl
shown_pointer u (Holding p) = refl

-- a field of the words at the front
pub field_front : (xs ys : List ℕ) (w : Work) → pointer_inside (length xs) w → field_in (xs ++ ys) w ≡ field_in xs w
field_front xs ys (Combine operation s d) l = refl
field_front xs ys (Compare s p) l = ap decimal (get_or-append xs ys 0 p l)
field_front xs ys (Modify (Constant v) d) l = refl
field_front xs ys (Modify (Input p) d) l = ap decimal (get_or-append xs ys 0 p l)
field_front xs ys (Modify (Holding p) d) l = ap decimal (get_or-append xs ys 0 p l)
field_front xs ys (Sense (Constant v) d) l = refl
field_front xs ys (Sense (Input p) d) l = ap decimal (get_or-append xs ys 0 p l)
field_front xs ys (Sense (Holding p) d) l = ap decimal (get_or-append xs ys 0 p l)
field_front xs ys (Rotate s d) l = refl
field_front xs ys Unknown l = refl

-- ---- a block's work does what its kind does
module _ (net : Network) (b : Block) where
  abbrev one : Located
  one = located net b

  abbrev place : Place
  place = place_at b.top one.top

  abbrev work_by : ℕ → Work
  work_by k =
      cond (eqb k 1) (Combine And one.top one.middle)
      (cond (eqb k 2) (Combine Or one.top one.middle)
      (cond (eqb k 3) (Combine Xor one.top one.middle)
      (cond (eqb k 4) (Combine Comp one.top one.middle)
      (cond (eqb k 5) (Compare one.top one.middle)
      (cond (eqb k 6) (Modify place one.middle)
      (cond (eqb k 7) (Sense place one.middle)
      (cond (eqb k 8) (Rotate one.top one.middle) Unknown)))))))

  abbrev own : Work
  own = work_of net.sizes b

  -- in any table, refused or not
  module _ (t : List ℕ) (on : Power) (low : 1 ≤ b.kind) (high : b.kind ≤ 8) (held : b.kind ≡ 5 → b.middle.class ≡ 4) where
    abbrev effect_by : ℕ → Effect
    effect_by k = effect_as (kind_of k) b (seen_by (kind_of k) one t) on

    record WorksAs (w : Work) (k : ℕ) : Type 0 where
      top : (power_read w on).top ≡ on.top
      effect : task_effect w b.n t (power_read w on) ≡ effect_by k
      number : task_fault w b.n (length t) ≡ cond (kind k) (kind_fault (kind_of k) one (length t)) 4
      writes : effect_put (task_matrix w) b.n (task_pointer w) (effect_by k) t ≡ effect_put one.middle b.n (pointer_word (kind_of k) one) (effect_by k) t

    -- CMPR's pointer is a register
    register : b.kind ≡ 5 → get_or t one.middle 0 ≡ pointer_at b.middle one.middle t
    register e = sym (ap (λ (c : ℕ). cond (eqb c 9) b.middle.number (get_or t one.middle 0)) (held e))

    modifies : WorksAs (Modify place one.middle) 6
    unfolding kind_of kind_fault seen_by effect_of logic compare rotate modify sense combined
    modifies =
        let s = place_says b.top one.top t in
        let f = fault longest (length t) b.n one.middle one.middle in
        record {
          top = refl;
          effect = λ i. modify (s.held i) b.n (seen [] (run t one.middle b.n) (s.pointer i)) on;
          number = λ i. unless f (cond (s.constant i) 0 8) f;
          writes = ⊎_elim
              (λ q. ap (λ (p : ℕ). effect_put one.middle b.n p (effect_by 6) t) q)
              (λ q. unwritten one.middle b.n (place_word place) one.top (effect_by 6) t
              (ap (λ (h : Bool). (modify h b.n (seen [] (run t one.middle b.n) (pointer_at b.top one.top t)) on).pointer) q ∙ modify_stays b.n (seen [] (run t one.middle b.n) (pointer_at b.top one.top t)) on))
              s.word;
        }

    senses : WorksAs (Sense place one.middle) 7
    unfolding kind_of kind_fault seen_by effect_of logic compare rotate modify sense combined
    senses =
        let s = place_says b.top one.top t in
        let f = fault longest (length t) b.n one.middle one.middle in
        record {
          top = refl;
          effect = λ i. sense (s.held i) b.n (seen (run t one.middle b.n) [] (s.pointer i)) on;
          number = λ i. unless f (cond (s.constant i) 0 8) f;
          writes = ⊎_elim
              (λ q. ap (λ (p : ℕ). effect_put one.middle b.n p (effect_by 7) t) q)
              (λ q. unwritten one.middle b.n (place_word place) one.top (effect_by 7) t
              (ap (λ (h : Bool). (sense h b.n (seen (run t one.middle b.n) [] (pointer_at b.top one.top t)) on).pointer) q ∙ sense_stays b.n (seen (run t one.middle b.n) [] (pointer_at b.top one.top t)) on))
              s.word;
        }

    works_as : (k : ℕ) → b.kind ≡ k → 1 ≤ k → k ≤ 8 → WorksAs (work_by k) k
    unfolding kind_of kind_fault seen_by effect_of logic compare rotate modify sense combined
    works_as zero e l u = absurd (omega arith)
    works_as (suc zero) e l u = record { top = refl; effect = refl; number = refl; writes = refl }
    works_as (suc (suc zero)) e l u = record { top = refl; effect = refl; number = refl; writes = refl }
    works_as (suc (suc (suc zero))) e l u = record { top = refl; effect = refl; number = refl; writes = refl }
    works_as (suc (suc (suc (suc zero)))) e l u = record { top = refl; effect = refl; number = refl; writes = refl }
    works_as (suc (suc (suc (suc (suc zero))))) e l u = record {
      top = refl;
      effect = ap (λ (p : ℕ). compare b.n (seen (top_run one t) (compared_run one t) p) on) (register e);
      number = refl;
      writes = refl;
    }
    works_as (suc (suc (suc (suc (suc (suc zero)))))) e l u = modifies
    works_as (suc (suc (suc (suc (suc (suc (suc zero))))))) e l u = senses
    works_as (suc (suc (suc (suc (suc (suc (suc (suc zero)))))))) e l u = record { top = refl; effect = refl; number = refl; writes = refl }
    works_as (suc (suc (suc (suc (suc (suc (suc (suc (suc k))))))))) e l u = absurd (omega arith)

    works : WorksAs own b.kind
    unfolding work_of place_of
    works = works_as b.kind refl low high

    pub bare_answers : task_answer own b.n t (power_read own on) ≡ work_answer one t on
    unfolding work_answer work_fault
    bare_answers i = unless (works.number i) (finished (shows (works.top i) (works.effect i).middle (works.effect i).bottom (works.effect i).count)) (refused (works.number i))

    pub bare_leaves : task_table own b.n t (power_read own on) ≡ work_table one t on
    unfolding work_table work_fault
    bare_leaves =
        (λ i. unless (works.number i) (effect_put (task_matrix own) b.n (task_pointer own) (works.effect i) t) t)
        ∙ ap (λ (u : List ℕ). unless (work_fault one (length t)) u t) works.writes

-- ---- so an accepted block's does as the definitions say
module _ (net : Network) (earlier : ℕ) (b : Block) (t : List ℕ) (r : Runs net earlier b t) (on : Power) where
  abbrev w : Work
  w = own net b

  facts : KindFacts net.sizes b
  facts = accepted_means net.sizes earlier b r.good

  held : b.kind ≡ 5 → b.middle.class ≡ 4
  held e = (facts.compare e).held

  pub step_outputs : (task_answer w b.n t (power_read w on)).outputs ≡ block_outputs net b t on
  step_outputs = ap (λ (x : Worked). x.outputs) (bare_answers net b t on r.good.kind_low r.good.kind_high held ∙ answers_done net earlier b t r on)

  pub step_table : task_table w b.n t (power_read w on)
      ≡ effect_put (first_word net b.middle) b.n (first_word net (pointer_node (kind_of b.kind) b)) (effect_on net b t on) t
  step_table = bare_leaves net b t on r.good.kind_low r.good.kind_high held ∙ table_done net earlier b t r on

  -- ---- what its line tells
  module _ (u : List ℕ) (out : Outputs) where
    record ShowsAs (w : Work) (k : ℕ) : Type 0 where
      inside : pointer_inside (total net.sizes) w
      field : field_in u w ≡ pointer_field k (cond (has_pointer k) (pointer_at (pointer_node (kind_of k) b) (pointer_word (kind_of k) (one net b)) u) 0)
      count : ((b.kind ≡ 5 → ⊥) → uncounted out ≡ out) → told w out ≡ out

    pointed : Pointed net.sizes b → (place_inside (total net.sizes) (place net b)) × (decimal (shown_at u (place net b)) ≡ decimal (pointer_at b.top (first_word net b.top) u))
    pointed p = (
      place_lies b.top (first_word net b.top) u (total net.sizes) (eqb b.top.class 9) (eqb b.top.class 4) (λ h. omega (arith, p.register (eqb-false b.top.class 9 h))),
      ap decimal (shown_pointer u (place net b) ∙ (place_says b.top (first_word net b.top) u).pointer),
    )

    shows_as : (k : ℕ) → b.kind ≡ k → 1 ≤ k → k ≤ 8 → ShowsAs (work_by net b k) k
    unfolding kind_of pointer_field
    shows_as zero e l v = absurd (omega arith)
    shows_as (suc zero) e l v = record { inside = omega arith; field = refl; count = λ h. h (λ q. omega (arith, e, q)) }
    shows_as (suc (suc zero)) e l v = record { inside = omega arith; field = refl; count = λ h. h (λ q. omega (arith, e, q)) }
    shows_as (suc (suc (suc zero))) e l v = record { inside = omega arith; field = refl; count = λ h. h (λ q. omega (arith, e, q)) }
    shows_as (suc (suc (suc (suc zero)))) e l v = record { inside = omega arith; field = refl; count = λ h. h (λ q. omega (arith, e, q)) }
    shows_as (suc (suc (suc (suc (suc zero))))) e l v = record {
      inside = omega (arith, (facts.compare e).pointer_and_matrix);
      field = ap decimal (sym (ap (λ (c : ℕ). cond (eqb c 9) b.middle.number (get_or u (first_word net b.middle) 0)) (held e)));
      count = λ h. refl;
    }
    shows_as (suc (suc (suc (suc (suc (suc zero)))))) e l v =
        let p = pointed (facts.modify e) in record { inside = p.0; field = p.1; count = λ h. h (λ q. omega (arith, e, q)) }
    shows_as (suc (suc (suc (suc (suc (suc (suc zero))))))) e l v =
        let p = pointed (facts.sense e) in record { inside = p.0; field = p.1; count = λ h. h (λ q. omega (arith, e, q)) }
    shows_as (suc (suc (suc (suc (suc (suc (suc (suc zero)))))))) e l v = record { inside = omega arith; field = refl; count = λ h. h (λ q. omega (arith, e, q)) }
    shows_as (suc (suc (suc (suc (suc (suc (suc (suc (suc k))))))))) e l v = absurd (omega arith)

    shown : ShowsAs w b.kind
    unfolding work_of place_of
    shown = shows_as b.kind refl r.good.kind_low r.good.kind_high

    pub work_pointer : pointer_inside (total net.sizes) w
    work_pointer = shown.inside

    pub field_is : field_in u w ≡ pointer_field b.kind (pointer_of net b u)
    unfolding pointer_shown pointer_of
    field_is = shown.field

    pub told_is : ((b.kind ≡ 5 → ⊥) → uncounted out ≡ out) → told w out ≡ out
    told_is = shown.count
