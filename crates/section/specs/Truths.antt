-- What is true of any sections in turn. Assumes nothing.
use Rattle.std.specs.Prelude.{ℕ, ◌≡◌, Bool, true, false, List, [], ◌∷◌, ◌++◌, map, ◌↔◌, length, drop}
use Rattle.verdict.specs.Lists.{Words}
use Rattle.section.specs.Walk.{first_of}
use Rattle.verdict.specs.Verdict.{then}
use Rattle.section.specs.Section.{Section, section_spells, section_rest, earned, meaning, end, judged_from, front, whole, Part, lifted}

-- no word earns a refusal
unfoldable pub Clean : List ℕ → Type 0
Clean [] = Unit
Clean (f ∷ fs) = (f ≡ 0) × Clean fs

-- every section's count is an allowed one, and none of its words earns a refusal
unfoldable pub Good : {A : Type 0} → List (Section A) → A → Words → Type 0
unfolding Clean
Good [] v ws = Unit
Good (s ∷ ss) v ws =
    (s.allows v (first_of ws) ≡ true) × Clean (s.earns v (first_of ws) (drop 1 ws)) × Good ss (section_spells s v ws) (section_rest s v ws)

-- words are accepted exactly when every section is good, and the words are all theirs
abbrev pub AcceptsSections : Type 0 → Type 0
AcceptsSections A =
    (ss : List (Section A)) (v : A) (ws : Words) (odd : Bool) →
    ((whole ss v ws odd).number ≡ 0) ↔ (Good ss v ws × (length ws ≡ end ss v ws) × (odd ≡ false))

-- the first refusal decides: what follows the sections that refuse changes nothing
abbrev pub FirstDecides : Type 0 → Type 0
FirstDecides A =
    (ss more : List (Section A)) (v : A) (ws : Words) (odd : Bool) → ((front ss v ws).number ≡ 0 → ⊥) →
    whole (ss ++ more) v ws odd ≡ front ss v ws

-- places count through: sections that follow others are judged from the index on at which these end, with what these spelled
abbrev pub CountsThrough : Type 0 → Type 0
CountsThrough A =
    (ss more : List (Section A)) (v : A) (ws : Words) →
    front (ss ++ more) v ws ≡ then (front ss v ws) (judged_from more (meaning ss v ws) ws (end ss v ws))

-- sections of a part are judged as they are alone, and what they spell becomes the part
pub record AsAlone {A B : Type 0} (p : Part A B) (ss : List (Section A)) (v : B) (ws : Words) : Type 0 where
  pub earns_same : earned (map (lifted p) ss) v ws ≡ earned ss (p.get v) ws
  pub spells_part : meaning (map (lifted p) ss) v ws ≡ p.put (meaning ss (p.get v) ws) v

abbrev pub LiftedAsAlone : Type 0 → Type 0 → Type 0
LiftedAsAlone A B = (p : Part A B) (ss : List (Section A)) (v : B) (ws : Words) → AsAlone p ss v ws
