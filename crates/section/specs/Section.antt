-- Sections in a fixed order, each after its count. A section says what
-- each of its words earns, given what the sections before it spelled, and what it spells itself; there are as many words as
-- there are entries in what they earn. Assumes nothing.
use Rattle.std.specs.Prelude.{ℕ, zero, suc, Bool, cond, List, [], ◌∷◌, ◌++◌, ◌≡◌, length, drop}
use Rattle.verdict.specs.Lists.{Words}
use Rattle.section.specs.Walk.{first_of, seek, left_over}
use Rattle.verdict.specs.Verdict.{Verdict, then}

-- a section, where what is spelled is an A; its rules take the count and the words after it
pub record Section (A : Type 0) : Type 0 where
  -- whether the count is an allowed one
  pub allows : A → ℕ → Bool
  -- what each word after the count earns
  pub earns : A → ℕ → Words → List ℕ
  -- what was spelled before, with what these words spell
  pub spells : A → ℕ → Words → A

module _ {A : Type 0} where
  -- the section at the front of the words: what its words earn, the count first (2), what is spelled with it, and the words after it
  unfoldable pub section_earns : Section A → A → Words → List ℕ
  section_earns s v ws = cond (s.allows v (first_of ws)) 0 2 ∷ s.earns v (first_of ws) (drop 1 ws)

  abbrev pub section_spells : Section A → A → Words → A
  section_spells s v ws = s.spells v (first_of ws) (drop 1 ws)

  abbrev pub section_rest : Section A → A → Words → Words
  section_rest s v ws = drop (length (section_earns s v ws)) ws

  -- sections in turn: what all their words earn, and what they spell together
  unfoldable pub earned : List (Section A) → A → Words → List ℕ
  earned [] v ws = []
  earned (s ∷ ss) v ws = section_earns s v ws ++ earned ss (section_spells s v ws) (section_rest s v ws)

  unfoldable pub meaning : List (Section A) → A → Words → A
  meaning [] v ws = v
  meaning (s ∷ ss) v ws = meaning ss (section_spells s v ws) (section_rest s v ws)

  -- how many words they take
  abbrev pub end : List (Section A) → A → Words → ℕ
  end ss v ws = length (earned ss v ws)

  -- the first refusal of sections whose words stand from an index on, whatever follows them
  unfoldable pub judged_from : List (Section A) → A → Words → ℕ → Verdict
  judged_from ss v ws at = seek (earned ss v (drop at ws)) (length ws) at

  -- the verdict on the sections at the front of the words
  abbrev pub front : List (Section A) → A → Words → Verdict
  front ss v ws = judged_from ss v ws 0

  -- and on sections that are all of the words, after which an odd byte may stand
  unfoldable pub whole : List (Section A) → A → Words → Bool → Verdict
  whole ss v ws odd = then (front ss v ws) (left_over (end ss v ws) (length ws) odd)

-- ---- records: a section may be n records of so many words each

-- what the words of n records earn; the rule takes how many records stand before one, and the words from its first on
unfoldable pub records_earn : ℕ → (ℕ → Words → List ℕ) → ℕ → ℕ → Words → List ℕ
records_earn width earns k zero ws = []
records_earn width earns k (suc n) ws = earns k ws ++ records_earn width earns (suc k) n (drop width ws)

-- what they spell
unfoldable pub records_in : {B : Type 0} → ℕ → (Words → B) → ℕ → Words → List B
records_in width spelled zero ws = []
records_in width spelled (suc n) ws = spelled ws ∷ records_in width spelled n (drop width ws)

-- ---- sections of a part: a B holds an A

pub record Part (A B : Type 0) : Type 0 where
  pub get : B → A
  pub put : A → B → B
  pub get_put : (a : A) (b : B) → get (put a b) ≡ a
  pub put_get : (b : B) → put (get b) b ≡ b
  pub put_put : (x y : A) (b : B) → put x (put y b) ≡ put x b

-- a section that spells an A, as one that spells a B
abbrev pub lifted : {A B : Type 0} → Part A B → Section A → Section B
lifted p s = record {
  allows = λ v. s.allows (p.get v);
  earns = λ v. s.earns (p.get v);
  spells = λ v count ws. p.put (s.spells (p.get v) count ws) v;
}
