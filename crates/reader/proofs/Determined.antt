-- Two results that a public function's contract allows are equal: each contract is one equation for the answer, or for what it says,
-- and two answers that say the same are the same. Assumes nothing.
use mathlib.Core.Path.{◌≡◌, sym, ◌∙◌}
use seplogic.Ra.Ura.{Ura}
use base.Logic.{SProp, ent, sep}
use prog.Memory.{Memory}
use prog.Routine.{Routine}
use types.Logic.{Logic}
use contract.Lifetimes.{Lfts}
use contract.Monad.{Fun, fact, fact_mono}
use denote.Triple.Entry.{Args, Res}
use denote.Triple.Clauses.{Ended, Clauses, AtExit}
use denote.Triple.Walked.{needs}
use Rattle.verdict.specs.Promise.{Decides}
use Rattle.verdict.proofs.Said.{numbered_once}
use Rattle.reader.proofs.record_of.Reads as record_of_reads
use Rattle.reader.specs.contracts.Reader.open as opener
use Rattle.reader.specs.contracts.Reader.words as words
use Rattle.reader.specs.contracts.Reader.opened as opened
use Rattle.reader.specs.contracts.Reader.record as block

pub record_of : Decides record_of_reads.Post
record_of κs a x y s t p q = numbered_once x y (p ∙ sym q)

-- ---- a reader holds a reference, and of a contract over one the check reads no such `Post` off: what the contract says of two
-- results, as it stands, gives that they are equal, the words that a reader holds included
module _ {M : Type 1} {𝓤 : Ura M} (𝓛 : Logic 𝓤) (mem : Memory → SProp 𝓤) (run : Routine → Fun 𝓤) where
  abbrev Equates : (T : Ended) → Clauses 𝓤 T → Type 1
  Equates T c =
      (κs : Lfts T.signature.lifetimes) (a : Args T.signature κs) (g : (c κs a).ghost) (x y : Res T.signature κs) (s t : AtExit T κs)
      → ent 𝓤 (sep 𝓤 ((c κs a).ensures g x s) ((c κs a).ensures g y t)) (fact 𝓤 (x ≡ y))

  given : {φ ψ χ : Type 0} → (φ → ψ → χ) → ent 𝓤 (sep 𝓤 (fact 𝓤 φ) (fact 𝓤 ψ)) (fact 𝓤 χ)
  given {φ} {ψ} {χ} f = needs 𝓤 ψ (fact 𝓤 φ) (λ q. fact_mono 𝓤 φ χ (λ p. f p q))

  pub reader_open : Equates opener.ended (opener.clauses 𝓛 mem run)
  reader_open κs a g x y s t = given (λ p q. λ i. record { words = (p.holds ∙ sym q.holds) i; found = numbered_once x.found y.found (p.knows ∙ sym q.knows) i })

  pub reader_words : Equates words.ended (words.clauses 𝓛 mem run)
  reader_words κs a g x y s t = given (λ p q. p ∙ sym q)

  pub reader_opened : Equates opened.ended (opened.clauses 𝓛 mem run)
  reader_opened κs a g x y s t = given (λ p q. p ∙ sym q)

  pub reader_record : Equates block.ended (block.clauses 𝓛 mem run)
  reader_record κs a g x y s t = given (λ p q. numbered_once x y (p ∙ sym q))
