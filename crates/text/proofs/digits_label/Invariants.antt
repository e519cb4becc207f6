use Rattle.std.proofs.Common.{◌≡◌, ◌++◌, ◌∷◌, [], ◌/◌, ◌^◌}
use Rattle.text.specs.Text.{digits, value_of}
use Rattle.text.proofs.digits_label.Given as goal

abbrev pub invariant-loop : goal.invariant-loop
invariant-loop g l = (l.rest ≡ l.n / 10 ^ l.counter) × (l.word ≡ value_of (digits l.counter l.n ++ 32 ∷ []))
