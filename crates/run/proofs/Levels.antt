-- Count 4 means Level 1, in what is printed. Assumes nothing.
use mathlib.Core.Path.{◌≡◌, sym, ap, ap₂, ◌∙◌}
use mathlib.Core.Bool.{cond}
use mathlib.Core.List.{◌∷◌}
use lib.Dec.{eqb}
use Rattle.verdict.specs.Lists.{Words}
use Rattle.verdict.specs.Verdict.{Verdict, done}
use Rattle.file.specs.File.{File, file_checked}
use Rattle.file.specs.Sound.{one_later}
use Rattle.file.proofs.Accepted.{accepted_done}
use Rattle.file.proofs.Levels.{level_one}
use Rattle.text.specs.Text.{refusal_line}
use Rattle.run.specs.Bench.{file_text, words_text, LevelOnePrints}

pub level_one_prints : LevelOnePrints
unfolding words_text
level_one_prints coils discretes inputs holding rest odd e =
    let short : Words = 4 ∷ coils ∷ discretes ∷ inputs ∷ holding ∷ rest in
    let same = level_one coils discretes inputs holding rest odd in
    let fine : file_checked short odd ≡ done = accepted_done short odd e in
    ap₂ (λ (f : File) (v : Verdict). cond (eqb v.number 0) (file_text f) (refusal_line v)) same.0 (same.1 ∙ ap one_later fine ∙ sym fine)
