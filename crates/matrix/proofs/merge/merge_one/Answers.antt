-- `matrix::merge::merge_one` meets its contract: one word is rewritten.
use mathlib.Core.Path.{◌∙◌}
use native.Mathlib.Omega.{arith}
use Rattle.matrix.proofs.Rewriting.{stored, restated, merged_word}
use Rattle.matrix.proofs.merge.merge_one.Goals as goal

pub returns : goal.returns
returns g c =
    let x = c.args in
    restated (stored x.table.now x.at _ (omega arith))
    (λ k l u. c.merged.ensures ∙ merged_word g.M.Merge.word x.table.now x.a x.b x.at k _ _ (omega arith) (omega arith))
