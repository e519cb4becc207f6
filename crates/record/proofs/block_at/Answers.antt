-- `record::block_at` meets its contract: all words are there, or those that are there and 0 for the others. Assumes nothing.
use borrow.Author.Rules.{rules}
use mathlib.Core.Path.{◌∙◌}
use Rattle.record.proofs.Words.{block_there, block_same}
use Rattle.record.proofs.block_at.Goals as goal

pub returns-then-i-words : goal.returns-then-i-words
returns-then-i-words c =
    let x = c.args in
    c.whole_block_at.ensures ∙ block_there x.words.now x.at

pub returns : goal.returns
returns c =
    let x = c.args in
    c.whole_block_at-2.ensures ∙ block_same x.words.now x.at c.padded.result c.padded.ensures ∙ block_there x.words.now x.at
