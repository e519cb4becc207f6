-- A file whose run has begun: it is accepted, and its state has exactly the words of its areas and one for each block.
use Rattle.std.specs.Prelude.{ℕ, ◌≡◌, false}
use Rattle.verdict.specs.Lists.{Words}
use Rattle.file.specs.File.{file_in, file_checked}
use Rattle.run.specs.Bench.{visit_count}
use Rattle.run.specs.Page.{state_words}

pub record Begun (ws : Words) (size visits : ℕ) : Type 0 where
  pub accepted : (file_checked ws false).number ≡ 0
  pub exact : size ≡ state_words (file_in ws)
  pub all_visits : visits ≡ visit_count (file_in ws)
