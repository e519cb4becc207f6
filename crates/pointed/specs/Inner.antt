-- What the contracts of the crate's own functions cite, beside the definitions that a caller reads: a pointer's steps where they are
-- asked for, and a bit that is put. Assumes nothing.
use Rattle.std.specs.Prelude.{ℕ, Bool, cond, eqb}
use Rattle.verdict.specs.Lists.{Table}
use Rattle.blocks.specs.Effect.Change.{stays, puts}
use Rattle.blocks.specs.Work.{change_put}

-- a bit of n words from d on put on or off; position 0 touches no bit
abbrev pub put_at : Table → ℕ → ℕ → ℕ → Bool → Table
put_at t d n p on = change_put d n (cond (eqb p 0) stays (puts p on)) t
