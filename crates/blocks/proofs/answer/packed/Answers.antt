-- `blocks::answer::packed` meets its contract: three digits of a binary number, and the count above them. Assumes nothing.
use mathlib.Core.Path.{◌≡◌, refl}
use mathlib.Core.Bool.{Bool, true, false, cond}
use native.Mathlib.Omega.{arith}
use Prim.Native.Nat.{◌≤◌, ◌+◌, ◌*◌, ◌%◌}
use mir.Val.{bool_byte}
use Rattle.blocks.proofs.answer.packed.Goals as goal

digit : (a : Bool) → bool_byte a ≡ cond a 1 0
digit true = refl
digit false = refl

small : (a : Bool) → bool_byte a ≤ 1
small true = omega arith
small false = omega arith

pub overflow_mul-result : goal.overflow_mul-result
overflow_mul-result c = let x = c.args.out in omega (arith, small x.top, small x.middle, small x.bottom)

pub overflow_add-result : goal.overflow_add-result
overflow_add-result c = let x = c.args.out in omega (arith, small x.top, small x.middle, small x.bottom)

pub overflow_mul-result-2 : goal.overflow_mul-result-2
overflow_mul-result-2 c = let x = c.args.out in omega (arith, small x.top, small x.middle, small x.bottom)

pub overflow_add-result-2 : goal.overflow_add-result-2
overflow_add-result-2 c = let x = c.args.out in omega (arith, small x.top, small x.middle, small x.bottom)

pub overflow_add-result-3 : goal.overflow_add-result-3
overflow_add-result-3 c = let x = c.args.out in omega (arith, small x.top, small x.middle, small x.bottom)

pub returns : goal.returns
returns c = let x = c.args.out in λ i. digit x.top i + 2 * digit x.middle i + 4 * digit x.bottom i + 8 * (x.count % 8192)
