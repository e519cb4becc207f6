-- A number that stands for none of the eight kinds.
use mathlib.Core.Path.{◌≡◌, refl}
use mathlib.Core.Bool.{Bool, true, false, ◌&&◌}
use Prim.Native.Nat.{ℕ, zero, suc, ◌<◌}
use native.Mathlib.Omega.{arith}
use borrow.Author.Tests.{lt-leb}
use lib.Dec.{leb}
use Rattle.std.specs.Prelude.{Err}
use Rattle.rules.specs.declared.codes.Unknown.{Unknown}
use Rattle.rules.specs.Codes.{kind_from}
use Rattle.rules.specs.Rules.{kind}

past : (low : Bool) (k most : ℕ) → most < k → (low && leb k most) ≡ false
past true k most l = lt-leb k most l
past false k most l = refl

pub no_kind : (k : ℕ) (e : Unknown) → kind_from k ≡ Err e → kind k ≡ false
no_kind zero e h = refl
no_kind (suc zero) e h = cc
no_kind (suc (suc zero)) e h = cc
no_kind (suc (suc (suc zero))) e h = cc
no_kind (suc (suc (suc (suc zero)))) e h = cc
no_kind (suc (suc (suc (suc (suc zero))))) e h = cc
no_kind (suc (suc (suc (suc (suc (suc zero)))))) e h = cc
no_kind (suc (suc (suc (suc (suc (suc (suc zero))))))) e h = cc
no_kind (suc (suc (suc (suc (suc (suc (suc (suc zero)))))))) e h = cc
no_kind (suc (suc (suc (suc (suc (suc (suc (suc (suc k))))))))) e h =
    past (leb 1 (suc (suc (suc (suc (suc (suc (suc (suc (suc k)))))))))) (suc (suc (suc (suc (suc (suc (suc (suc (suc k))))))))) 8 (omega arith)
