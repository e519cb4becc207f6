-- Three outputs and the count as one number: top is worth 1, middle 2, bottom 4, each pair counted 8, and there is room for a count below
-- 8192; and a number as outputs and a count. Assumes nothing.
use Rattle.std.specs.Prelude.{ℕ, ◌+◌, ◌*◌, ◌/◌, ◌%◌, cond}
use Rattle.bits.specs.Bit.{of}
use Rattle.blocks.specs.declared.Outputs.{Outputs}

abbrev pub packed : Outputs → ℕ
packed out = cond out.top 1 0 + 2 * cond out.middle 1 0 + 4 * cond out.bottom 1 0 + 8 * (out.count % 8192)

abbrev pub unpacked : ℕ → Outputs
unpacked w = record { top = of w 16; middle = of w 15; bottom = of w 14; count = w / 8 }
