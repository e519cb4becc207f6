-- What stands on a line after the outputs, and the line that ends so.
use Rattle.std.specs.Prelude.{ℕ, ◌++◌}
use Rattle.verdict.specs.Lists.{Text}
use Rattle.blocks.specs.declared.Outputs.{Outputs}
use Rattle.text.specs.Text.{decimal, output_fields, no_pointer, line_end, label_text}
use Rattle.lines.specs.declared.tail.Tail.{Tail}
use Rattle.lines.specs.declared.tail.Tail.TheVariants.{Plain, Pointed, Compared}

-- a compare alone has a count other than 0
unfoldable pub tail_text : Tail → ℕ → Text
tail_text Plain count = line_end no_pointer 0
tail_text (Pointed pointer) count = line_end (decimal pointer) 0
tail_text (Compared pointer) count = line_end (decimal pointer) count

abbrev pub tailed_line : ℕ → ℕ → Outputs → Tail → Text
tailed_line scan block out tail = label_text scan ++ label_text block ++ output_fields out ++ tail_text tail out.count
