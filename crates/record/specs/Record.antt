-- A block's record and its 15 words: kind; length n; top node (class, number); middle
-- node (class, number); top, middle and bottom input (code, number each); three coil numbers. Assumes nothing.
use Rattle.std.specs.Prelude.{ℕ, ◌+◌, [], ◌∷◌, drop}
use Rattle.verdict.specs.Lists.{Words}
use Rattle.section.specs.Walk.{word}
use Rattle.record.specs.declared.{Node.Node, Input.Input, Inputs.Inputs, Coils.Coils, Block.Block}

-- how many words a record has
abbrev pub record_words : ℕ
record_words = 15

-- what stands at the front of the words
abbrev pub node_in : Words → Node
node_in ws = record { class = word ws 0; number = word ws 1 }

abbrev pub input_in : Words → Input
input_in ws = record { code = word ws 0; number = word ws 1 }

abbrev pub inputs_in : Words → Inputs
inputs_in ws = record { top = input_in ws; middle = input_in (drop 2 ws); bottom = input_in (drop 4 ws) }

abbrev pub coils_in : Words → Coils
coils_in ws = record { top = word ws 0; middle = word ws 1; bottom = word ws 2 }

unfoldable pub block_in : Words → Block
block_in ws = record {
  kind = word ws 0;
  n = word ws 1;
  top = node_in (drop 2 ws);
  middle = node_in (drop 4 ws);
  inputs = inputs_in (drop 6 ws);
  coils = coils_in (drop 12 ws);
}

-- the record from an index on, each word where it stands: `block_in` of what is left when the words before are dropped
abbrev pub block_from : Words → ℕ → Block
block_from ws i = record {
  kind = word ws i;
  n = word ws (i + 1);
  top = record { class = word ws (i + 2); number = word ws (i + 3) };
  middle = record { class = word ws (i + 4); number = word ws (i + 5) };
  inputs = record {
    top = record { code = word ws (i + 6); number = word ws (i + 7) };
    middle = record { code = word ws (i + 8); number = word ws (i + 9) };
    bottom = record { code = word ws (i + 10); number = word ws (i + 11) };
  };
  coils = record { top = word ws (i + 12); middle = word ws (i + 13); bottom = word ws (i + 14) };
}

-- a record's words
unfoldable pub spelled : Block → Words
spelled b =
    b.kind ∷ b.n
    ∷ b.top.class ∷ b.top.number
    ∷ b.middle.class ∷ b.middle.number
    ∷ b.inputs.top.code ∷ b.inputs.top.number
    ∷ b.inputs.middle.code ∷ b.inputs.middle.number
    ∷ b.inputs.bottom.code ∷ b.inputs.bottom.number
    ∷ b.coils.top ∷ b.coils.middle ∷ b.coils.bottom
    ∷ []
