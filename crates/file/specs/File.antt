-- A whole file: areas and blocks, as a network has them, then the
-- image (count equal to the sum of the areas, then the words), then the run (count 1, then scans, 1 to 1000). An odd last byte never
-- makes a word. Assumes nothing.
use Rattle.std.specs.Prelude.{ℕ, ◌+◌, refl, Bool, List, [], ◌∷◌, ◌++◌, map, eqb, take, replicate}
use Rattle.verdict.specs.Lists.{Words, Table}
use Rattle.verdict.specs.Verdict.{Verdict, Said, said_by}
use Rattle.file.specs.declared.checker.OpenedFile.{OpenedFile}
use Rattle.file.specs.declared.checker.Rest.{Rest}
use Rattle.section.specs.Walk.{first_of}
use Rattle.section.specs.Section.{Section, meaning, whole, Part, lifted}
use Rattle.table.specs.Table.{total}
use Rattle.network.specs.Network.{Network}
use Rattle.section.specs.Limit.{counted}
use Rattle.network.specs.Check.{sections, no_network, network_end, opened_value}

-- a file as a value: its network, the words of its image, and the scans of its run
pub record File : Type 0 where
  pub network : Network
  pub image : Table
  pub run : ℕ

-- how many words the table of its areas has
abbrev pub table_words : File → ℕ
table_words f = total f.network.sizes

-- the network's sections spell the file's network
abbrev pub network_part : Part Network File
network_part = record {
  get = λ f. f.network;
  put = λ net f. record { network = net; image = f.image; run = f.run };
  get_put = λ net f. refl;
  put_get = λ f. refl;
  put_put = λ x y f. refl;
}

-- the image: count equal to the sum of the areas, then as many words, which earn nothing
unfoldable pub image_section : Section File
image_section = record {
  allows = λ f count. eqb count (table_words f);
  earns = λ f count ws. replicate (table_words f) 0;
  spells = λ f count ws. record { network = f.network; image = take (table_words f) ws; run = f.run };
}

-- the run: count 1, then the scans, 1 to 1000 (3)
abbrev pub most_scans : ℕ
most_scans = 1000

unfoldable pub run_section : Section File
run_section = record {
  allows = λ f count. eqb count 1;
  earns = λ f count ws. counted most_scans (first_of ws) 3 ∷ [];
  spells = λ f count ws. record { network = f.network; image = f.image; run = first_of ws };
}

abbrev pub after_network : List (Section File)
after_network = image_section ∷ run_section ∷ []

abbrev pub file_sections : List (Section File)
file_sections = map (lifted network_part) sections ++ after_network

abbrev pub no_file : File
no_file = record { network = no_network; image = []; run = 0 }

-- the file that the words spell, whatever they earn, and the verdict on them
unfoldable pub file_in : Words → File
file_in ws = meaning file_sections no_file ws

unfoldable pub file_checked : Words → Bool → Verdict
file_checked ws odd = whole file_sections no_file ws odd

-- ---- for the calls

-- what the words spell after their network: where the image starts, how many words it has, and the scans
abbrev pub rest_in : Words → Rest
rest_in ws = record { image = network_end ws + 1; words = table_words (file_in ws); scans = (file_in ws).run }

-- what an opened file has, which is what the words spell
abbrev pub opened_file_value : Words → OpenedFile
opened_file_value ws = record {
  network = opened_value ws;
  image = network_end ws + 1;
  words = table_words (file_in ws);
  scans = (file_in ws).run;
}

-- a verdict with what the words spell where it is done
abbrev pub opened_file_with : Words → Verdict → Said OpenedFile
opened_file_with ws v = said_by v (opened_file_value ws)

abbrev pub opened_file : Words → Bool → Said OpenedFile
opened_file ws odd = opened_file_with ws (file_checked ws odd)

-- ---- what the code may rely on, whatever the words are: a network ends at 7 + 15 * 65535 at the latest, and four areas have
-- 4 * 65535 words at most
abbrev pub last_end : ℕ
last_end = 983032

abbrev pub largest_table : ℕ
largest_table = 262140
