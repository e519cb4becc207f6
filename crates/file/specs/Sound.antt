-- What an accepted file is, said without the checker's order. Assumes nothing.
use Rattle.std.specs.Prelude.{ℕ, ◌+◌, ◌≤◌, ◌≡◌, Bool, false, cond, [], ◌∷◌, ◌++◌, ◌↔◌, leb, length, take, drop}
use Rattle.verdict.specs.Lists.{Words}
use Rattle.verdict.specs.Verdict.{Verdict, verdict}
use Rattle.section.specs.Walk.{word, first_of}
use Rattle.table.specs.Table.{total}
use Rattle.areas.specs.Areas.{has_level, sizes_of}
use Rattle.network.specs.Network.{words_of}
use Rattle.network.specs.Check.{network_end, leading, opened}
use Rattle.network.specs.Sound.{GoodNetwork}
use Rattle.file.specs.File.{File, table_words, most_scans, file_in, file_checked}

-- a good network, an image of its areas, 1 to 1000 scans
pub record GoodFile (f : File) : Type 0 where
  pub network : GoodNetwork f.network
  pub image : length f.image ≡ table_words f
  pub run_low : 1 ≤ f.run
  pub run_high : f.run ≤ most_scans

-- a file's words, with the level or without it: those of its network, then the image and the run, each after its count
unfoldable pub file_words : Bool → File → Words
file_words with_level f = words_of with_level f.network ++ table_words f ∷ f.image ++ 1 ∷ f.run ∷ []

-- words that are those of the file that they spell, which is good, and no odd byte after them; the first says whether the level is
-- among them
pub record SoundFile (ws : Words) (odd : Bool) : Type 0 where
  pub file : GoodFile (file_in ws)
  pub words : file_words (has_level (first_of ws)) (file_in ws) ≡ ws
  pub even : odd ≡ false

-- a file is accepted exactly when it is sound
abbrev pub AcceptsFiles : Type 0
AcceptsFiles = (ws : Words) (odd : Bool) → ((file_checked ws odd).number ≡ 0) ↔ SoundFile ws odd

-- the words of an accepted file up to where its network ends are a network, which opens as it does at the front of the file
abbrev pub FrontOpens : Type 0
FrontOpens = (ws : Words) (odd : Bool) → SoundFile ws odd → opened (take (network_end ws) ws) ≡ leading ws

-- What any words spell, refused ones too, by where their network ends, the sizes at their front and single words.
pub record Spelled (ws : Words) : Type 0 where
  pub sizes : (file_in ws).network.sizes ≡ sizes_of ws
  pub words : table_words (file_in ws) ≡ total (sizes_of ws)
  pub image : (file_in ws).image ≡ take (total (sizes_of ws)) (drop (network_end ws + 1) ws)
  pub scans : (file_in ws).run ≡ word ws (network_end ws + 1 + total (sizes_of ws) + 1)

abbrev pub SpelledByIndex : Type 0
SpelledByIndex = (ws : Words) → Spelled ws

-- Count 4 means Level 1: words without the level, and the same with level 1 after the sizes, spell the same file and earn the same refusal,
-- whose place is one higher where it stands after the sizes.
abbrev pub one_later : Verdict → Verdict
one_later v = cond (leb v.place 5) v (verdict v.number (v.place + 1))

abbrev pub LevelOne : Type 0
LevelOne =
    (coils discretes inputs holding : ℕ) (rest : Words) (odd : Bool) →
    let short : Words = 4 ∷ coils ∷ discretes ∷ inputs ∷ holding ∷ rest in
    let long : Words = 5 ∷ coils ∷ discretes ∷ inputs ∷ holding ∷ 1 ∷ rest in
    (file_in long ≡ file_in short) × (file_checked long odd ≡ one_later (file_checked short odd))

-- the words of the longest file: areas and blocks, the image's count, the greatest image, the run
abbrev pub most_words : ℕ
most_words = 12697

abbrev pub NoLonger : Type 0
NoLonger = (ws : Words) (odd : Bool) → SoundFile ws odd → length ws ≤ most_words

-- a file that is too long is refused by its front: of more words than the longest file has, those and one more decide
abbrev pub LongerSame : Type 0
LongerSame =
    (ws : Words) (odd : Bool) → most_words + 1 ≤ length ws → file_checked ws odd ≡ file_checked (take (most_words + 1) ws) false

-- and no place is past the word after the longest file
abbrev pub PlaceLow : Type 0
PlaceLow = (ws : Words) (odd : Bool) → (file_checked ws odd).place ≤ most_words + 1
