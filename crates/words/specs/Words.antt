-- The words that bytes make: big-endian words of 16 bits, so that word k is
-- 256 * byte 2k + byte 2k+1, words and bytes counted from 0. An odd last byte makes no word. Assumes nothing.
use Rattle.std.specs.Prelude.{ℕ, zero, suc, ◌+◌, ◌*◌, ◌/◌, ◌%◌, Bool, cond, [], ◌∷◌, ◌++◌, leb, eqb, length, get_or, drop}
use Rattle.verdict.specs.Lists.{Bytes, Words}
use Rattle.verdict.specs.Verdict.{Verdict, verdict, done, Said, said_by}
use Rattle.words.specs.declared.Converted.{Converted}

abbrev pub byte : Bytes → ℕ → ℕ
byte bs i = get_or bs i 0

abbrev pub word_in : Bytes → ℕ → ℕ
word_in bs k = 256 * byte bs (2 * k) + byte bs (2 * k + 1)

-- the n words from word k on
unfoldable pub words_from : Bytes → ℕ → ℕ → Words
words_from bs k zero = []
words_from bs k (suc n) = word_in bs k ∷ words_from bs (suc k) n

-- how many words the bytes make, those words, and whether an odd byte is left
abbrev pub words_count : Bytes → ℕ
words_count bs = length bs / 2

abbrev pub words_in : Bytes → Words
words_in bs = words_from bs 0 (words_count bs)

abbrev pub odd_byte : Bytes → Bool
odd_byte bs = eqb (length bs % 2) 1

-- ---- for the calls

-- the answer: 12 where the lent words are fewer than the bytes make
abbrev pub converted : ℕ → Bool → Converted
converted count odd = record { count = count; odd = odd }

abbrev pub room_verdict : Bytes → Words → Verdict
room_verdict bs ws = cond (leb (words_count bs) (length ws)) done (verdict 12 0)

unfoldable pub to_words : Bytes → Words → Said Converted
to_words bs ws = said_by (room_verdict bs ws) (converted (words_count bs) (odd_byte bs))

-- what the lent words hold afterwards: the words that the bytes make, and after them what was there
unfoldable pub filled : Bytes → Words → Words
unfolding words_from
filled bs ws = cond (leb (words_count bs) (length ws)) (words_in bs ++ drop (words_count bs) ws) ws
