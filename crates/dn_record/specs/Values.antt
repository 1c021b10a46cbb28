use Rattle.std.specs.Prelude.{ℕ, zero, suc, List, [], ◌∷◌, ◌+◌, ◌/◌, length, take, drop}
use Rattle.std.specs.Int.{w64, from_le_bytes}

-- how many words so many bytes fill
abbrev pub words_for : ℕ → ℕ
words_for bytes = (bytes + 7) / 8

-- the word of the first eight bytes, the least significant first; bytes past the end are 0
unfoldable pub word_of : List ℕ → ℕ
word_of bytes = from_le_bytes w64 (take 8 bytes)

-- the first words of a list of bytes, eight bytes in each
abbrev pub words_from : ℕ → List ℕ → List ℕ
words_from zero bytes = []
words_from (suc n) bytes = word_of bytes ∷ words_from n (drop 8 bytes)

-- the words of a value
abbrev pub value_words : List ℕ → List ℕ
value_words value = words_from (words_for (length value)) value
