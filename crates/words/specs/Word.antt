-- Little-endian words of four bytes in a list of bytes.
use Rattle.std.specs.Prelude.{ℕ, zero, suc, ◌+◌, ◌*◌, ◌/◌, ◌%◌, List, [], ◌∷◌, get_or, set}

-- The image: the word whose lowest byte is at `at`.
unfoldable pub word_at : List ℕ → ℕ → ℕ
word_at s at = get_or s at 0 + 256 * get_or s (at + 1) 0 + 65536 * get_or s (at + 2) 0 + 16777216 * get_or s (at + 3) 0

-- The bytes s with the word v at `at`.
unfoldable pub put_word : List ℕ → ℕ → ℕ → List ℕ
put_word s at v =
    set (set (set (set s at (v % 256)) (at + 1) (v / 256 % 256)) (at + 2) (v / 65536 % 256)) (at + 3) (v / 16777216 % 256)

-- Two words in a row as one number, the first lowest.
abbrev pub long_at : List ℕ → ℕ → ℕ
long_at s at = word_at s at + 4294967296 * word_at s (at + 4)

-- The image, data words 2 and 3 of a mailbox: the bytes s with a number put as two words in a row from `at` on, the lower one first.
abbrev pub put_long : List ℕ → ℕ → ℕ → List ℕ
put_long s at v = put_word (put_word s at (v % 4294967296)) (at + 4) (v / 4294967296)

-- n words in a row, the first at `at`.
unfoldable pub words_of : List ℕ → ℕ → ℕ → List ℕ
words_of s at zero = []
words_of s at (suc n) = word_at s at ∷ words_of s (at + 4) n

-- The bytes s with words in a row from `at` on.
unfoldable pub put_words : List ℕ → ℕ → List ℕ → List ℕ
put_words s at [] = s
put_words s at (w ∷ ws) = put_words (put_word s at w) (at + 4) ws
