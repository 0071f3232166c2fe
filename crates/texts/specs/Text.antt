-- What is put into lent bytes: texts from a place on, words in four bytes, numbers in decimal.
use Rattle.std.specs.Prelude.{ℕ, zero, suc, ◌+◌, ◌/◌, ◌%◌, ◌≡◌, cond, List, [], ◌∷◌, ◌++◌, ltb, length, set}

-- The bytes o with a text from `at` on.
unfoldable pub written : List ℕ → ℕ → List ℕ → List ℕ
written o at [] = o
written o at (x ∷ t) = written (set o at x) (at + 1) t

-- What a writer of a text promises: the bytes at exit have it, and the answer is the place behind it.
pub record Put (o : List ℕ) (at : ℕ) (text exit : List ℕ) (answer : ℕ) : Type 0 where
  pub bytes : exit ≡ written o at text
  pub behind : answer ≡ at + length text

-- A word in four bytes, the low one first.
abbrev pub word_bytes : ℕ → List ℕ
word_bytes v = v % 256 ∷ v / 256 % 256 ∷ v / 65536 % 256 ∷ v / 16777216 % 256 ∷ []

-- A number in decimal digits, without zeros in front: its last digit behind those of a tenth of it, if that is not 0. It has
-- fewer digits than `turns`.
unfoldable pub decimal_in : ℕ → ℕ → List ℕ
decimal_in zero n = []
decimal_in (suc turns) n = cond (ltb n 10) [] (decimal_in turns (n / 10)) ++ ((48 + n % 10) ∷ [])

unfoldable pub decimal : ℕ → List ℕ
decimal n = decimal_in (suc n) n

-- A number and the byte that ends it.
abbrev pub field : ℕ → ℕ → List ℕ
field n end = decimal n ++ (end ∷ [])
