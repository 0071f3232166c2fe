-- Comparing two images: terms for the contracts of the code, which judges both images and goes over four words at once. The rule itself is
-- in Compare.
use Rattle.std.specs.Prelude.{ℕ, zero, suc, ◌+◌, Bool, ◌&&◌, List, [], ◌++◌, eqb}
use Rattle.good.specs.Good.{good_image}
use Rattle.compare.specs.Compare.{image_word, difference, list_bytes}

-- Are both images good?
abbrev pub both_good : List ℕ → List ℕ → Bool
both_good a b = good_image a && good_image b

-- Is word k the same in both? Are two words, or four, from there on?
abbrev pub same : List ℕ → List ℕ → ℕ → Bool
same a b k = eqb (image_word a k) (image_word b k)

abbrev pub same_two : List ℕ → List ℕ → ℕ → Bool
same_two a b k = same a b k && same a b (k + 1)

abbrev pub same_four : List ℕ → List ℕ → ℕ → Bool
same_four a b k = same_two a b k && same_two a b (k + 2)

-- The bytes of what is listed of word k.
abbrev pub one_bytes : List ℕ → List ℕ → ℕ → List ℕ
one_bytes a b k = list_bytes (difference a b k)

-- Comparing two images: the bytes of what is listed of n words in a row, the first of them word k.
unfoldable pub bytes_from : List ℕ → List ℕ → ℕ → ℕ → List ℕ
bytes_from a b k zero = []
bytes_from a b k (suc n) = bytes_from a b k n ++ one_bytes a b (k + n)
