-- Document 02, request a: comparing two images. The list of what differs, its bytes, and what a C caller has after the call.
use Rattle.std.specs.Prelude.{ℕ, zero, suc, ◌*◌, cond, eqb, length}
use mathlib.Core.List.{List, [], ◌∷◌, ◌++◌, flat_map}
use Rattle.words.specs.Word.{word_at}
use Rattle.texts.specs.Text.{word_bytes}
use Rattle.answers.specs.Answer.{Refuses, Fitted}
use Rattle.compare.specs.declared.Entry.{Entry}

-- Comparing two images: a word's number is its place in the whole image, 0 to 193: four words of each mailbox, the 32 register words, a mask
-- for each mailbox, the protection word, the profile.
abbrev pub image_words : ℕ
image_words = 194

abbrev pub image_word : List ℕ → ℕ → ℕ
image_word s k = word_at s (4 * k)

-- Comparing two images: word k has no entry where it is the same in both, else one: its number, what a has there, what b has.
abbrev pub difference : List ℕ → List ℕ → ℕ → List Entry
difference a b k =
    cond (eqb (image_word a k) (image_word b k)) [] (record { number = k; first = image_word a k; second = image_word b k } ∷ [])

-- Comparing two images: what differs, word by word in image order: of the words below n, then of all.
unfoldable pub differences_below : List ℕ → List ℕ → ℕ → List Entry
differences_below a b zero = []
differences_below a b (suc n) = differences_below a b n ++ difference a b n

unfoldable pub differences : List ℕ → List ℕ → List Entry
differences a b = differences_below a b image_words

-- Comparing two images: an entry is three words, one behind the other: which word it is, what the first image has there, what the second.
abbrev pub entry_size : ℕ
entry_size = 12

abbrev pub entry_bytes : Entry → List ℕ
entry_bytes e = word_bytes e.number ++ (word_bytes e.first ++ word_bytes e.second)

unfoldable pub list_bytes : List Entry → List ℕ
list_bytes es = flat_map entry_bytes es

-- Comparing two images, the call: refused with 1 unless both images are good, which `good` says of them, and before anything else. Else the
-- list is written, where it fits the lent bytes o.
pub record Compares (good : Type 0) (a b o exit : List ℕ) (answer : ℕ) : Type 0 where
  pub bad : (good → ⊥) → Refuses 1 o exit answer
  pub fitted : good → Fitted (length (differences a b)) (list_bytes (differences a b)) o exit answer
