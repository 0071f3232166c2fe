-- Document 02, request a, comparing two images: what is proved of the list.
use Rattle.std.specs.Prelude.{ℕ, ◌+◌, ◌*◌, ◌^◌, ◌<◌, ◌≤◌, ◌≡◌, ◌⊎◌, ◌↔◌, ◌≢◌, length}
use mathlib.Core.List.{List, [], ◌∷◌, ◌++◌, foldl}
use Rattle.words.specs.Word.{word_at, put_word}
use Rattle.words.specs.Bytes.{Bytes}
use Rattle.registers.specs.Block.{image_bytes}
use Rattle.compare.specs.declared.Entry.{Entry}
use Rattle.compare.specs.Compare.{image_words, image_word, differences, entry_size, list_bytes}

-- The entry e is on the list.
abbrev pub IsListed : Entry → List Entry → Type 0
IsListed e [] = ⊥
IsListed e (d ∷ es) = (e ≡ d) ⊎ IsListed e es

-- The entry e names a word of the image in which a and b differ, with both contents.
abbrev pub Differs : List ℕ → List ℕ → Entry → Type 0
Differs a b e =
    (e.number < image_words) × (e.first ≡ image_word a e.number) × (e.second ≡ image_word b e.number) × (e.first ≢ e.second)

-- The first content of the entry e is what the image a has in the word that it names; its second is another, of 32 bits.
pub record Change (a : List ℕ) (e : Entry) : Type 0 where
  pub was : e.first ≡ image_word a e.number
  pub word : e.second < 2 ^ 32
  pub other : e.first ≢ e.second

-- The list names words of the image a from number k on and below n, in rising order, and changes each.
abbrev pub Changes : List ℕ → ℕ → ℕ → List Entry → Type 0
Changes a k n [] = Unit
Changes a k n (e ∷ es) = (k ≤ e.number) × (e.number < n) × Change a e × Changes a (e.number + 1) n es

-- A list applied to an image: the second content of each entry is put in its place, one after the other.
abbrev pub changed : List ℕ → Entry → List ℕ
changed s e = put_word s (4 * e.number) e.second

unfoldable pub applied : List ℕ → List Entry → List ℕ
applied s es = foldl changed s es

-- The bytes t have the entry e from `at` on: its three words, read back.
abbrev pub Holds : List ℕ → ℕ → Entry → Type 0
Holds t at e = (word_at t at ≡ e.number) × (word_at t (at + 4) ≡ e.first) × (word_at t (at + 8) ≡ e.second)

-- Of any two images: an entry is listed exactly where they differ; numbers rise, and nothing equal is listed; applied to the first image the
-- list yields the second; and no other list does, of those that name words of the first image in rising order and change each. Of any
-- list: behind the entries before it, each entry stands in the bytes.
pub record Faithful : Type 0 where
  pub listed : (a b : List ℕ) (e : Entry) → IsListed e (differences a b) ↔ Differs a b e
  pub rises : (a b : List ℕ) → Bytes b → Changes a 0 image_words (differences a b)
  pub yields : (a b : List ℕ) → Bytes a → Bytes b → length a ≡ image_bytes → length b ≡ image_bytes → applied a (differences a b) ≡ b
  pub only : (a b : List ℕ) → length a ≡ image_bytes → (es : List Entry) → Changes a 0 image_words es → applied a es ≡ b → es ≡ differences a b
  pub bytes : (ds es : List Entry) (e : Entry) → e.number < 2 ^ 32 → e.first < 2 ^ 32 → e.second < 2 ^ 32
      → Holds (list_bytes (ds ++ (e ∷ es))) (entry_size * length ds) e
