-- Bytes stay bytes.
use Prim.Native.Nat.{ℕ, zero, suc, ◌+◌, ◌/◌, ◌%◌, ◌^◌, ◌<◌}
use mathlib.Core.List.{List, [], ◌∷◌, ◌++◌}
use native.Mathlib.Omega.{arith}
use lib.Dec.{lit<}
use lib.ListN.{get_or, set, take, drop}
use lib.Seq.{get_or-drop}
use Rattle.words.specs.Word.{word_at, put_word, put_words}
pub use Rattle.words.specs.Bytes.{Bytes}

pub bytes_tail : {a : ℕ} {s : List ℕ} → Bytes (a ∷ s) → Bytes s
bytes_tail h = record { small = λ i. h.small (suc i) }

pub bytes-nil : Bytes []
bytes-nil = record { small = λ i. lit< tt }

pub bytes-cons : {a : ℕ} {s : List ℕ} → a < 256 → Bytes s → Bytes (a ∷ s)
bytes-cons {a} {s} l h = record { small = at }
  where
    at : (i : ℕ) → get_or (a ∷ s) i 0 < 256
    at zero = l
    at (suc i) = h.small i

pub bytes-set : (s : List ℕ) (i v : ℕ) → v < 256 → Bytes s → Bytes (set s i v)
bytes-set [] i v l h = bytes-nil
bytes-set (a ∷ s) zero v l h = bytes-cons l (bytes_tail h)
bytes-set (a ∷ s) (suc i) v l h = bytes-cons (h.small 0) (bytes-set s i v l (bytes_tail h))

pub bytes-put : (s : List ℕ) (at v : ℕ) → Bytes s → Bytes (put_word s at v)
unfolding put_word
bytes-put s at v h =
    bytes-set _ (at + 3) (v / 16777216 % 256) (omega arith)
    (bytes-set _ (at + 2) (v / 65536 % 256) (omega arith) (bytes-set _ (at + 1) (v / 256 % 256) (omega arith) (bytes-set s at (v % 256) (omega arith) h)))

pub bytes-words : (s : List ℕ) (at : ℕ) (ws : List ℕ) → Bytes s → Bytes (put_words s at ws)
unfolding put_words
bytes-words s at [] h = h
bytes-words s at (w ∷ ws) h = bytes-words (put_word s at w) (at + 4) ws (bytes-put s at w h)

pub bytes_take : (n : ℕ) (s : List ℕ) → Bytes s → Bytes (take n s)
bytes_take zero s h = bytes-nil
bytes_take (suc n) [] h = bytes-nil
bytes_take (suc n) (a ∷ s) h = bytes-cons (h.small 0) (bytes_take n s (bytes_tail h))

pub bytes_drop : (n : ℕ) (s : List ℕ) → Bytes s → Bytes (drop n s)
bytes_drop n s h = record { small = λ i. rw (get_or-drop n s i 0) (h.small (n + i)) }

pub bytes-append : (s t : List ℕ) → Bytes s → Bytes t → Bytes (s ++ t)
bytes-append [] t h k = k
bytes-append (a ∷ s) t h k = bytes-cons (h.small 0) (bytes-append s t (bytes_tail h) k)

pub word_lt : (s : List ℕ) → Bytes s → (i : ℕ) → word_at s i < 2 ^ 32
unfolding word_at
word_lt s h i = omega (arith, h.small i, h.small (i + 1), h.small (i + 2), h.small (i + 3))
