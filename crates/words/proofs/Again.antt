-- Words put where words were put before: the last ones stand.
use Prim.Native.Nat.{ℕ, ◌+◌, ◌*◌, ◌/◌, ◌%◌, ◌≤◌}
use mathlib.Core.Path.{◌≡◌, refl, sym, ◌∙◌, ap}
use mathlib.Core.List.{List, [], ◌∷◌}
use mathlib.Core.Logic.{◌≢◌}
use native.Mathlib.Omega.{arith}
use lib.ListN.{set, length}
use lib.Seq.{set-set, set_comm}
use Rattle.words.specs.Word.{put_word, put_words}

-- the bytes of a word, and the word put from its second, third and fourth byte on
abbrev b1 : ℕ → ℕ
b1 v = v / 256 % 256

abbrev b2 : ℕ → ℕ
b2 v = v / 65536 % 256

abbrev b3 : ℕ → ℕ
b3 v = v / 16777216 % 256

abbrev from3 : ℕ → ℕ → List ℕ → List ℕ
from3 at v l = set l (at + 3) (b3 v)

abbrev from2 : ℕ → ℕ → List ℕ → List ℕ
from2 at v l = from3 at v (set l (at + 2) (b2 v))

abbrev from1 : ℕ → ℕ → List ℕ → List ℕ
from1 at v l = from2 at v (set l (at + 1) (b1 v))

-- the word put up to its first, second and third byte
abbrev to0 : List ℕ → ℕ → ℕ → List ℕ
to0 s at v = set s at (v % 256)

abbrev to1 : List ℕ → ℕ → ℕ → List ℕ
to1 s at v = set (to0 s at v) (at + 1) (b1 v)

abbrev to2 : List ℕ → ℕ → ℕ → List ℕ
to2 s at v = set (to1 s at v) (at + 2) (b2 v)

-- a byte that is set before a word is put: inside the word it is gone, outside it may as well be set afterwards
module _ (s : List ℕ) (at v j x : ℕ) where
  past0 : j ≢ at → put_word (set s j x) at v ≡ from1 at v (set (to0 s at v) j x)
  unfolding put_word
  past0 n = ap (from1 at v) (set_comm s j at x (v % 256) n)

  past1 : j ≢ at → j ≢ at + 1 → put_word (set s j x) at v ≡ from2 at v (set (to1 s at v) j x)
  past1 n0 n1 = past0 n0 ∙ ap (from2 at v) (set_comm (to0 s at v) j (at + 1) x (b1 v) n1)

  past2 : j ≢ at → j ≢ at + 1 → j ≢ at + 2 → put_word (set s j x) at v ≡ from3 at v (set (to2 s at v) j x)
  past2 n0 n1 n2 = past1 n0 n1 ∙ ap (from3 at v) (set_comm (to1 s at v) j (at + 2) x (b2 v) n2)

  past : j ≢ at → j ≢ at + 1 → j ≢ at + 2 → j ≢ at + 3 → put_word (set s j x) at v ≡ set (put_word s at v) j x
  unfolding put_word
  past n0 n1 n2 n3 = past2 n0 n1 n2 ∙ set_comm (to2 s at v) j (at + 3) x (b3 v) n3

module _ (s : List ℕ) (at v x : ℕ) where
  gone0 : put_word (set s at x) at v ≡ put_word s at v
  unfolding put_word
  gone0 = ap (from1 at v) (set-set s at x (v % 256))

  gone1 : put_word (set s (at + 1) x) at v ≡ put_word s at v
  unfolding put_word
  gone1 = past0 s at v (at + 1) x (omega arith) ∙ ap (from2 at v) (set-set (to0 s at v) (at + 1) x (b1 v))

  gone2 : put_word (set s (at + 2) x) at v ≡ put_word s at v
  unfolding put_word
  gone2 = past1 s at v (at + 2) x (omega arith) (omega arith) ∙ ap (from3 at v) (set-set (to1 s at v) (at + 2) x (b2 v))

  gone3 : put_word (set s (at + 3) x) at v ≡ put_word s at v
  unfolding put_word
  gone3 = past2 s at v (at + 3) x (omega arith) (omega arith) (omega arith) ∙ set-set (to2 s at v) (at + 3) x (b3 v)

-- a word over a word
put-over : (s : List ℕ) (at w v : ℕ) → put_word (put_word s at w) at v ≡ put_word s at v
unfolding put_word
put-over s at w v = gone3 (to2 s at w) at v (b3 w) ∙ gone2 (to1 s at w) at v (b2 w) ∙ gone1 (to0 s at w) at v (b1 w) ∙ gone0 s at v (w % 256)

-- two words beside each other, in either order
put_beside : (s : List ℕ) (at w to v : ℕ) → at + 4 ≤ to → put_word (put_word s at w) to v ≡ put_word (put_word s to v) at w
unfolding put_word
put_beside s at w to v h =
    past (to2 s at w) to v (at + 3) (b3 w) (omega arith) (omega arith) (omega arith) (omega arith)
    ∙ ap (λ (l : List ℕ). set l (at + 3) (b3 w)) (past (to1 s at w) to v (at + 2) (b2 w) (omega arith) (omega arith) (omega arith) (omega arith))
    ∙ ap (λ (l : List ℕ). set (set l (at + 2) (b2 w)) (at + 3) (b3 w)) (past (to0 s at w) to v (at + 1) (b1 w) (omega arith) (omega arith) (omega arith) (omega arith))
    ∙ ap (from1 at w) (past s to v at (w % 256) (omega arith) (omega arith) (omega arith) (omega arith))

row_beside : (s : List ℕ) (at w to : ℕ) (ws : List ℕ) → at + 4 ≤ to → put_words (put_word s at w) to ws ≡ put_word (put_words s to ws) at w
unfolding put_words
row_beside s at w to [] h = refl
row_beside s at w to (v ∷ ws) h =
    ap (λ (l : List ℕ). put_words l (to + 4) ws) (put_beside s at w to v h) ∙ row_beside (put_word s to v) at w (to + 4) ws (omega arith)

-- two rows beside each other, in either order
pub rows_beside : (s : List ℕ) (at : ℕ) (ws : List ℕ) (to : ℕ) (vs : List ℕ) → at + 4 * length ws ≤ to
    → put_words (put_words s at ws) to vs ≡ put_words (put_words s to vs) at ws
unfolding put_words
rows_beside s at [] to vs h = refl
rows_beside s at (w ∷ ws) to vs h =
    rows_beside (put_word s at w) (at + 4) ws to vs (omega arith)
    ∙ ap (λ (l : List ℕ). put_words l (at + 4) ws) (row_beside s at w to vs (omega arith))

-- a row of words over a row as long
pub put_again : (s : List ℕ) (at : ℕ) (ws vs : List ℕ) → length ws ≡ length vs → put_words (put_words s at ws) at vs ≡ put_words s at vs
unfolding put_words
put_again s at [] [] h = refl
put_again s at [] (v ∷ vs) h = absurd (omega arith)
put_again s at (w ∷ ws) [] h = absurd (omega arith)
put_again s at (w ∷ ws) (v ∷ vs) h =
    ap (λ (l : List ℕ). put_words l (at + 4) vs) (sym (row_beside (put_word s at w) at v (at + 4) ws (omega arith)))
    ∙ put_again (put_word (put_word s at w) at v) (at + 4) ws vs (omega arith)
    ∙ ap (λ (l : List ℕ). put_words l (at + 4) vs) (put-over s at w v)
