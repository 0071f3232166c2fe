-- Words in a row.
use Prim.Native.Nat.{ℕ, zero, suc, ◌+◌, ◌*◌, ◌^◌, ◌<◌, ◌≤◌}
use mathlib.Core.Path.{◌≡◌, refl, ◌∙◌, ap, ap₂}
use mathlib.Core.List.{List, [], ◌∷◌}
use native.Mathlib.Omega.{arith}
use mathlib.Core.Logic.{inl, inr}
use lib.ListN.{get_or, length, take}
use Rattle.words.specs.Word.{word_at, put_word, words_of, put_words}
use Rattle.words.proofs.Laws.{length-put, byte-other, word_same, word-other}

pub length-words : (s : List ℕ) (at n : ℕ) → length (words_of s at n) ≡ n
unfolding words_of
length-words s at zero = refl
length-words s at (suc n) = ap suc (length-words s (at + 4) n)

pub word_of : (s : List ℕ) (at n k : ℕ) → k < n → get_or (words_of s at n) k 0 ≡ word_at s (at + 4 * k)
unfolding words_of
word_of s at zero k h = absurd (omega arith)
word_of s at (suc n) zero h = ap (word_at s) (omega arith)
word_of s at (suc n) (suc k) h = word_of s (at + 4) n k (omega arith) ∙ ap (word_at s) (omega arith)

-- rows of the same words are the same
pub words_same : (s t : List ℕ) (at n : ℕ) → ((k : ℕ) → k < n → word_at s (at + 4 * k) ≡ word_at t (at + 4 * k))
    → words_of s at n ≡ words_of t at n
unfolding words_of
words_same s t at zero h = refl
words_same s t at (suc n) h =
    ap₂ ◌∷◌ (ap (word_at s) (omega arith) ∙ h 0 (omega arith) ∙ ap (word_at t) (omega arith))
    (words_same s t (at + 4) n
    (λ k l. ap (word_at s) (omega arith) ∙ h (suc k) (omega arith) ∙ ap (word_at t) (omega arith)))

-- one word more at the end
pub put_more : (s : List ℕ) (at : ℕ) (ws : List ℕ) (n : ℕ) → n < length ws
    → put_words s at (take (suc n) ws) ≡ put_word (put_words s at (take n ws)) (at + 4 * n) (get_or ws n 0)
unfolding put_words
put_more s at [] n h = absurd (omega arith)
put_more s at (w ∷ ws) zero h = ap (λ (k : ℕ). put_word s k w) (omega arith)
put_more s at (w ∷ ws) (suc n) h =
    put_more (put_word s at w) (at + 4) ws n (omega arith)
    ∙ ap (λ (k : ℕ). put_word (put_words (put_word s at w) (at + 4) (take n ws)) k (get_or ws n 0)) (omega arith)

pub length-put-words : (s : List ℕ) (at : ℕ) (ws : List ℕ) → length (put_words s at ws) ≡ length s
unfolding put_words
length-put-words s at [] = refl
length-put-words s at (w ∷ ws) = length-put-words (put_word s at w) (at + 4) ws ∙ length-put s at w

-- the bytes and the words before the row stay
pub byte-before-put : (s : List ℕ) (at : ℕ) (ws : List ℕ) (i : ℕ) → i < at → get_or (put_words s at ws) i 0 ≡ get_or s i 0
unfolding put_words
byte-before-put s at [] i h = refl
byte-before-put s at (w ∷ ws) i h = byte-before-put (put_word s at w) (at + 4) ws i (omega arith) ∙ byte-other s at w i (inl h)

pub before-put : (s : List ℕ) (at : ℕ) (ws : List ℕ) (i : ℕ) → i + 4 ≤ at → word_at (put_words s at ws) i ≡ word_at s i
unfolding put_words
before-put s at [] i h = refl
before-put s at (w ∷ ws) i h = before-put (put_word s at w) (at + 4) ws i (omega arith) ∙ word-other s at w i (inl h)

-- the words behind the row stay
pub after-put : (s : List ℕ) (at : ℕ) (ws : List ℕ) (i : ℕ) → at + 4 * length ws ≤ i → word_at (put_words s at ws) i ≡ word_at s i
unfolding put_words
after-put s at [] i h = refl
after-put s at (w ∷ ws) i h = after-put (put_word s at w) (at + 4) ws i (omega arith) ∙ word-other s at w i (inr (omega arith))

-- the words that were put are read back
pub word_of_put : (s : List ℕ) (at : ℕ) (ws : List ℕ) (k : ℕ) → ((j : ℕ) → j < length ws → get_or ws j 0 < 2 ^ 32) → at + 4 * length ws ≤ length s → k < length ws
    → word_at (put_words s at ws) (at + 4 * k) ≡ get_or ws k 0
unfolding put_words
word_of_put s at [] k fit h hk = absurd (omega arith)
word_of_put s at (w ∷ ws) zero fit h hk =
    let e : at + 4 * 0 ≡ at = omega arith in
    ap (word_at (put_words (put_word s at w) (at + 4) ws)) e
    ∙ before-put (put_word s at w) (at + 4) ws at (omega arith)
    ∙ word_same s at w (omega arith) (fit 0 (omega arith))
word_of_put s at (w ∷ ws) (suc k) fit h hk =
    let e : at + 4 * suc k ≡ at + 4 + 4 * k = omega arith in
    let l = length-put s at w in
    ap (word_at (put_words (put_word s at w) (at + 4) ws)) e
    ∙ word_of_put (put_word s at w) (at + 4) ws k (λ j hj. fit (suc j) (omega arith)) (omega arith) (omega arith)
