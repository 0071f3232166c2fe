-- A word that was put is read back, others stay, and the length too.
use Prim.Native.Nat.{ℕ, ◌+◌, ◌*◌, ◌/◌, ◌%◌, ◌^◌, ◌<◌, ◌≤◌}
use mathlib.Core.Path.{◌≡◌, sym, ◌∙◌, ap}
use mathlib.Core.List.{List}
use mathlib.Core.Logic.{◌⊎◌, inl, inr, ◌≢◌}
use native.Mathlib.Omega.{arith}
use lib.ListN.{get_or, length, length-set}
use lib.Dec.{lit<}
use lib.Pow.{shr-shr}
use native.Mathlib.Nat.{add-zero}
use lib.Seq.{get_or-set_same, get_or-set_other, lt-length-set}
use Rattle.words.specs.Word.{word_at, put_word}

pub length-put : (s : List ℕ) (at v : ℕ) → length (put_word s at v) ≡ length s
unfolding put_word
length-put s at v = simp length-set

-- a byte outside the word
pub byte-other : (s : List ℕ) (at v i : ℕ) → ((i < at) ⊎ (at + 4 ≤ i)) → get_or (put_word s at v) i 0 ≡ get_or s i 0
unfolding put_word
byte-other s at v i (inl h) =
    let n0 : i ≢ at = omega arith in
    let n1 : i ≢ at + 1 = omega arith in
    let n2 : i ≢ at + 2 = omega arith in
    let n3 : i ≢ at + 3 = omega arith in
    simp get_or-set_other
byte-other s at v i (inr h) =
    let n0 : i ≢ at = omega arith in
    let n1 : i ≢ at + 1 = omega arith in
    let n2 : i ≢ at + 2 = omega arith in
    let n3 : i ≢ at + 3 = omega arith in
    simp get_or-set_other

digit : (x : ℕ) → x ≡ x % 256 + 256 * (x / 256)
digit x = omega arith

small : (x : ℕ) → x < 256 → x % 256 ≡ x
small x h = omega arith

comb : (v d0 d1 d2 q1 q2 q3 : ℕ) → v ≡ d0 + 256 * q1 → q1 ≡ d1 + 256 * q2 → q2 ≡ d2 + 256 * q3 → d0 + 256 * d1 + 65536 * d2 + 16777216 * q3 ≡ v
comb v d0 d1 d2 q1 q2 q3 a b c = omega arith

pub bytes_of : (v : ℕ) → v < 2 ^ 32 → v % 256 + 256 * (v / 256 % 256) + 65536 * (v / 65536 % 256) + 16777216 * (v / 16777216 % 256) ≡ v
bytes_of v hv =
    let e2 : v / 65536 ≡ v / 256 / 256 = sym (shr-shr v 8 8) in
    let e3 : v / 16777216 ≡ v / 256 / 256 / 256 = sym (shr-shr v 16 8) ∙ ap (λ (x : ℕ). x / 256) e2 in
    let top : v / 16777216 % 256 ≡ v / 16777216 = small (v / 16777216) (omega arith) in
    rw (top, e2, e3) (comb _ _ _ _ _ _ _ (digit v) (digit (v / 256)) (digit (v / 256 / 256)))

pub word_same : (s : List ℕ) (at v : ℕ) → at + 4 ≤ length s → v < 2 ^ 32 → word_at (put_word s at v) at ≡ v
unfolding put_word word_at
word_same s at v h hv =
    let n01 : at ≢ at + 1 = omega arith in
    let n02 : at ≢ at + 2 = omega arith in
    let n03 : at ≢ at + 3 = omega arith in
    let n12 : at + 1 ≢ at + 2 = omega arith in
    let n13 : at + 1 ≢ at + 3 = omega arith in
    let n23 : at + 2 ≢ at + 3 = omega arith in
    let h0 : at < length s = omega arith in
    let h1 : at + 1 < length s = omega arith in
    let h2 : at + 2 < length s = omega arith in
    let h3 : at + 3 < length s = omega arith in
    simp (get_or-set_other, get_or-set_same, lt-length-set) (bytes_of v hv)

-- two words of the same four bytes are the same
pub word_by_bytes : (s t : List ℕ) (i j : ℕ) → ((k : ℕ) → k < 4 → get_or s (i + k) 0 ≡ get_or t (j + k) 0) → word_at s i ≡ word_at t j
unfolding word_at
word_by_bytes s t i j h =
    let a : get_or s i 0 ≡ get_or t j 0 = ap (λ (k : ℕ). get_or s k 0) (sym (add-zero i)) ∙ h 0 (lit< tt) ∙ ap (λ (k : ℕ). get_or t k 0) (add-zero j) in
    rw (a, h 1 (lit< tt), h 2 (lit< tt), h 3 (lit< tt))

pub word-other : (s : List ℕ) (at v i : ℕ) → ((i + 4 ≤ at) ⊎ (at + 4 ≤ i)) → word_at (put_word s at v) i ≡ word_at s i
word-other s at v i (inl h) = word_by_bytes (put_word s at v) s i i (λ k l. byte-other s at v (i + k) (inl (omega arith)))
word-other s at v i (inr h) = word_by_bytes (put_word s at v) s i i (λ k l. byte-other s at v (i + k) (inr (omega arith)))
