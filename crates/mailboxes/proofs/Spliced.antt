-- The bytes of a number, lowest first, and the number that is spliced of two others.
use Prim.Native.Nat.{ℕ, zero, suc, ◌+◌, ◌-◌, ◌*◌, ◌/◌, ◌%◌, ◌^◌, ◌<◌, ◌≤◌}
use mathlib.Core.Path.{◌≡◌, sym, ◌∙◌, ap, subst}
use mathlib.Core.List.{List}
use mathlib.Core.Logic.{◌≢◌, inl}
use native.Mathlib.Decide.{dec_lt}
use native.Mathlib.Omega.{arith}
use native.Mathlib.Nat.{mod-lt, mod-mod, mul-add-mod_self_right, add-zero}
use lib.ListN.{get_or, length}
use lib.Pow.{pow_pos, shr-shr, high, field, mod-mod-pow}
use lib.Seq.{get_or-set_same, get_or-set_other, lt-length-set}
use Rattle.words.specs.Word.{word_at, put_word}
use Rattle.words.proofs.Bytes.{Bytes, word_lt}
use Rattle.words.proofs.Laws.{length-put, byte-other}
use Rattle.mailboxes.specs.Filing.{data_of, spliced, with_data}

-- Byte j of x.
abbrev pub byte_of : ℕ → ℕ → ℕ
byte_of x j = x / 2 ^ (8 * j) % 2 ^ 8

-- ---- the bytes of a part of it

-- byte j is one of the lowest n
pub byte_low : (x n j : ℕ) → j < n → byte_of (x % 2 ^ (8 * n)) j ≡ byte_of x j
byte_low x n j h =
    let k = 8 * j in
    let more = 8 * n - (8 + k) in
    let e : 8 * n ≡ more + (8 + k) = omega arith in
    let cut : x % 2 ^ (8 * n) % 2 ^ (8 + k) ≡ x % 2 ^ (8 + k) =
    ap (λ (a : ℕ). x % 2 ^ a % 2 ^ (8 + k)) e ∙ mod-mod-pow x more (8 + k) in
    sym (field (x % 2 ^ (8 * n)) 8 k) ∙ ap (λ (y : ℕ). y / 2 ^ k) cut ∙ field x 8 k

-- byte j of what stands above the lowest n
byte_high : (x n j : ℕ) → byte_of (x / 2 ^ (8 * n)) j ≡ byte_of x (n + j)
byte_high x n j =
    let e : 8 * n + 8 * j ≡ 8 * (n + j) = omega arith in
    ap (λ (y : ℕ). y % 2 ^ 8) (shr-shr x (8 * n) (8 * j) ∙ ap (λ (k : ℕ). x / 2 ^ k) e)

-- what holds of every j below a and of every a + i
pub from : (P : ℕ → Type 0) (a : ℕ) → ((j : ℕ) → j < a → P j) → ((i : ℕ) → P (a + i)) → (j : ℕ) → P j
from P a f g j = at (dec_lt j a)
  where
    at : Dec (j < a) → P j
    at (yes l) = f j l
    at (no l) = let e : a + (j - a) ≡ j = omega arith in subst P e (g (j - a))

-- ---- of two numbers, the first n bytes of one below the others of the other

module _ (old new n : ℕ) where
  new-part : spliced old new n % 2 ^ (8 * n) ≡ new % 2 ^ (8 * n)
  unfolding spliced
  new-part = simp (mul-add-mod_self_right, mod-mod)

  old-part : spliced old new n / 2 ^ (8 * n) ≡ old / 2 ^ (8 * n)
  unfolding spliced
  old-part = high (old / 2 ^ (8 * n)) (8 * n) (mod-lt new (pow_pos (8 * n)))

  pub spliced-new : (j : ℕ) → j < n → byte_of (spliced old new n) j ≡ byte_of new j
  spliced-new j h =
      sym (byte_low (spliced old new n) n j h) ∙ ap (λ (x : ℕ). byte_of x j) new-part ∙ byte_low new n j h

  pub spliced-old : (j : ℕ) → n ≤ j → byte_of (spliced old new n) j ≡ byte_of old j
  spliced-old =
      from (λ j. n ≤ j → byte_of (spliced old new n) j ≡ byte_of old j) n
      (λ j l h. absurd (omega arith))
      (λ i h. sym (byte_high (spliced old new n) n i) ∙ ap (λ (x : ℕ). byte_of x i) old-part ∙ byte_high old n i)

-- ---- the bytes of a word in a list of bytes

pub byte_put : (s : List ℕ) (at v k : ℕ) → at + 4 ≤ length s → k < 4 → get_or (put_word s at v) (at + k) 0 ≡ byte_of v k
unfolding put_word
byte_put s at v zero h l =
    let n1 : at ≢ at + 1 = omega arith in
    let n2 : at ≢ at + 2 = omega arith in
    let n3 : at ≢ at + 3 = omega arith in
    let l : at < length s = omega arith in
    let e : v / 1 % 256 ≡ v % 256 = omega arith in
    rw (add-zero, e) (simp (get_or-set_other, get_or-set_same))
byte_put s at v (suc zero) h l =
    let n2 : at + 1 ≢ at + 2 = omega arith in
    let n3 : at + 1 ≢ at + 3 = omega arith in
    let l : at + 1 < length s = omega arith in
    simp (get_or-set_other, get_or-set_same, lt-length-set)
byte_put s at v (suc (suc zero)) h l =
    let n3 : at + 2 ≢ at + 3 = omega arith in
    let l : at + 2 < length s = omega arith in
    simp (get_or-set_other, get_or-set_same, lt-length-set)
byte_put s at v (suc (suc (suc zero))) h l =
    let l : at + 3 < length s = omega arith in
    simp (get_or-set_same, lt-length-set)
byte_put s at v (suc (suc (suc (suc k)))) h l = absurd (omega arith)

pub word_byte : (s : List ℕ) (at k : ℕ) → Bytes s → k < 4 → byte_of (word_at s at) k ≡ get_or s (at + k) 0
unfolding word_at
word_byte s at zero h l = rw add-zero (omega (arith, h.small at))
word_byte s at (suc zero) h l = omega (arith, h.small at, h.small (at + 1))
word_byte s at (suc (suc zero)) h l = omega (arith, h.small at, h.small (at + 1), h.small (at + 2))
word_byte s at (suc (suc (suc zero))) h l = omega (arith, h.small at, h.small (at + 1), h.small (at + 2), h.small (at + 3))
word_byte s at (suc (suc (suc (suc k)))) h l = absurd (omega arith)

-- ---- the eight data bytes of a mailbox

data_low : (m : List ℕ) → Bytes m → data_of m % 2 ^ 32 ≡ word_at m 8
data_low m h = let l = word_lt m h 8 in omega arith

data_high : (m : List ℕ) → Bytes m → data_of m / 2 ^ 32 ≡ word_at m 12
data_high m h = let l = word_lt m h 8 in omega arith

pub data_byte : (m : List ℕ) → Bytes m → (j : ℕ) → j < 8 → byte_of (data_of m) j ≡ get_or m (8 + j) 0
data_byte m h =
    from (λ j. j < 8 → byte_of (data_of m) j ≡ get_or m (8 + j) 0) 4
    (λ j l _. sym (byte_low (data_of m) 4 j l) ∙ ap (λ (x : ℕ). byte_of x j) (data_low m h) ∙ word_byte m 8 j h l)
    (λ i l.
    sym (byte_high (data_of m) 4 i)
    ∙ ap (λ (x : ℕ). byte_of x i) (data_high m h)
    ∙ word_byte m 12 i h (omega arith)
    ∙ ap (λ (k : ℕ). get_or m k 0) (omega arith))

pub put_data_byte : (m : List ℕ) (d : ℕ) → length m ≡ 16 → (j : ℕ) → j < 8 → get_or (with_data m d) (8 + j) 0 ≡ byte_of d j
put_data_byte m d h =
    let m' = put_word m 8 (d % 2 ^ 32) in
    let l' = length-put m 8 (d % 2 ^ 32) in
    from (λ j. j < 8 → get_or (with_data m d) (8 + j) 0 ≡ byte_of d j) 4
    (λ j l _.
    byte-other m' 12 (d / 2 ^ 32) (8 + j) (inl (omega arith))
    ∙ byte_put m 8 (d % 2 ^ 32) j (omega arith) l
    ∙ byte_low d 4 j l)
    (λ i l.
    ap (λ (k : ℕ). get_or (with_data m d) k 0) (omega arith)
    ∙ byte_put m' 12 (d / 2 ^ 32) i (omega arith) (omega arith)
    ∙ byte_high d 4 i)
