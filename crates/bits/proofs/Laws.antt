-- The bit of a word after each operation, for any word and any bit number.
use Prim.Native.Nat.{ℕ, zero, suc, ◌+◌, ◌-◌, ◌*◌, ◌/◌, ◌%◌, ◌^◌, ◌<◌, ◌≤◌}
use mathlib.Core.Path.{◌≡◌, refl, sym, ◌∙◌, ap}
use mathlib.Core.Bool.{Bool, true, false, not, xor, ◌&&◌, ◌||◌, or-true, or-false}
use native.Mathlib.Decide.{ℕ_discrete}
use native.Mathlib.Omega.{arith}
use native.Mathlib.Nat.{pow-succ', div-eq_of_lt, lt_of_le_of_lt, lt_of_lt_of_le, pow-le-pow_right, div-add-mod', add-zero, mod_self, zero-mod}
use native.Mathlib.Numerals.{one-add}
use lib.Dec.{eqb}
use lib.Bits.{bit_and, bit_or, bit_xor, and_shr, or_shr, xor_shr, and_mod, or_mod, xor_mod, and_le_l, and_lt, xor_lt, or_shifted}
use lib.Pow.{shr-shr, pow_pos, pow-lt}
use borrow.Author.Tests.{eq-eqb, ne_eqb}
use Rattle.bits.specs.Bit.{digit, bit, mask, without, set_bit, flag}

-- ---- digits

digit_lt : (w n : ℕ) → digit w n < 2
unfolding digit
digit_lt w n = omega arith

digit-zero : (w : ℕ) → digit w 0 ≡ w % 2
unfolding digit
digit-zero w = omega arith

digit-suc : (w n : ℕ) → digit w (suc n) ≡ digit (w / 2) n
unfolding digit
digit-suc w n = ap (λ (x : ℕ). x % 2) (ap (λ (k : ℕ). w / 2 ^ k) (sym (one-add n)) ∙ sym (shr-shr w 1 n))

digit-none : (n : ℕ) → digit 0 n ≡ 0
digit-none zero = digit-zero 0
digit-none (suc n) = digit-suc 0 n ∙ digit-none n

digit-mask-same : (n : ℕ) → digit (mask n) n ≡ 1
digit-mask-same zero = digit-zero 1
digit-mask-same (suc n) =
    let e : 2 ^ suc n / 2 ≡ 2 ^ n = omega (arith, pow-succ' 2 n) in
    digit-suc (mask (suc n)) n ∙ ap (λ (x : ℕ). digit x n) e ∙ digit-mask-same n

digit-mask-other : (n m : ℕ) → (m ≡ n → ⊥) → digit (mask n) m ≡ 0
digit-mask-other zero zero h = absurd (h refl)
digit-mask-other zero (suc m) h = digit-suc 1 m ∙ digit-none m
digit-mask-other (suc n) zero h = digit-zero (mask (suc n)) ∙ omega (arith, pow-succ' 2 n)
digit-mask-other (suc n) (suc m) h =
    let e : 2 ^ suc n / 2 ≡ 2 ^ n = omega (arith, pow-succ' 2 n) in
    digit-suc (mask (suc n)) m ∙ ap (λ (x : ℕ). digit x m) e ∙ digit-mask-other n m (λ p. h (ap suc p))

-- the complement in a word of k bits
digit_not : (k m v : ℕ) → m < k → v < 2 ^ k → digit (2 ^ k - 1 - v) m ≡ 1 - digit v m
digit_not zero m v h hv = absurd (omega arith)
digit_not (suc k) zero v h hv =
    rw (digit-zero (2 ^ suc k - 1 - v), digit-zero v) (omega (arith, pow-succ' 2 k, pow_pos k))
digit_not (suc k) (suc m) v h hv =
    let e : (2 ^ suc k - 1 - v) / 2 ≡ 2 ^ k - 1 - v / 2 = omega (arith, pow-succ' 2 k, pow_pos k) in
    let h' : v / 2 < 2 ^ k = omega (arith, pow-succ' 2 k) in
    digit-suc (2 ^ suc k - 1 - v) m
    ∙ ap (λ (x : ℕ). digit x m) e
    ∙ digit_not k m (v / 2) (omega arith) h'
    ∙ ap (λ (x : ℕ). 1 - x) (sym (digit-suc v m))

-- ---- the lowest bit, and the others by the word's half

pub bit-first : {d : ℕ} (w : ℕ) → w % 2 ≡ d → bit w 0 ≡ eqb d 1
bit-first w e = ap (λ (x : ℕ). eqb x 1) (digit-zero w ∙ e)

pub bit-suc : (w n : ℕ) → bit w (suc n) ≡ bit (w / 2) n
bit-suc w n = ap (λ (x : ℕ). eqb x 1) (digit-suc w n)

-- ---- one law for and, or and exclusive or: f goes digit by digit, g is its table

module _ (f : ℕ → ℕ → ℕ) (g : Bool → Bool → Bool) where
  table : (x y : ℕ) → x < 2 → y < 2 → eqb (f 0 0) 1 ≡ g false false → eqb (f 0 1) 1 ≡ g false true → eqb (f 1 0) 1 ≡ g true false
      → eqb (f 1 1) 1 ≡ g true true → eqb (f x y) 1 ≡ g (eqb x 1) (eqb y 1)
  table zero zero hx hy a b c d = a
  table zero (suc zero) hx hy a b c d = b
  table (suc zero) zero hx hy a b c d = c
  table (suc zero) (suc zero) hx hy a b c d = d
  table zero (suc (suc y)) hx hy a b c d = absurd (omega arith)
  table (suc zero) (suc (suc y)) hx hy a b c d = absurd (omega arith)
  table (suc (suc x)) y hx hy a b c d = absurd (omega arith)

  digit_wise : (a b n : ℕ) → f a b / 2 ^ n ≡ f (a / 2 ^ n) (b / 2 ^ n)
      → f (a / 2 ^ n) (b / 2 ^ n) % 2 ^ 1 ≡ f (a / 2 ^ n % 2 ^ 1) (b / 2 ^ n % 2 ^ 1)
      → digit (f a b) n ≡ f (digit a n) (digit b n)
  unfolding digit
  digit_wise a b n shifted last = ap (λ (x : ℕ). x % 2) shifted ∙ last

pub bit-and : (a b n : ℕ) → bit (bit_and a b) n ≡ (bit a n && bit b n)
bit-and a b n =
    rw (digit_wise bit_and ◌&&◌ a b n (and_shr a b n) (and_mod (a / 2 ^ n) (b / 2 ^ n) 1))
    (table bit_and ◌&&◌ (digit a n) (digit b n) (digit_lt a n) (digit_lt b n) refl refl refl refl)

pub bit-or : (a b n : ℕ) → bit (bit_or a b) n ≡ (bit a n || bit b n)
bit-or a b n =
    rw (digit_wise bit_or ◌||◌ a b n (or_shr a b n) (or_mod (a / 2 ^ n) (b / 2 ^ n) 1))
    (table bit_or ◌||◌ (digit a n) (digit b n) (digit_lt a n) (digit_lt b n) refl refl refl refl)

pub bit-xor : (a b n : ℕ) → bit (bit_xor a b) n ≡ xor (bit a n) (bit b n)
unfolding xor
bit-xor a b n =
    rw (digit_wise bit_xor xor a b n (xor_shr a b n) (xor_mod (a / 2 ^ n) (b / 2 ^ n) 1))
    (table bit_xor xor (digit a n) (digit b n) (digit_lt a n) (digit_lt b n) refl refl refl refl)

taken : (x y : Bool) → xor x (x && y) ≡ (x && not y)
unfolding xor
taken true true = refl
taken true false = refl
taken false y = refl

pub bit-without : (w v n : ℕ) → bit (without w v) n ≡ (bit w n && not (bit v n))
bit-without w v n = bit-xor w (bit_and w v) n ∙ ap (xor (bit w n)) (bit-and w v n) ∙ taken (bit w n) (bit v n)

pub bit-zero : (n : ℕ) → bit 0 n ≡ false
bit-zero n = ap (λ (x : ℕ). eqb x 1) (digit-none n)

pub bit_mask : (n m : ℕ) → bit (mask n) m ≡ eqb m n
bit_mask n m = at (ℕ_discrete m n)
  where
    at : Dec (m ≡ n) → bit (mask n) m ≡ eqb m n
    at (yes e) =
        ap (bit (mask n)) e ∙ ap (λ (x : ℕ). eqb x 1) (digit-mask-same n) ∙ sym (eq-eqb m n e)
    at (no d) = ap (λ (x : ℕ). eqb x 1) (digit-mask-other n m d) ∙ sym (ne_eqb m n d)

pub bit-flag : (t : Bool) (n m : ℕ) → bit (flag t n) m ≡ (t && eqb m n)
bit-flag true n m = bit_mask n m
bit-flag false n m = bit-zero m

-- a bit at or past the length of a word is down
pub bit_high : (n k w : ℕ) → w < 2 ^ k → k ≤ n → bit w n ≡ false
unfolding digit
bit_high n k w h l =
    let e : w / 2 ^ n ≡ 0 = div-eq_of_lt (lt_of_lt_of_le h (pow-le-pow_right (omega arith) l)) in
    rw e

-- ---- the same bit and another bit, after set

pub set_same : (w n : ℕ) → bit (set_bit w n) n ≡ true
set_same w n = bit-or w (mask n) n ∙ ap (λ (x : Bool). bit w n || x) (bit_mask n n ∙ eq-eqb n n refl) ∙ or-true (bit w n)

pub set_other : (w n m : ℕ) → (m ≡ n → ⊥) → bit (set_bit w n) m ≡ bit w m
set_other w n m h =
    bit-or w (mask n) m ∙ ap (λ (x : Bool). bit w m || x) (bit_mask n m ∙ ne_eqb m n h) ∙ or-false (bit w m)

-- ---- two words with the same bits are equal

digit_of : (x y : ℕ) → x < 2 → y < 2 → eqb x 1 ≡ eqb y 1 → x ≡ y
digit_of zero zero hx hy e = refl
digit_of zero (suc zero) hx hy e = let z : ◌≡◌ {A = ℕ} 0 1 = cc in absurd (omega arith)
digit_of (suc zero) zero hx hy e = let z : ◌≡◌ {A = ℕ} 0 1 = cc in absurd (omega arith)
digit_of (suc zero) (suc zero) hx hy e = refl
digit_of zero (suc (suc y)) hx hy e = absurd (omega arith)
digit_of (suc zero) (suc (suc y)) hx hy e = absurd (omega arith)
digit_of (suc (suc x)) y hx hy e = absurd (omega arith)

-- words of k bits
pub same_below : (k a b : ℕ) → a < 2 ^ k → b < 2 ^ k → ((n : ℕ) → n < k → bit a n ≡ bit b n) → a ≡ b
same_below zero a b ha hb h = omega arith
same_below (suc k) a b ha hb h =
    let p = pow-succ' 2 k in
    let first : digit a 0 ≡ digit b 0 = digit_of (digit a 0) (digit b 0) (digit_lt a 0) (digit_lt b 0) (h 0 (omega arith)) in
    let low : a % 2 ≡ b % 2 = sym (digit-zero a) ∙ first ∙ digit-zero b in
    let high : a / 2 ≡ b / 2 =
    same_below k (a / 2) (b / 2) (omega arith) (omega arith)
    (λ n hn. sym (bit-suc a n) ∙ h (suc n) (omega arith) ∙ bit-suc b n) in
    omega arith

lt_two_pow : (n : ℕ) → n < 2 ^ n
lt_two_pow zero = omega arith
lt_two_pow (suc n) = let h = lt_two_pow n in omega (arith, pow-succ' 2 n)

-- any words: each has only the bits below its own value
pub same_bits : (a b : ℕ) → ((n : ℕ) → bit a n ≡ bit b n) → a ≡ b
same_bits a b h =
    let l = lt_two_pow (a + b) in
    let p : a < 2 ^ (a + b) = omega arith in
    let q : b < 2 ^ (a + b) = omega arith in
    same_below (a + b) a b p q (λ n k. h n)

-- ---- how the code clears: `w & !v`

bit_not : (v n : ℕ) → n < 32 → v < 2 ^ 32 → bit (2 ^ 32 - 1 - v) n ≡ not (bit v n)
bit_not v n h hv = rw (digit_not 32 n v h hv) (other (digit v n) (digit_lt v n))
  where
    other : (x : ℕ) → x < 2 → eqb (1 - x) 1 ≡ not (eqb x 1)
    other zero l = refl
    other (suc zero) l = refl
    other (suc (suc x)) l = absurd (omega arith)

pub and-not : (w v : ℕ) → w < 2 ^ 32 → v < 2 ^ 32 → bit_and w (2 ^ 32 - 1 - v) ≡ without w v
and-not w v hw hv =
    same_below 32 (bit_and w (2 ^ 32 - 1 - v)) (without w v)
    (lt_of_le_of_lt (and_le_l w (2 ^ 32 - 1 - v)) hw)
    (xor_lt 32 w (bit_and w v) hw (and_lt 32 w v hw hv))
    (λ n hn.
    bit-and w (2 ^ 32 - 1 - v) n ∙ ap (λ (x : Bool). bit w n && x) (bit_not v n hn hv) ∙ sym (bit-without w v n))

-- ---- fields of a word that do not meet

-- what stands below the lowest bit of x is added
pub or_below : (x f k : ℕ) → x % 2 ^ k ≡ 0 → f < 2 ^ k → bit_or x f ≡ x + f
or_below x f k h l =
    let e : x ≡ x / 2 ^ k * 2 ^ k = sym (div-add-mod' x (2 ^ k)) ∙ rw h (add-zero _) in
    ap (λ (y : ℕ). bit_or y f) e ∙ or_shifted (x / 2 ^ k) k f l ∙ ap (λ (y : ℕ). y + f) (sym e)

pub flag_lt : (t : Bool) (n k : ℕ) → n < k → flag t n < 2 ^ k
flag_lt true n k h = pow-lt h
flag_lt false n k h = pow_pos k

pub flag-above : (t : Bool) (n : ℕ) → flag t n % 2 ^ n ≡ 0
flag-above true n = mod_self (2 ^ n)
flag-above false n = zero-mod (2 ^ n)
