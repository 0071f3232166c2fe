-- A word walked bit by bit, from the lowest: what is left of its lowest k bits once those below n are passed.
use Prim.Native.Nat.{ℕ, zero, suc, ◌+◌, ◌-◌, ◌/◌, ◌%◌, ◌^◌, ◌<◌, ◌≤◌}
use mathlib.Core.Path.{◌≡◌, refl, sym, ◌∙◌, ap, ap₂}
use mathlib.Core.Bool.{Bool, true, false, cond, false≢true}
use native.Mathlib.Decide.{ℕ_discrete}
use native.Mathlib.Nat.{le_refl, lt_of_lt_of_le, mod-lt, div-one, div-eq_of_lt, zero-div}
use native.Mathlib.Omega.{arith}
use lib.Dec.{eqb, ltb}
use lib.Pow.{pow_pos, pow_mono, shr-shr, field, mod-mod-pow}
use borrow.Author.Tests.{ltb-true, ltb-false}
use Rattle.bits.specs.Bit.{digit, bit}
use Rattle.bits.specs.Below.{count_below}
use Rattle.bits.proofs.Below.{count_out}

module _ (k p : ℕ) where
  abbrev pub rest_from : ℕ → ℕ
  rest_from n = p % 2 ^ k / 2 ^ n

  -- at first all of them are left
  pub rest_all : p % 2 ^ k ≡ rest_from 0
  rest_all = sym (div-one (p % 2 ^ k))

  -- d bits further
  rest-next : (n d : ℕ) → rest_from n / 2 ^ d ≡ rest_from (n + d)
  rest-next n d = shr-shr (p % 2 ^ k) n d

  -- is bit n one of those, and up?
  abbrev pub low_bit : ℕ → Bool
  low_bit n = bit (p % 2 ^ k) n

  -- those are the word's own
  pub low-own : (n : ℕ) → n < k → low_bit n ≡ bit p n
  unfolding digit
  low-own n h =
      let j = k - n - 1 in
      let e : k ≡ j + 1 + n = omega arith in
      ap (λ (x : ℕ). eqb x 1)
      (ap (λ (x : ℕ). p % 2 ^ x / 2 ^ n % 2) e
      ∙ ap (λ (x : ℕ). x % 2) (field p (j + 1) n)
      ∙ mod-mod-pow (p / 2 ^ n) j 1)

  -- from k on nothing is left
  rest_end : (n : ℕ) → k ≤ n → rest_from n ≡ 0
  rest_end n l = div-eq_of_lt (lt_of_lt_of_le (mod-lt p (pow_pos k)) (pow_mono l))

  -- where something is left, not all are passed
  pub rest_more : (n : ℕ) → (rest_from n ≡ 0 → ⊥) → n < k
  rest_more n h = at (ltb n k) refl
    where
      at : (t : Bool) → ltb n k ≡ t → n < k
      at true e = ltb-true n k e
      at false e = absurd (h (rest_end n (ltb-false n k e)))

  -- where nothing is left, none of the bits from n on is up
  pub rest-none : (n : ℕ) → rest_from n ≡ 0 → (j : ℕ) → n ≤ j → low_bit j ≡ false
  unfolding digit
  rest-none n h j l =
      let d = j - n in
      let e : j ≡ n + d = omega arith in
      let z : rest_from j ≡ 0 = ap rest_from e ∙ sym (rest-next n d) ∙ ap (λ (x : ℕ). x / 2 ^ d) h ∙ zero-div (2 ^ d) in
      ap (λ (x : ℕ). eqb (x % 2) 1) z

  pub low-none : (j : ℕ) → k ≤ j → low_bit j ≡ false
  low-none j l = rest-none j (rest_end j l) j (le_refl j)

  pub low_less : (n : ℕ) → low_bit n ≡ true → n < k
  low_less n t = rest_more n (λ z. false≢true (sym (rest-none n z n (le_refl n)) ∙ t))

  -- by r, which is what is left from n on: bit n, the bit after it, and what is left after both
  module _ (r n : ℕ) (e : r ≡ rest_from n) where
    pub bit-here : eqb (r % 2) 1 ≡ low_bit n
    unfolding digit
    bit-here = ap (λ (x : ℕ). eqb (x % 2) 1) e

    pub bit-after : eqb (r / 2 % 2) 1 ≡ low_bit (n + 1)
    unfolding digit
    bit-after = ap (λ (x : ℕ). eqb (x % 2) 1) (ap (λ (x : ℕ). x / 2) e ∙ rest-next n 1)

    pub both_passed : r / 4 ≡ rest_from (n + 2)
    both_passed = ap (λ (x : ℕ). x / 4) e ∙ rest-next n 2

-- two tests that agree below n count the same there
pub count_same : (q r : ℕ → Bool) (n : ℕ) → ((j : ℕ) → j < n → q j ≡ r j) → count_below q n ≡ count_below r n
unfolding count_below
count_same q r zero h = refl
count_same q r (suc n) h =
    ap₂ ◌+◌ (count_same q r n (λ j l. h j (omega arith))) (ap (λ (t : Bool). cond t 1 0) (h n (le_refl (suc n))))

-- numbers from n on of which the test does not hold add nothing to the count
pub count-rest : (q : ℕ → Bool) (n m : ℕ) → n ≤ m → ((j : ℕ) → n ≤ j → j < m → q j ≡ false) → count_below q m ≡ count_below q n
count-rest q n zero l h = ap (count_below q) (omega arith)
count-rest q n (suc m) l h =
    at (ℕ_discrete n (suc m)) (λ g. count-rest q n m g (λ j i u. h j i (omega arith)))
  where
    at : Dec (n ≡ suc m) → (n ≤ m → count_below q m ≡ count_below q n) → count_below q (suc m) ≡ count_below q n
    at (yes e) f = ap (count_below q) (sym e)
    at (no d) f =
        let g : n ≤ m = omega arith in
        count_out q m (h m g (omega arith)) ∙ f g

-- what holds of the numbers below n and of those from n on holds of all
pub each_rest : (P : ℕ → Type 0) (n m : ℕ) → ((j : ℕ) → j < n → P j) → ((j : ℕ) → n ≤ j → j < m → P j) → (j : ℕ) → j < m → P j
each_rest P n m f g j h = at (ltb j n) refl
  where
    at : (t : Bool) → ltb j n ≡ t → P j
    at true e = f j (ltb-true j n e)
    at false e = g j (ltb-false j n e) h
