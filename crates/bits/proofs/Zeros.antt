-- The highest bit of a word by its leading zeros, the lowest by its trailing zeros.
use Prim.Native.Nat.{ℕ, zero, suc, ◌-◌, ◌/◌, ◌%◌, ◌^◌, ◌<◌, ◌≤◌}
use mathlib.Core.Path.{◌≡◌, refl, ◌∙◌, subst}
use mathlib.Core.Bool.{true, false}
use native.Mathlib.Nat.{le-div_iff_mul-le, div-lt_iff_lt-mul, pow-suc}
use native.Mathlib.Omega.{arith}
use lib.Pow.{pow_pos}
use lib.Count.{count_leading_zeros, leading_top, count_trailing_zeros, under}
use borrow.Author.Tests.{eq-eqb}
use Rattle.bits.specs.Bit.{digit, bit, Highest}
use Rattle.bits.specs.Below.{first_below}
use Rattle.bits.proofs.Laws.{bit-first, bit-suc, bit_high}
use Rattle.bits.proofs.Below.{First, first_is, first_by}

-- ---- the highest

-- bit j of a number from 2 ^ j on and below 2 ^ (j + 1)
top_bit : (j w : ℕ) → 2 ^ j ≤ w → w < 2 ^ suc j → bit w j ≡ true
unfolding digit
top_bit j w l h =
    let lo : 1 ≤ w / 2 ^ j = (le-div_iff_mul-le (pow_pos j)).1 (omega arith) in
    let up : w / 2 ^ j < 2 = (div-lt_iff_lt-mul (pow_pos j)).1 (omega (arith, pow-suc 2 j)) in
    let e : w / 2 ^ j % 2 ≡ 1 = omega arith in
    eq-eqb _ _ e

module _ (w : ℕ) (some : 0 < w) (small : w < 2 ^ 32) where
  pub zeros_most : count_leading_zeros 32 w ≤ 31
  zeros_most = let t = leading_top 32 w some small in omega (arith, t.1)

  pub highest_zeros : Highest w (31 - count_leading_zeros 32 w)
  highest_zeros =
      let t = leading_top 32 w some small in
      let j = t.0 in
      let e : j ≡ 31 - count_leading_zeros 32 w = omega (arith, t.1) in
      subst (Highest w) e (record { up = top_bit j w t.2 t.3; above = λ m l. bit_high m (suc j) w t.3 l })

-- ---- the lowest

module _ (k w : ℕ) where
  -- an odd word has it at 0
  first_odd : w % 2 ≡ 1 → First (bit w) (suc k) 0
  first_odd e = record { most = omega arith; holds = λ h. bit-first w e; none = λ j h. absurd (omega arith) }

  -- an even word has it a place above that of its half
  first_even : w % 2 ≡ 0 → (t : ℕ) → First (bit (w / 2)) k t → First (bit w) (suc k) (suc t)
  first_even e t f =
      record { most = omega (arith, f.most); holds = λ h. bit-suc w t ∙ f.holds (omega arith); none = below }
    where
      below : (j : ℕ) → j < suc t → bit w j ≡ false
      below zero h = bit-first w e
      below (suc j) h = bit-suc w j ∙ f.none j (omega arith)

  first_next : (t : ℕ) → First (bit (w / 2)) k t → (d : ℕ) → w % 2 ≡ d → First (bit w) (suc k) (under d t)
  first_next t f zero e = first_even e t f
  first_next t f (suc d) e = first_odd (omega arith)

-- Of any word: the lowest of its k bits that is up is numbered by the count of the zeros below it. Where none is up, as in the word 0, the
-- number is k, and so is the count.
pub lowest_zeros : (k w : ℕ) → first_below (bit w) k ≡ count_trailing_zeros k w
unfolding count_trailing_zeros first_below
lowest_zeros zero w = refl
lowest_zeros (suc k) w =
    let half : First (bit (w / 2)) k (count_trailing_zeros k (w / 2)) = subst (First (bit (w / 2)) k) (lowest_zeros k (w / 2)) (first_is (bit (w / 2)) k) in
    first_by (bit w) (suc k) (count_trailing_zeros (suc k) w) (first_next k w (count_trailing_zeros k (w / 2)) half (w % 2) refl)
