-- A flag word with its bits in the other order, made bit by bit, by halves and doublings.
use Prim.Native.Nat.{ℕ, zero, suc, ◌+◌, ◌-◌, ◌*◌, ◌/◌, ◌%◌, ◌^◌, ◌<◌, ◌≤◌}
use mathlib.Core.Path.{◌≡◌, sym, ◌∙◌, ap}
use native.Mathlib.Numerals.{one-add}
use native.Mathlib.Omega.{arith}
use lib.Dec.{eqb}
use lib.Pow.{shr-shr}
use Rattle.bits.specs.Bit.{digit, bit}
use Rattle.filter.proofs.Rest.{low-own}

-- what is left of w, and what is made of the i bits before
pub record Halved (w i rest r : ℕ) : Type 0 where
  pub most : i ≤ 32
  pub left : rest ≡ w / 2 ^ i
  pub made : (k : ℕ) → k < i → bit r k ≡ bit w (i - 1 - k)

pub half_starts : (w : ℕ) → Halved w 0 w 0
half_starts w = record { most = omega arith; left = omega arith; made = λ k h. absurd (omega arith) }

-- a word with one bit more below it
bit-above : (y x k : ℕ) → x < 2 → bit (y * 2 + x) (suc k) ≡ bit y k
unfolding digit
bit-above y x k h =
    let e : (y * 2 + x) / 2 ^ 1 ≡ y = omega arith in
    ap (λ (z : ℕ). eqb (z % 2) 1)
    (ap (λ (j : ℕ). (y * 2 + x) / 2 ^ j) (sym (one-add k)) ∙ sym (shr-shr (y * 2 + x) 1 k) ∙ ap (λ (z : ℕ). z / 2 ^ k) e)

module _ (w i rest r : ℕ) (h : i < 32) (a : Halved w i rest r) where
  abbrev next : ℕ
  next = r % 2 ^ 31 * 2 + rest % 2

  made_more : (k : ℕ) → k < i + 1 → bit next k ≡ bit w (i + 1 - 1 - k)
  unfolding digit
  made_more zero l =
      let e : next / 2 ^ 0 % 2 ≡ rest % 2 = omega arith in
      let j : i ≡ i + 1 - 1 - 0 = omega arith in
      ap (λ (z : ℕ). eqb z 1) e ∙ ap (λ (z : ℕ). eqb (z % 2) 1) a.left ∙ ap (bit w) j
  made_more (suc k) l =
      let j : i - 1 - k ≡ i + 1 - 1 - suc k = omega arith in
      bit-above (r % 2 ^ 31) (rest % 2) k (omega arith)
      ∙ low-own 31 r k (omega arith)
      ∙ a.made k (omega arith)
      ∙ ap (bit w) j

  pub half_more : Halved w (i + 1) (rest / 2) next
  half_more =
      record {
        most = omega arith;
        left = ap (λ (x : ℕ). x / 2) a.left ∙ shr-shr w i 1;
        made = made_more;
      }

pub half_ends : (w i rest r : ℕ) → 32 ≤ i → Halved w i rest r → (k : ℕ) → k < 32 → bit r k ≡ bit w (31 - k)
half_ends w i rest r h a k l =
    let m = a.most in
    let e : i - 1 - k ≡ 31 - k = omega arith in
    a.made k (omega arith) ∙ ap (bit w) e
