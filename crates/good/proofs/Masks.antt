-- Masks judged together: `|` of numbers has two bits in a row where one of them has.
use Rattle.std.proofs.lemmas.Bool.{and_from}
use Prim.Native.Nat.{ℕ, zero, suc, ◌+◌, ◌*◌, ◌/◌, ◌%◌, ◌^◌, ◌<◌}
use mathlib.Core.Path.{◌≡◌, refl, sym, ◌∙◌, ap, ap₂}
use mathlib.Core.List.{List}
use mathlib.Core.Bool.{Bool, true, false, not, ◌&&◌, ◌||◌}
use native.Mathlib.Omega.{arith}
use lib.Dec.{eqb}
use lib.Bits.{bit_or}
use lib.Pow.{shr-shr}
use borrow.Author.Tests.{eqb-true, eqb-false, eq-eqb, ne_eqb}
use Rattle.bits.specs.Bit.{digit, bit}
use Rattle.bits.specs.Tests.{gap_down}
use Rattle.bits.proofs.Laws.{bit-or}
use Rattle.bits.specs.Below.{all_below}
use Rattle.bits.proofs.Below.{each_below, all_below_lem}
use Rattle.bits.proofs.Tests.{same_test}
use Rattle.bits.proofs.Sets.{and_l, and_r}
use Rattle.good.specs.Good.{good_mask}
use Rattle.good.specs.Gathered.{bare, good_pair}
use Rattle.good.proofs.Stretches.{interchange}

halves : (x y : ℕ) → y ≡ x / 2 → x % 2 ≡ 0 → y % 2 ≡ 0 → x % 4 ≡ 0
halves x y e f g = omega arith

low : (x y : ℕ) → y ≡ x / 2 → x % 2 ≡ 1 → x % 4 ≡ 0 → ⊥
low x y e f g = omega arith

high : (x y : ℕ) → y ≡ x / 2 → y % 2 ≡ 1 → x % 4 ≡ 0 → ⊥
high x y e f g = omega arith

-- the remainder, bit by bit
gap_is : (k w : ℕ) → eqb (w / 2 ^ k % 4) 0 ≡ (not (bit w k) && not (bit w (k + 1)))
unfolding digit
gap_is k w = at (bit w k) refl (bit w (k + 1)) refl
  where
    half : w / 2 ^ (k + 1) ≡ w / 2 ^ k / 2
    half = sym (shr-shr w k 1)

    at : (t : Bool) → bit w k ≡ t → (u : Bool) → bit w (k + 1) ≡ u → eqb (w / 2 ^ k % 4) 0 ≡ (not t && not u)
    at true p u q = ne_eqb (w / 2 ^ k % 4) 0 (low (w / 2 ^ k) (w / 2 ^ (k + 1)) half (eqb-true (w / 2 ^ k % 2) 1 p))
    at false p true q = ne_eqb (w / 2 ^ k % 4) 0 (high (w / 2 ^ k) (w / 2 ^ (k + 1)) half (eqb-true (w / 2 ^ (k + 1) % 2) 1 q))
    at false p false q =
        let e = eqb-false (w / 2 ^ k % 2) 1 p in
        let f = eqb-false (w / 2 ^ (k + 1) % 2) 1 q in
        eq-eqb (w / 2 ^ k % 4) 0 (halves (w / 2 ^ k) (w / 2 ^ (k + 1)) half (omega arith) (omega arith))

table : (a b c d : Bool) → (not (a || b) && not (c || d)) ≡ ((not a && not c) && (not b && not d))
table true b c d = refl
table false true true d = refl
table false true false d = refl
table false false true d = refl
table false false false d = refl

gap_or : (k v w : ℕ) → eqb (bit_or v w / 2 ^ k % 4) 0 ≡ (eqb (v / 2 ^ k % 4) 0 && eqb (w / 2 ^ k % 4) 0)
gap_or k v w =
    gap_is k (bit_or v w)
    ∙ ap₂ (λ (x y : Bool). not x && not y) (bit-or v w k) (bit-or v w (k + 1))
    ∙ table (bit v k) (bit w k) (bit v (k + 1)) (bit w (k + 1))
    ∙ sym (ap₂ ◌&&◌ (gap_is k v) (gap_is k w))

pub bare-or : (v w : ℕ) → bare (bit_or v w) ≡ (bare v && bare w)
bare-or v w =
    ap₂ ◌&&◌ (gap_or 29 v w) (gap_or 61 v w)
    ∙ interchange (eqb (v / 2 ^ 29 % 4) 0) (eqb (w / 2 ^ 29 % 4) 0) (eqb (v / 2 ^ 61 % 4) 0) (eqb (w / 2 ^ 61 % 4) 0)

-- two masks as one number
pub bare_pair : (x y : ℕ) → x < 2 ^ 32 → bare (x + 4294967296 * y) ≡ (gap_down x && gap_down y)
bare_pair x y h =
    let a : (x + 4294967296 * y) / 2 ^ 29 % 4 ≡ x / 2 ^ 29 % 4 = omega arith in
    let b : (x + 4294967296 * y) / 2 ^ 61 ≡ y / 2 ^ 29 = omega arith in
    ap₂ (λ (p q : ℕ). eqb p 0 && eqb (q % 4) 0) a b

-- ---- the pairs, every other one first, are all the masks

module _ (s : List ℕ) where
  abbrev at : ℕ → ℕ
  at k = k % 8 * 2 + k / 8

  -- every pair has its turn
  turns : all_below (λ j. eqb (at (j / 2 + 8 * (j % 2))) j) 16 ≡ true
  unfolding all_below
  turns = refl

  turn : (j : ℕ) → j < 16 → at (j / 2 + 8 * (j % 2)) ≡ j
  turn j h = eqb-true _ _ (each_below (λ j. eqb (at (j / 2 + 8 * (j % 2))) j) 16 turns j h)

  all_pairs : ((k : ℕ) → k < 16 → good_pair s k ≡ true) → (n : ℕ) → n < 32 → good_mask s n ≡ true
  all_pairs h n l = of (n % 2) refl
    where
      both_good_lem : (good_mask s (2 * (n / 2)) && good_mask s (2 * (n / 2) + 1)) ≡ true
      both_good_lem =
          ap (λ (j : ℕ). good_mask s (2 * j) && good_mask s (2 * j + 1)) (sym (turn (n / 2) (omega arith)))
          ∙ h (n / 2 / 2 + 8 * (n / 2 % 2)) (omega arith)

      of : (r : ℕ) → n % 2 ≡ r → good_mask s n ≡ true
      of zero e =
          let i : 2 * (n / 2) ≡ n = omega arith in
          ap (good_mask s) (sym i) ∙ and_l (good_mask s (2 * (n / 2))) (good_mask s (2 * (n / 2) + 1)) both_good_lem
      of (suc zero) e =
          let i : 2 * (n / 2) + 1 ≡ n = omega arith in
          ap (good_mask s) (sym i) ∙ and_r (good_mask s (2 * (n / 2))) (good_mask s (2 * (n / 2) + 1)) both_good_lem
      of (suc (suc r)) e = absurd (omega arith)

  all-masks : ((n : ℕ) → n < 32 → good_mask s n ≡ true) → (k : ℕ) → k < 16 → good_pair s k ≡ true
  all-masks h k l = and_from (good_mask s (2 * at k)) (good_mask s (2 * at k + 1)) (h (2 * at k) (omega arith)) (h (2 * at k + 1) (omega arith))

  -- all pairs are good exactly where all masks are
  pub pairs_masks : all_below (good_pair s) 16 ≡ all_below (good_mask s) 32
  pairs_masks =
      same_test (all_below (good_pair s) 16) (all_below (good_mask s) 32)
      (λ h. all_below_lem (good_mask s) 32 (all_pairs (each_below (good_pair s) 16 h)))
      (λ h. all_below_lem (good_pair s) 16 (all-masks (each_below (good_mask s) 32 h)))
