-- A readable number that is not GSR's is that of a word of the image.
use Prim.Native.Nat.{ℕ, ◌+◌, ◌-◌, ◌*◌, ◌≤◌}
use mathlib.Core.Path.{◌≡◌, refl, sym, ◌∙◌}
use mathlib.Core.Bool.{Bool, true, false, cond, not, and-false, false≢true}
use mathlib.Core.Logic.{◌≢◌}
use native.Mathlib.Omega.{arith}
use lib.Dec.{leb}
use borrow.Author.Tests.{leb-true, leb-false, ne_eqb}
use Rattle.bits.proofs.Sets.{and_l, and_r}
use Rattle.registers.specs.Block.{registers_at, image_bytes}
use Rattle.reading.specs.Read.{readable, beyond, place_of, gsr_number}

-- a word of the block from 512 on, or one behind them
pub data Place (k : ℕ) : Type 0 where
  low : k ≤ 21 → Place k
  high : 64 ≤ k → k ≤ 96 → Place k

pub number-place : (ecan : Bool) (k : ℕ) → readable ecan k ≡ true → k ≢ gsr_number → Place k
number-place ecan k h n = at (leb k 21) refl (beyond k) refl
  where
    at : (t : Bool) → leb k 21 ≡ t → (u : Bool) → beyond k ≡ u → Place k
    at true p u q = low (leb-true k 21 p)
    at false p true q = high (leb-true 64 k (and_l (leb 64 k) (leb k 96) q)) (leb-true k 96 (and_r (leb 64 k) (leb k 96) q))
    at false p false q =
        absurd (false≢true (sym (rw (p, q, ne_eqb k gsr_number n, and-false (not ecan))) ∙ h))

pub place-most : (k : ℕ) → Place k → k ≤ 96
place-most k (low h) = omega arith
place-most k (high h l) = l

pub place-fits : (k : ℕ) → Place k → place_of k + 4 ≤ image_bytes
unfolding place_of
place-fits k p = at p (leb 64 k) refl
  where
    at : Place k → (t : Bool) → leb 64 k ≡ t → registers_at + 4 * cond t (k - 32) k + 4 ≤ image_bytes
    at (low h) true e = let l = leb-true 64 k e in absurd (omega arith)
    at (low h) false e = omega arith
    at (high h l) true e = omega arith
    at (high h l) false e = let m = leb-false 64 k e in absurd (omega arith)
