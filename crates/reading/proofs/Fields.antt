-- The fields of GSR do not meet, so that masks add them up.
use Prim.Native.Nat.{ℕ, suc, ◌+◌, ◌%◌, ◌^◌, ◌<◌, ◌≤◌}
use mathlib.Core.Path.{◌≡◌, refl, sym, ◌∙◌, ap, ap₂}
use mathlib.Core.Bool.{Bool, true, false, cond}
use native.Mathlib.Omega.{arith}
use native.Mathlib.Nat.{add-mod, zero-mod}
use lib.Bits.{bit_or}
use lib.Pow.{mod-mod-pow}
use borrow.Author.Tests.{eqb-false}
use Rattle.bits.specs.Bit.{flag}
use Rattle.registers.specs.declared.Block.{Block}
use Rattle.registers.specs.Block.{empty_slot}
use Rattle.registers.specs.Status.{vacant}
use Rattle.reading.specs.Gsr.{shown_slot}
use Rattle.bits.proofs.Laws.{or_below, flag_lt, flag-above}

-- x is the sum y, which has no bit below k
pub record Sum (x y k : ℕ) : Type 0 where
  pub same : x ≡ y
  pub above : y % 2 ^ k ≡ 0

-- one flag more, of a number below all before it
pub next : {x y r : ℕ} (j : ℕ) (t : Bool) (n : ℕ) → r ≡ flag t n → Sum x y (suc j + n) → Sum (bit_or x r) (y + flag t n) n
next {x} {y} {r} j t n e h =
    let k = suc j + n in
    let f = flag t n in
    let l : n < k = omega arith in
    let z : y % 2 ^ n ≡ 0 = sym (mod-mod-pow y (suc j) n) ∙ ap (λ (v : ℕ). v % 2 ^ n) h.above ∙ zero-mod (2 ^ n) in
    record {
      same = ap₂ bit_or h.same e ∙ or_below y f k h.above (flag_lt t n k l);
      above = add-mod y f (2 ^ n) ∙ rw (z, flag-above t n) (zero-mod (2 ^ n));
    }

-- the slot that is shown has five bits
pub shown_most : (b : Block) → b.slot ≤ empty_slot → shown_slot b ≤ 31
shown_most b h = at (vacant b) refl
  where
    at : (t : Bool) → vacant b ≡ t → cond t 31 b.slot ≤ 31
    at true e = omega arith
    at false e = let n = eqb-false b.slot empty_slot e in omega arith
