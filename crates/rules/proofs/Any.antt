-- Some mailbox: a word is not 0 exactly where one of its 32 bits is up.
use Prim.Native.Nat.{ℕ, ◌^◌, ◌<◌}
use mathlib.Core.Path.{◌≡◌, refl, sym, ◌∙◌, ap}
use mathlib.Core.Bool.{Bool, true, false, not, false≢true}
use native.Mathlib.Decide.{dec_lt}
use native.Mathlib.Omega.{arith}
use lib.Dec.{eqb}
use borrow.Author.Tests.{eq-eqb, ne_eqb, not-true}
use Rattle.bits.specs.Bit.{bit}
use Rattle.bits.specs.Below.{all_below}
use Rattle.bits.proofs.Laws.{bit-zero, bit_high, same_bits}
use Rattle.bits.proofs.Below.{each_below, all_below_lem}
use Rattle.rules.specs.Words.{any}

pub any_word : (w : ℕ) (p : ℕ → Bool) → w < 2 ^ 32 → ((n : ℕ) → bit w n ≡ p n) → not (eqb w 0) ≡ any p
any_word w p h f = ap not (at (all_below (λ n. not (p n)) 32) refl)
  where
    at : (t : Bool) → all_below (λ n. not (p n)) 32 ≡ t → eqb w 0 ≡ t
    at true e = eq-eqb _ _ (same_bits w 0 (λ n. none n (dec_lt n 32) ∙ sym (bit-zero n)))
      where
        none : (n : ℕ) → Dec (n < 32) → bit w n ≡ false
        none n (yes l) = f n ∙ not-true _ (each_below (λ n. not (p n)) 32 e n l)
        none n (no l) = bit_high n 32 w h (omega arith)
    at false e =
        ne_eqb _ _ (λ z. false≢true (sym e ∙ all_below_lem (λ n. not (p n)) 32 (λ n l. ap not (sym (f n) ∙ ap (λ (x : ℕ). bit x n) z ∙ bit-zero n))))
