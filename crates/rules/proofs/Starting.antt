-- The step meets the rule of a start.
use Prim.Native.Nat.{ℕ, ◌+◌, ◌*◌, ◌/◌, ◌%◌, ◌^◌, ◌<◌}
use mathlib.Core.Path.{◌≡◌, refl, sym, ◌∙◌, ap}
use mathlib.Core.Bool.{Bool, true, false, cond, ◌||◌, false≢true}
use mathlib.Core.List.{List, [], ◌∷◌}
use native.Mathlib.Decide.{dec_lt}
use native.Mathlib.Omega.{arith}
use lib.Dec.{ltb}
use Rattle.bits.specs.Bit.{bit, flag}
use Rattle.registers.specs.declared.Block.{Block}
use Rattle.registers.specs.Block.{block_of}
use Rattle.registers.specs.Modes.{on_bus, risen}
use Rattle.registers.specs.Sending.{eligible, started}
use Rattle.mailboxes.specs.Arbitration.{key_of}
use Rattle.sending.specs.Choice.{key_at, next}
use Rattle.sending.proofs.Choice.{eligible-bit, next-off, next_is, next-most}
use Rattle.model.specs.Step.{started_with}
use Rattle.model.proofs.Meets.{calm}
use Rattle.rules.specs.Words.{Words, ◌has◌, box, Only, SLOT}
use Rattle.rules.specs.Sending.{candidate, key, Start}
use Rattle.rules.proofs.Blocks.{of_block, only}

keys : (w : ℕ) (t u : Bool)
    → w / 2 ^ 18 % 2 ^ 11 * 2 ^ 21 + cond (t || u) (2 ^ 20) 0 + cond t (2 ^ 19) 0 + cond t (w % 2 ^ 18 * 2 + cond u 1 0) 0
    ≡ w % 2 ^ 29 / 2 ^ 18 % 2 ^ 11 * 2 ^ 21 + flag (t || u) 20 + flag t 19 + cond t (w % 2 ^ 29 % 2 ^ 18 * 2 + flag u 0) 0
keys w true true = omega arith
keys w true false = omega arith
keys w false true = omega arith
keys w false false = omega arith

module _ (s : List ℕ) (m : Words) where
  abbrev pub b : Block
  b = block_of s

  key-same : (n : ℕ) → key s n ≡ (key_at s n).0
  unfolding key_at key_of
  key-same n = keys (box s n 0) (box s n 0 has 31) (box s n 1 has 4)

  pub candidate-same : (n : ℕ) → bit (eligible b) n ≡ candidate (of_block m b) n
  candidate-same n = eligible-bit b n

  calm_start : (n : ℕ) → risen b (started_with b n) ≡ started_with b n
  calm_start n = at (ltb n 32)
    where
      at : (t : Bool) → risen b (cond t (started b n) b) ≡ cond t (started b n) b
      at true = calm b (started b n) refl (omega arith)
      at false = calm b b refl (omega arith)

  some-chosen : on_bus b ≡ true → (n : ℕ) → n < 32 → candidate (of_block m b) n ≡ true → next s < 32
  some-chosen h n l c = at (dec_lt (next s) 32)
    where
      at : Dec (next s < 32) → next s < 32
      at (yes q) = q
      at (no q) =
          let z : next s ≡ 32 = omega (arith, next-most s) in
          absurd (false≢true (sym ((next_is s h).nobody z n l) ∙ candidate-same n ∙ c))

  none-chosen : ((n : ℕ) → n < 32 → candidate (of_block m b) n ≡ false) → next s ≡ 32
  none-chosen z = at (on_bus b) refl (dec_lt (next s) 32)
    where
      at : (t : Bool) → on_bus b ≡ t → Dec (next s < 32) → next s ≡ 32
      at false h d = next-off s h
      at true h (no q) = omega (arith, next-most s)
      at true h (yes q) = absurd (false≢true (sym (z (next s) q) ∙ sym (candidate-same (next s)) ∙ (next_is s h).named q))

  pub start : Start s (of_block m b) (of_block m (risen b (started_with b (next s)))) (next s)
  start =
      let q = calm_start (next s) in
      record {
        off = next-off s;
        none = none-chosen;
        some = λ h n l c. let k = some-chosen h n l c in (k, sym (candidate-same (next s)) ∙ (next_is s h).named k);
        lowest = λ h o n l c. (next_is s h).by_number (some-chosen h n l c) o n l (candidate-same n ∙ c);
        smallest =
            λ h o n l c.
            rw (key-same (next s), key-same n) ((next_is s h).by_key (some-chosen h n l c) o n l (candidate-same n ∙ c));
        slot = ap (λ (x : Block). x.slot) q ∙ into (ltb (next s) 32);
        rest = λ k o. ap (λ (x : Block). of_block m x k) q ∙ rests (next s) k o;
      }
    where
      into : (t : Bool) → (cond t (started b (next s)) b).slot ≡ cond t (next s) b.slot
      into true = refl
      into false = refl

      rests : (n : ℕ) → Only (SLOT ∷ []) (of_block m b) (of_block m (started_with b n))
      rests n = at (ltb n 32)
        where
          at : (t : Bool) → Only (SLOT ∷ []) (of_block m b) (of_block m (cond t (started b n) b))
          at true = only (SLOT ∷ []) m b (started b n) refl
          at false = λ k o. refl
