-- A flag word with its bits in the other order, by what the library says of its own turning.
use Prim.Native.Nat.{ℕ, zero, suc, ◌+◌, ◌-◌, ◌*◌, ◌/◌, ◌%◌, ◌<◌}
use mathlib.Core.Path.{◌≡◌, refl, sym, ◌∙◌, ap}
use mathlib.Core.Bool.{Bool, true, false}
use lib.Dec.{ltb}
use borrow.Author.Tests.{ltb-true, ltb-false}
use native.Mathlib.Omega.{arith}
use Rattle.std.specs.Int.{w32, reverse_bits, reverse_bits_onto}
use Rattle.bits.specs.Bit.{bit}
use Rattle.bits.proofs.Laws.{bit-first, bit-suc}
use Rattle.filter.specs.Parts.{Reversed}

-- the bits of a stand above those that are turned
kept : (k n a i : ℕ) → bit (reverse_bits_onto k n a) (k + i) ≡ bit a i
unfolding reverse_bits_onto
kept zero n a i = ap (bit a) (omega arith)
kept (suc k) n a i =
    let b = a * 2 + n % 2 in
    let e : k + suc i ≡ suc k + i = omega arith in
    let h : b / 2 ≡ a = omega arith in
    ap (bit (reverse_bits_onto k (n / 2) b)) (sym e) ∙ kept k (n / 2) b (suc i) ∙ bit-suc b i ∙ ap (λ (x : ℕ). bit x i) h

-- and those below are the lowest k of n, last first
turned : (k n a j : ℕ) → j < k → bit (reverse_bits_onto k n a) j ≡ bit n (k - 1 - j)
unfolding reverse_bits_onto
turned zero n a j l = absurd (omega arith)
turned (suc k) n a j l = at (turned k (n / 2) (a * 2 + n % 2) j) (ltb j k) refl
  where
    b : ℕ
    b = a * 2 + n % 2

    at : (j < k → bit (reverse_bits_onto k (n / 2) b) j ≡ bit (n / 2) (k - 1 - j)) → (t : Bool) → ltb j k ≡ t
        → bit (reverse_bits_onto k (n / 2) b) j ≡ bit n (suc k - 1 - j)
    at f true p =
        let h = ltb-true j k p in
        let e : suc (k - 1 - j) ≡ suc k - 1 - j = omega arith in
        f h ∙ sym (bit-suc n (k - 1 - j)) ∙ ap (bit n) e
    at f false p =
        let h = ltb-false j k p in
        let e : j ≡ k + 0 = omega arith in
        let z : 0 ≡ suc k - 1 - j = omega arith in
        let m : b % 2 ≡ n % 2 = omega arith in
        ap (bit (reverse_bits_onto k (n / 2) b)) e ∙ kept k (n / 2) b 0 ∙ bit-first b m ∙ sym (bit-first n refl) ∙ ap (bit n) z

pub turns_all : (w : ℕ) → Reversed w (reverse_bits w32 w)
turns_all w k l = turned 32 w 0 k l
