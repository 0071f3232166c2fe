-- Choices inside words, and words of flags.
use Rattle.std.proofs.lemmas.Bool.{and_from}
use Prim.Native.Nat.{ℕ, ◌<◌}
use mathlib.Core.Path.{◌≡◌, refl, sym, ◌∙◌, ap, subst}
use mathlib.Core.Bool.{Bool, true, false, not, cond}
use lib.Bits.{bit_and, bit_or, or_lt}
use borrow.Author.Tests.{eq-eqb}
use Rattle.bits.specs.Bit.{bit, mask, without, flag}
use Rattle.bits.proofs.Laws.{bit-and, bit-without, bit-flag, flag_lt}
use Rattle.bits.proofs.Sets.{Within, Apart, within-zero, within_self, within_trans, without-within, apart-without, within-apart}

-- a choice has what both of its sides have, each with the test's answer in hand
pub either : {A : Type 0} (P : A → Type 0) (t : Bool) {x y : A} → (t ≡ true → P x) → (t ≡ false → P y) → P (cond t x y)
either P true f g = f refl
either P false f g = g refl

-- a flag is at its own bit or nowhere
pub flag-within : (t : Bool) (n : ℕ) → Within (flag t n) (mask n)
flag-within t n = either (λ x. Within x (mask n)) t (λ e. within_self (mask n)) (λ e. within-zero (mask n))

pub flag_up : (t : Bool) (n : ℕ) → t ≡ true → bit (flag t n) n ≡ true
flag_up t n e = bit-flag t n n ∙ rw (e, eq-eqb n n refl)

-- one more flag below bit 8
pub gif_lt : {w : ℕ} (t : Bool) (n : ℕ) → w < 256 → n < 8 → bit_or w (flag t n) < 256
gif_lt {w} t n h l = or_lt 8 w (flag t n) h (flag_lt t n 8 l)

-- what shares nothing with c stays within b when c is taken away
pub within_spared : {a b c : ℕ} → Within a b → Apart a c → Within a (without b c)
within_spared {a} {b} {c} w f =
    record { has = λ n p. bit-without b c n ∙ and_from (bit b n) (not (bit c n)) (w.has n p) (ap not (f.never n p)) }

pub within-and : {a b c : ℕ} → Within a b → Within a c → Within a (bit_and b c)
within-and {a} {b} {c} v w = record { has = λ n p. bit-and b c n ∙ and_from (bit b n) (bit c n) (v.has n p) (w.has n p) }

-- a word without all that it has lies within any
pub within_gone : {a c : ℕ} (x : ℕ) → Within a c → Within (without a c) x
within_gone {a} {c} x w =
    subst (λ (y : ℕ). Within y x) (sym (within-apart (within_trans (without-within a c) w) (apart-without a c))) (within-zero x)
