-- Words as sets of bits: one within another, two that share none.
use Prim.Native.Nat.{ℕ, ◌/◌, ◌%◌, ◌^◌, ◌<◌, ◌≤◌}
use mathlib.Core.Path.{◌≡◌, refl, sym, ◌∙◌, ap}
use mathlib.Core.Bool.{Bool, true, false, not, xor, ◌&&◌, ◌||◌, false≢true}
use native.Mathlib.Nat.{lt_of_le_of_lt}
use native.Mathlib.Omega.{arith}
use Rattle.std.proofs.lemmas.Bool.{and_from, or_left, or_right}
use lib.Bits.{bit_and, bit_or, bit_xor, and_comm, and_le_l, and_le_r}
use borrow.Author.Tests.{eq-eqb, ne_eqb, eqb-true, eqb-false, not-true}
use Rattle.bits.specs.Bit.{digit, bit, mask, without}
use Rattle.bits.specs.Tests.{gap_down}
use Rattle.bits.proofs.Laws.{bit-and, bit-or, bit-xor, bit-without, bit-zero, bit_mask, same_bits}

-- ---- tests that hold

pub and_l : (a b : Bool) → (a && b) ≡ true → a ≡ true
and_l true b h = refl
and_l false b h = h

pub and_r : (a b : Bool) → (a && b) ≡ true → b ≡ true
and_r true b h = h
and_r false b h = absurd (false≢true h)

-- true on either side
or_cases : {A : Type 0} (a b : Bool) → (a ≡ true → A) → (b ≡ true → A) → (a || b) ≡ true → A
or_cases true b f g p = f refl
or_cases false b f g p = g p

-- ---- the two relations, over all bit numbers

pub record Within (a b : ℕ) : Type 0 where
  pub has : (n : ℕ) → bit a n ≡ true → bit b n ≡ true

pub record Apart (a b : ℕ) : Type 0 where
  pub never : (n : ℕ) → bit a n ≡ true → bit b n ≡ false

-- by words: a & b is a; a & b is 0
same-and : (a b : Bool) → (a ≡ true → b ≡ true) → (a && b) ≡ a
same-and true b h = h refl
same-and false b h = refl

none-and : (a b : Bool) → (a ≡ true → b ≡ false) → (a && b) ≡ false
none-and true b h = h refl
none-and false b h = refl

and_none : (a b : Bool) → (a && b) ≡ false → a ≡ true → b ≡ false
and_none true b h p = h
and_none false b h p = absurd (false≢true p)

pub within_word : {a b : ℕ} → Within a b → bit_and a b ≡ a
within_word {a} {b} w = same_bits (bit_and a b) a (λ n. bit-and a b n ∙ same-and (bit a n) (bit b n) (w.has n))

pub word-within : (a b : ℕ) → bit_and a b ≡ a → Within a b
word-within a b h =
    record { has = λ n p. and_r (bit a n) (bit b n) (sym (bit-and a b n) ∙ ap (λ (x : ℕ). bit x n) h ∙ p) }

pub apart-word : {a b : ℕ} → Apart a b → bit_and a b ≡ 0
apart-word {a} {b} w =
    same_bits (bit_and a b) 0 (λ n. bit-and a b n ∙ none-and (bit a n) (bit b n) (w.never n) ∙ sym (bit-zero n))

pub word-apart : (a b : ℕ) → bit_and a b ≡ 0 → Apart a b
word-apart a b h =
    record { never = λ n p. and_none (bit a n) (bit b n) (sym (bit-and a b n) ∙ ap (λ (x : ℕ). bit x n) h ∙ bit-zero n) p }

-- ---- within

pub within_le : {a b : ℕ} → Within a b → a ≤ b
within_le {a} {b} w = rw (within_word w) at (and_le_r a b)

pub within_self : (a : ℕ) → Within a a
within_self a = record { has = λ n p. p }

pub within-zero : (b : ℕ) → Within 0 b
within-zero b = record { has = λ n p. absurd (false≢true (sym (bit-zero n) ∙ p)) }

pub within_trans : {a b c : ℕ} → Within a b → Within b c → Within a c
within_trans v w = record { has = λ n p. w.has n (v.has n p) }

pub within-or : {a b c : ℕ} → Within a c → Within b c → Within (bit_or a b) c
within-or {a} {b} {c} v w =
    record { has = λ n p. or_cases (bit a n) (bit b n) (v.has n) (w.has n) (sym (bit-or a b n) ∙ p) }

pub and-within_l : (a c : ℕ) → Within (bit_and a c) a
and-within_l a c = record { has = λ n p. and_l (bit a n) (bit c n) (sym (bit-and a c n) ∙ p) }

pub and-within_r : (a c : ℕ) → Within (bit_and a c) c
and-within_r a c = record { has = λ n p. and_r (bit a n) (bit c n) (sym (bit-and a c n) ∙ p) }

pub or-within_l : (a c : ℕ) → Within a (bit_or a c)
or-within_l a c = record { has = λ n p. bit-or a c n ∙ or_left (bit a n) (bit c n) p }

pub or-within_r : (a c : ℕ) → Within c (bit_or a c)
or-within_r a c = record { has = λ n p. bit-or a c n ∙ or_right (bit a n) (bit c n) p }

pub without-within : (a c : ℕ) → Within (without a c) a
without-within a c = record { has = λ n p. and_l (bit a n) (not (bit c n)) (sym (bit-without a c n) ∙ p) }

-- the same bits taken from both, added to both
pub within-without : {a b : ℕ} (c : ℕ) → Within a b → Within (without a c) (without b c)
within-without {a} {b} c w =
    record {
      has = λ n p.
          let q : (bit a n && not (bit c n)) ≡ true = sym (bit-without a c n) ∙ p in
          bit-without b c n
          ∙ and_from (bit b n) (not (bit c n)) (w.has n (and_l (bit a n) (not (bit c n)) q)) (and_r (bit a n) (not (bit c n)) q);
    }

pub within-mask : (n b : ℕ) → bit b n ≡ true → Within (mask n) b
within-mask n b h =
    record { has = λ m p. ap (bit b) (eqb-true m n (sym (bit_mask n m) ∙ p)) ∙ h }

-- ---- apart

pub apart-zero : (b : ℕ) → Apart 0 b
apart-zero b = record { never = λ n p. absurd (false≢true (sym (bit-zero n) ∙ p)) }

pub apart_sym : {a b : ℕ} → Apart a b → Apart b a
apart_sym {a} {b} f = word-apart b a (and_comm b a ∙ apart-word f)

pub apart_less : {a b c : ℕ} → Within a b → Apart b c → Apart a c
apart_less w f = record { never = λ n p. f.never n (w.has n p) }

pub apart-or : {a b c : ℕ} → Apart a c → Apart b c → Apart (bit_or a b) c
apart-or {a} {b} {c} v w =
    record { never = λ n p. or_cases (bit a n) (bit b n) (v.never n) (w.never n) (sym (bit-or a b n) ∙ p) }

pub apart-without : (v b : ℕ) → Apart (without v b) b
apart-without v b =
    record { never = λ n p. not-true (bit b n) (and_r (bit v n) (not (bit b n)) (sym (bit-without v b n) ∙ p)) }

pub apart-mask : (n a : ℕ) → bit a n ≡ false → Apart (mask n) a
apart-mask n a h =
    record { never = λ m p. ap (bit a) (eqb-true m n (sym (bit_mask n m) ∙ p)) ∙ h }

-- what lies within b and shares nothing with it is empty
pub within-apart : {a b : ℕ} → Within a b → Apart a b → a ≡ 0
within-apart w f = sym (within_word w) ∙ apart-word f

-- no bit of t differs between y and x
pub apart-changed : {t y : ℕ} (x : ℕ) → Apart t (bit_xor x y) → Apart t y → Apart t x
unfolding xor
apart-changed {t} {y} x f g =
    record { never = λ n p. same (bit x n) (bit y n) (sym (bit-xor x y n) ∙ f.never n p) ∙ g.never n p }
  where
    same : (a b : Bool) → xor a b ≡ false → a ≡ b
    same true true h = refl
    same true false h = absurd (false≢true (sym h))
    same false true h = absurd (false≢true (sym h))
    same false false h = refl

-- ---- bounds, and bit 31 of a 32-bit word

pub without_lt : {a k : ℕ} (c : ℕ) → a < k → without a c < k
without_lt {a} c h = lt_of_le_of_lt (within_le (without-within a c)) h

pub and_lt_l : {a k : ℕ} (c : ℕ) → a < k → bit_and a c < k
and_lt_l {a} c h = lt_of_le_of_lt (and_le_l a c) h

pub top_up_lem : (a : ℕ) → a < 2 ^ 32 → 2 ^ 31 ≤ a → bit a 31 ≡ true
unfolding digit
top_up_lem a h l = eq-eqb (a / 2 ^ 31 % 2) 1 (omega arith)

pub top_down_lem : (a : ℕ) → a < 2 ^ 32 → bit a 31 ≡ false → a < 2 ^ 31
unfolding digit
top_down_lem a h p = let n = eqb-false (a / 2 ^ 31 % 2) 1 p in omega arith

-- bits 30 and 29, asked as a remainder
pub gap_bits : (a : ℕ) → gap_down a ≡ true → (bit a 30 ≡ false) × (bit a 29 ≡ false)
unfolding digit
gap_bits a h =
    let z = eqb-true (a / 2 ^ 29 % 4) 0 h in
    (ne_eqb (a / 2 ^ 30 % 2) 1 (λ e. omega arith), ne_eqb (a / 2 ^ 29 % 2) 1 (λ e. omega arith))

-- a word that shares no bit with one whose bit 31 is up
pub apart_top : {a b : ℕ} → Apart a b → a < 2 ^ 32 → b < 2 ^ 32 → 2 ^ 31 ≤ b → a < 2 ^ 31
apart_top {a} {b} f h hb l = top_down_lem a h ((apart_sym f).never 31 (top_up_lem b hb l))
