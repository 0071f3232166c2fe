-- How many layouts are judged at once: what is gathered of each mailbox, of two, and of stretches of them.
use Rattle.std.proofs.lemmas.Bool.{and_from}
use Prim.Native.Nat.{ℕ, ◌+◌, ◌-◌, ◌*◌, ◌/◌, ◌%◌, ◌^◌, ◌<◌, ◌≤◌}
use mathlib.Core.Path.{◌≡◌, refl, sym, ◌∙◌, ap, ap₂}
use mathlib.Core.Bool.{Bool, true, false, ◌&&◌, ◌||◌, false≢true}
use mathlib.Core.Logic.{◌≢◌}
use native.Mathlib.Nat.{lt_of_le_of_lt}
use native.Mathlib.Omega.{arith}
use lib.Dec.{eqb, ltb}
use lib.Bits.{bit_or, or_lt, or_shr, or_mod}
use borrow.Author.Tests.{eqb-true, eqb-false, eq-eqb, ltb-true, ltb-false, lt-ltb, le-ltb}
use Rattle.bits.specs.Bit.{digit, bit}
use Rattle.bits.specs.Below.{all_below}
use Rattle.bits.proofs.Below.{each_below}
use Rattle.bits.proofs.Tests.{same_test}
use Rattle.bits.proofs.Sets.{and_l, and_r, within_le, or-within_l, or-within_r}
use Rattle.mailboxes.specs.Mailbox.{word_layout}
use Rattle.good.specs.Gathered.{Stretch}

-- ---- one word 0

pub identifier_test : (w : ℕ) → w < 2 ^ 32 → ltb (w % 262144 + (1 - w / 2147483648) * 2147483648 + 2147483647) 4294967296 ≡ (bit w 31 || eqb (w % 262144) 0)
unfolding digit
identifier_test w h = at (bit w 31) refl (eqb (w % 262144) 0) refl
  where
    at : (t : Bool) → bit w 31 ≡ t → (u : Bool) → eqb (w % 262144) 0 ≡ u → ltb (w % 262144 + (1 - w / 2147483648) * 2147483648 + 2147483647) 4294967296 ≡ (t || u)
    at true p u q =
        let d : w / 2147483648 % 2 ≡ 1 = eqb-true _ _ p in
        let l : w % 262144 + (1 - w / 2147483648) * 2147483648 + 2147483647 < 4294967296 = omega arith in
        lt-ltb _ _ l
    at false p true q =
        let e : w % 262144 ≡ 0 = eqb-true _ _ q in
        let l : w % 262144 + (1 - w / 2147483648) * 2147483648 + 2147483647 < 4294967296 = omega arith in
        lt-ltb _ _ l
    at false p false q =
        let d : w / 2147483648 % 2 ≡ 1 → ⊥ = eqb-false _ _ p in
        let e : w % 262144 ≡ 0 → ⊥ = eqb-false _ _ q in
        let l : 4294967296 ≤ w % 262144 + (1 - w / 2147483648) * 2147483648 + 2147483647 = omega arith in
        le-ltb _ _ l

-- ---- two of each

-- `|` stays below a power of two where both numbers do
pub or-ltb : (k a b : ℕ) → ltb (bit_or a b) (2 ^ k) ≡ (ltb a (2 ^ k) && ltb b (2 ^ k))
or-ltb k a b =
    same_test (ltb (bit_or a b) (2 ^ k)) (ltb a (2 ^ k) && ltb b (2 ^ k))
    (λ h. and_from _ _
    (lt-ltb _ _ (lt_of_le_of_lt (within_le (or-within_l a b)) (ltb-true _ _ h)))
    (lt-ltb _ _ (lt_of_le_of_lt (within_le (or-within_r a b)) (ltb-true _ _ h))))
    (λ h. lt-ltb _ _ (or_lt k a b (ltb-true _ _ (and_l (ltb a (2 ^ k)) (ltb b (2 ^ k)) h)) (ltb-true _ _ (and_r (ltb a (2 ^ k)) (ltb b (2 ^ k)) h))))

-- `|` of two words 1 has a bit that must be zero exactly where one of them has it
pub or_control : (a b : ℕ) → word_layout 1 (bit_or a b) ≡ (word_layout 1 a && word_layout 1 b)
or_control a b =
    let x = a / 2 ^ 5 % 2 ^ 11 in
    let y = b / 2 ^ 5 % 2 ^ 11 in
    let fields : bit_or a b / 2 ^ 5 % 2 ^ 11 ≡ bit_or x y = ap (λ (w : ℕ). w % 2 ^ 11) (or_shr a b 5) ∙ or_mod (a / 2 ^ 5) (b / 2 ^ 5) 11 in
    same_test (word_layout 1 (bit_or a b)) (word_layout 1 a && word_layout 1 b)
    (λ h.
    let z : bit_or x y ≡ 0 = sym fields ∙ eqb-true _ _ h in
    let p : x ≡ 0 = omega (arith, within_le (or-within_l x y)) in
    let q : y ≡ 0 = omega (arith, within_le (or-within_r x y)) in
    and_from _ _ (eq-eqb _ _ p) (eq-eqb _ _ q))
    (λ h.
    let p : x ≡ 0 = eqb-true _ _ (and_l (word_layout 1 a) (word_layout 1 b) h) in
    let q : y ≡ 0 = eqb-true _ _ (and_r (word_layout 1 a) (word_layout 1 b) h) in
    eq-eqb _ _ (fields ∙ ap₂ bit_or p q))

-- such a bit, put above a power of two
pub control_above : (w : ℕ) → ltb (w / 32 % 2048 * 4294967296) 4294967296 ≡ word_layout 1 w
control_above w = at (eqb (w / 32 % 2048) 0) refl
  where
    at : (t : Bool) → eqb (w / 32 % 2048) 0 ≡ t → ltb (w / 32 % 2048 * 4294967296) 4294967296 ≡ t
    at true h = let z : w / 32 % 2048 ≡ 0 = eqb-true _ _ h in let l : w / 32 % 2048 * 4294967296 < 4294967296 = omega arith in lt-ltb _ _ l
    at false h = let z : w / 32 % 2048 ≢ 0 = eqb-false _ _ h in let l : 4294967296 ≤ w / 32 % 2048 * 4294967296 = omega arith in le-ltb _ _ l

pub interchange : (a b c d : Bool) → ((a && b) && (c && d)) ≡ ((a && c) && (b && d))
interchange true true c d = refl
interchange true false true d = refl
interchange true false false d = refl
interchange false b c d = refl

-- ---- stretches

-- from what holds below n to what holds below e
pub grown : (p : ℕ → Bool) (n e : ℕ) (t : Bool) → Stretch p n e t → t ≡ true → ((i : ℕ) → i < n → p i ≡ true) → (i : ℕ) → i < e → p i ≡ true
grown p n e t x q f i h = at (ltb i n) refl
  where
    at : (b : Bool) → ltb i n ≡ b → p i ≡ true
    at true z = f i (ltb-true i n z)
    at false z = x.0 q i (ltb-false i n z) h

-- a stretch that does not hold
pub spoilt : (p : ℕ → Bool) (n a e : ℕ) (t : Bool) → Stretch p a e t → e ≤ n → t ≡ false → all_below p n ≡ false
spoilt p n a e t x h q = at (all_below p n) refl
  where
    at : (b : Bool) → all_below p n ≡ b → all_below p n ≡ false
    at true z = absurd (false≢true (sym q ∙ x.1 (λ i l k. each_below p n z i (omega arith))))
    at false z = z
