-- The events, unused bytes: what the test of them says, byte by byte, both ways.
use Prim.Native.Nat.{ℕ, zero, suc, ◌+◌, ◌-◌, ◌*◌, ◌/◌, ◌%◌, ◌^◌, ◌<◌, ◌≤◌}
use mathlib.Core.Path.{◌≡◌, refl, sym, ◌∙◌, ap}
use mathlib.Core.Bool.{Bool, true, false, ◌||◌}
use mathlib.Core.List.{List, [], ◌∷◌}
use native.Mathlib.Omega.{arith}
use native.Mathlib.Nat.{zero-div, div-eq_of_lt}
use lib.Dec.{eqb, lit<}
use lib.ListN.{get_or}
use lib.Pow.{shr-shr}
use borrow.Author.Tests.{eq-eqb, eqb-true}
use Rattle.bits.proofs.Tests.{All, all, holds}
use Rattle.words.specs.Word.{word_at}
use Rattle.words.proofs.Bytes.{Bytes, word_lt}
use Rattle.mailboxes.proofs.Spliced.{byte_of, word_byte, data_byte}
use Rattle.events.specs.Parts.{target, word, value, payload, quiet}

-- ---- numbers of bytes

-- zero from byte n on is zero from any later byte on
zero_later : (x n j : ℕ) → n ≤ j → x / 2 ^ (8 * n) ≡ 0 → x / 2 ^ (8 * j) ≡ 0
zero_later x n j l h =
    let e : 8 * j ≡ 8 * n + 8 * (j - n) = omega arith in
    ap (λ (k : ℕ). x / 2 ^ k) e
    ∙ sym (shr-shr x (8 * n) (8 * (j - n)))
    ∙ ap (λ (y : ℕ). y / 2 ^ (8 * (j - n))) h
    ∙ zero-div (2 ^ (8 * (j - n)))

-- zero at byte n and from the next on is zero from byte n on
zero-here : (x n : ℕ) → byte_of x n ≡ 0 → x / 2 ^ (8 * (n + 1)) ≡ 0 → x / 2 ^ (8 * n) ≡ 0
zero-here x n h l =
    let e : 8 * n + 8 ≡ 8 * (n + 1) = omega arith in
    let high : x / 2 ^ (8 * n) / 2 ^ 8 ≡ 0 = shr-shr x (8 * n) 8 ∙ ap (λ (k : ℕ). x / 2 ^ k) e ∙ l in
    small (x / 2 ^ (8 * n)) h high
  where
    small : (y : ℕ) → y % 2 ^ 8 ≡ 0 → y / 2 ^ 8 ≡ 0 → y ≡ 0
    small y p q = omega arith

zero_from : (x : ℕ) → x < 2 ^ 64 → (m n : ℕ) → n + m ≡ 8 → ((j : ℕ) → n ≤ j → j < 8 → byte_of x j ≡ 0) → x / 2 ^ (8 * n) ≡ 0
zero_from x s zero n e h = let p : n ≡ 8 = omega arith in ap (λ (k : ℕ). x / 2 ^ (8 * k)) p ∙ div-eq_of_lt s
zero_from x s (suc m) n e h =
    zero-here x n (h n (omega arith) (omega arith))
    (zero_from x s m (n + 1) (omega arith) (λ j l k. h j (omega arith) k))

-- ---- the data bytes, the value

module _ (e : List ℕ) (b : Bytes e) where
  pub payload_lt : payload e < 2 ^ 64
  payload_lt = omega (arith, word_lt e b 8, word_lt e b 12)

  -- no data byte from number n on, in the one number that they make
  pub data_unused : (n : ℕ) → payload e / 2 ^ (8 * n) ≡ 0 → (j : ℕ) → n ≤ j → j < 8 → get_or e (8 + j) 0 ≡ 0
  data_unused n h j l k =
      sym (data_byte e b j k) ∙ ap (λ (y : ℕ). y % 2 ^ 8) (zero_later (payload e) n j l h)

  pub unused_data : (n : ℕ) → n ≤ 8 → ((j : ℕ) → n ≤ j → j < 8 → get_or e (8 + j) 0 ≡ 0) → payload e / 2 ^ (8 * n) ≡ 0
  unused_data n l h =
      zero_from (payload e) payload_lt (8 - n) n (omega arith) (λ j m k. data_byte e b j k ∙ h j m k)

  value-unused : value e ≡ 0 → (i : ℕ) → i < 4 → get_or e (4 + i) 0 ≡ 0
  value-unused h i l =
      sym (word_byte e 4 i b l) ∙ ap (λ (x : ℕ). byte_of x i) h ∙ ap (λ (y : ℕ). y % 2 ^ 8) (zero-div (2 ^ (8 * i)))

unused-value : (e : List ℕ) → ((i : ℕ) → i < 4 → get_or e (4 + i) 0 ≡ 0) → value e ≡ 0
unfolding word_at
unused-value e h = omega (arith, h 0 (lit< tt), h 1 (lit< tt), h 2 (lit< tt), h 3 (lit< tt))

-- ---- the test

-- what an operation does not use is zero: t, w and v say whether it uses target, word and value, n how many data bytes
pub record Unused (e : List ℕ) (t w v : Bool) (n : ℕ) : Type 0 where
  pub of_target : t ≡ false → get_or e 1 0 ≡ 0
  pub of_word : w ≡ false → get_or e 2 0 ≡ 0
  pub third : get_or e 3 0 ≡ 0
  pub of_value : v ≡ false → (i : ℕ) → i < 4 → get_or e (4 + i) 0 ≡ 0
  pub of_data : (j : ℕ) → n ≤ j → j < 8 → get_or e (8 + j) 0 ≡ 0

-- used, or zero
zero_or : (t : Bool) (x : ℕ) → (t || eqb x 0) ≡ true → t ≡ false → x ≡ 0
zero_or t x h p = eqb-true x 0 (rw p at h)

or-zero : (t : Bool) (x : ℕ) → (t ≡ false → x ≡ 0) → (t || eqb x 0) ≡ true
or-zero true x h = refl
or-zero false x h = eq-eqb x 0 (h refl)

module _ (e : List ℕ) (t w v : Bool) (n : ℕ) where
  abbrev tests : List Bool
  tests =
      (t || eqb (target e) 0)
      ∷ (w || eqb (word e) 0)
      ∷ eqb (get_or e 3 0) 0
      ∷ (v || eqb (value e) 0)
      ∷ eqb (payload e / 2 ^ (8 * n)) 0
      ∷ []

  quiet_all : quiet e t w v n ≡ true → All tests
  unfolding quiet
  quiet_all h = all tests h

  pub quiet_data : quiet e t w v n ≡ true → payload e / 2 ^ (8 * n) ≡ 0
  quiet_data h = eqb-true (payload e / 2 ^ (8 * n)) 0 (quiet_all h).1.1.1.1.0

  pub quiet-unused : Bytes e → quiet e t w v n ≡ true → Unused e t w v n
  quiet-unused b h =
      let a = quiet_all h in
      record {
        of_target = zero_or t (target e) a.0;
        of_word = zero_or w (word e) a.1.0;
        third = eqb-true (get_or e 3 0) 0 a.1.1.0;
        of_value = λ p. value-unused e b (zero_or v (value e) a.1.1.1.0 p);
        of_data = data_unused e b n (quiet_data h);
      }

  pub unused-quiet : Bytes e → n ≤ 8 → Unused e t w v n → quiet e t w v n ≡ true
  unfolding quiet
  unused-quiet b l u =
      let ofT = or-zero t (target e) u.of_target in
      let of_w = or-zero w (word e) u.of_word in
      let of_v = or-zero v (value e) (λ p. unused-value e (u.of_value p)) in
      let ofD = eq-eqb (payload e / 2 ^ (8 * n)) 0 (unused_data e b n l u.of_data) in
      holds tests (ofT, (of_w, (eq-eqb (get_or e 3 0) 0 u.third, (of_v, (ofD, tt)))))
