-- A bit of a word, and the words that come of setting and clearing bits.
use Rattle.std.specs.Prelude.{ℕ, ◌/◌, ◌%◌, ◌^◌, ◌<◌, ◌≡◌, Bool, true, false, cond, eqb}
use Rattle.std.specs.Int.Bits.{bit_and, bit_or, bit_xor}

-- Binary digit n of w, 0 or 1.
unfoldable pub digit : ℕ → ℕ → ℕ
digit w n = w / 2 ^ n % 2

-- Is bit n of w up?
abbrev pub bit : ℕ → ℕ → Bool
bit w n = eqb (digit w n) 1

-- The word whose only bit is n.
abbrev pub mask : ℕ → ℕ
mask n = 2 ^ n

-- w without the bits of v: those of v that w has are taken away.
abbrev pub without : ℕ → ℕ → ℕ
without w v = bit_xor w (bit_and w v)

abbrev pub set_bit : ℕ → ℕ → ℕ
set_bit w n = bit_or w (mask n)

-- Bit n where t holds, no bit where it does not.
abbrev pub flag : Bool → ℕ → ℕ
flag t n = cond t (mask n) 0

-- Bit n is the highest of w: it is up, and none above it is.
pub record Highest (w n : ℕ) : Type 0 where
  pub up : bit w n ≡ true
  pub above : (m : ℕ) → n < m → bit w m ≡ false
