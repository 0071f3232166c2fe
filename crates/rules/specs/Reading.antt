-- "Writing", reading a register.
use Rattle.std.specs.Prelude.{ℕ, ◌+◌, ◌<◌, ◌≤◌, ◌≡◌, Bool, true, false, cond, not, ◌||◌, List, leb, ◌≢◌}
use Rattle.answers.specs.Answer.{Reading}
use Rattle.rules.specs.Words.{◌has◌, ◌is◌, Words, words, MODE, SLOT, TSO, e_can, empty_slot, added, place}
use Rattle.rules.specs.Image.{Good, bus_off, passive, warning}

-- GSR, bit by bit. An empty slot is shown as 31 (document 02, g).
pub record Gsr (w : Words) (v : ℕ) : Type 0 where
  pub bits_16_12 : (n : ℕ) → n < 5 → (v has (12 + n)) ≡ (cond (w SLOT is empty_slot) 31 (w SLOT) has n)
  pub bit_10 : (v has 10) ≡ not (w SLOT is empty_slot)
  pub bit_8 : (v has 8) ≡ (w MODE is 3)
  pub bit_7 : (v has 7) ≡ (w MODE is 1)
  pub bit_6 : (v has 6) ≡ (w MODE is 2)
  pub bit_3 : (v has 3) ≡ (w TSO is 1)
  pub bit_2 : (v has 2) ≡ bus_off w
  pub bit_1 : (v has 1) ≡ passive w
  pub bit_0 : (v has 0) ≡ warning w
  pub others : (v has 11 ≡ false) × (v has 9 ≡ false) × (v has 5 ≡ false) × (v has 4 ≡ false) × ((n : ℕ) → 17 ≤ n → v has n ≡ false)

-- Which numbers read a word of the image: 0 to 21, and the added ones in both controllers (document 02, g).
abbrev pub is_word : ℕ → Bool
is_word k = leb k 21 || added k

-- These numbers read their word; 32 reads the GSR of a CAN-B. Asleep GSR has a fixed value and the rest is 0. An image that is not good gets
-- refusal 1, another number, and 32 in an eCAN, refusal 2, and all these the value 0.
pub record Reads (s : List ℕ) (k : ℕ) (r : Reading) : Type 0 where
  pub not_good : (Good s → ⊥) → (r.refusal ≡ 1) × (r.value ≡ 0)
  pub unknown : Good s → is_word k ≡ false → k ≢ 32 → (r.refusal ≡ 2) × (r.value ≡ 0)
  pub no_gsr : Good s → k ≡ 32 → e_can (words s) ≡ true → (r.refusal ≡ 2) × (r.value ≡ 0)
  pub register : Good s → is_word k ≡ true → words s MODE ≢ 2 → (r.refusal ≡ 0) × (r.value ≡ words s (place k))
  pub gsr : Good s → k ≡ 32 → e_can (words s) ≡ false → words s MODE ≢ 2 → (r.refusal ≡ 0) × Gsr (words s) r.value
  pub asleep : Good s → is_word k ≡ true → words s MODE ≡ 2 → (r.refusal ≡ 0) × (r.value ≡ 0)
  pub asleep_gsr : Good s → k ≡ 32 → e_can (words s) ≡ false → words s MODE ≡ 2 → (r.refusal ≡ 0) × (r.value ≡ 0x0001F040)
