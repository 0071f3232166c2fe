-- "The image": what makes an image good; and what its counters and its mode say.
use Rattle.std.specs.Prelude.{ℕ, ◌%◌, ◌^◌, ◌<◌, ◌≤◌, ◌≡◌, Bool, true, false, ◌&&◌, ◌||◌, ltb, List, [], ◌∷◌, ◌≢◌, length}
use Rattle.rules.specs.Words.{Words, ◌has◌, ◌is◌, words, box, among, MC, MD, TRS, TRR, TA, AA, RMP, RML, RFP, CDR, MBTIF, GIF, GIM, BCR1, BCR2, TSC, TEC, REC, MODE, WAITING, SLOT, RECOVERY, OPTIONS, TSO, PROFILE, e_can, empty_slot, place, is_mask}

-- The image, a mailbox: without IDE the low 18 bits of word 0 are zero; of word 1 bits 15 to 5 are zero. The DLC, the lowest four bits of
-- word 1, may be any (document 02, c).
pub record Layout (s : List ℕ) (n : ℕ) : Type 0 where
  pub standard : box s n 0 has 31 ≡ false → box s n 0 % 2 ^ 18 ≡ 0
  pub others : (i : ℕ) → 5 ≤ i → i < 16 → box s n 1 has i ≡ false

-- The image, its register words.
pub record GoodWords (w : Words) : Type 0 where
  -- document 02, g): one of the two controllers; of a CAN-B mailbox 31 only receives
  pub profile : w PROFILE ≤ 1
  pub md : e_can w ≡ false → w MD has 31 ≡ true
  pub bit_31 : e_can w ≡ false → (k : ℕ) → among k (TRS ∷ TRR ∷ TA ∷ AA ∷ CDR ∷ MBTIF ∷ []) ≡ true → w k has 31 ≡ false
  -- flags: a request stands at a transmit mailbox alone; a cancel stands at the slot's mailbox alone, where a request is; a lost or a remote
  -- frame is a pending one; no mask, of a mailbox neither (document 02, g), has bits 30 and 29
  pub trs : (n : ℕ) → w TRS has n ≡ true → w MD has n ≡ false
  pub trr : (n : ℕ) → w TRR has n ≡ true → (n ≡ w SLOT) × (w TRS has n ≡ true)
  pub rml_rfp : (k n : ℕ) → among k (RML ∷ RFP ∷ []) ≡ true → w k has n ≡ true → w RMP has n ≡ true
  pub masks : (t : ℕ) → is_mask t ≡ true → (w (place t) has 30 ≡ false) × (w (place t) has 29 ≡ false)
  -- ranges
  pub gif : (w GIF < 256) × (w GIM < 256)
  pub bcr : (w BCR1 < 1024) × (w BCR2 < 1024)
  pub counters : (w TSC < 65536) × (w TEC ≤ 256) × (w REC ≤ 255)
  pub states : (w MODE ≤ 3) × (w WAITING ≤ 4) × (w SLOT ≤ empty_slot) × (w RECOVERY ≤ 127) × (w OPTIONS ≤ 3) × (w TSO ≤ 1)
  pub spare : (w 28 ≡ 0) × (w 29 ≡ 0) × (w 30 ≡ 0) × (w 31 ≡ 0)
  -- states that belong together: what a mailbox in the slot asks for, so that 31 is never in that of a CAN-B; bus off and its recovery; a
  -- mode that waits (4 is none) and what it waits for; sleep
  pub filled : w SLOT ≢ empty_slot → (w MODE ≡ 0) × (w TEC < 256) × (w TRS has w SLOT ≡ true) × (w MC has w SLOT ≡ true)
  pub at_bus_off : w TEC ≡ 256 → w MODE ≡ 0
  pub recovers : 0 < w RECOVERY → w TEC ≡ 256
  pub waits : 1 ≤ w WAITING
  pub waits_for : w WAITING ≢ 4 → w SLOT ≡ empty_slot → w TEC ≡ 256
  pub sleeps : w MODE ≡ 2 → (w TEC ≡ 0) × (w REC ≡ 0) × (w TRS ≡ 0) × (w TRR ≡ 0)

-- The image: 776 bytes (document 02, g), 32 mailboxes, the register words and those behind them.
pub record Good (s : List ℕ) : Type 0 where
  pub size : length s ≡ 776
  pub layouts : (n : ℕ) → n < 32 → Layout s n
  pub registers : GoodWords (words s)

-- Sending, errors, modes: what the counters and the mode say of the unit: bus off; passive; warning.
abbrev pub bus_off : Words → Bool
bus_off w = w TEC is 256

abbrev pub passive : Words → Bool
passive w = ltb 127 (w TEC) || ltb 127 (w REC)

abbrev pub warning : Words → Bool
warning w = ltb 96 (w TEC) || ltb 96 (w REC)

-- On the bus: normal mode, not bus off.
abbrev pub on_bus : Words → Bool
on_bus w = w MODE is 0 && ltb (w TEC) 256
