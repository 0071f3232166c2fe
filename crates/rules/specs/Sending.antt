-- "Sending, errors, modes". `was` are the register words before the event, `now` those that the event itself leaves; a mode that waits is
-- taken after that (`Ending`).
use Rattle.std.specs.Prelude.{ℕ, ◌+◌, ◌-◌, ◌*◌, ◌^◌, ◌/◌, ◌%◌, ◌<◌, ◌≤◌, ◌≡◌, Bool, true, false, cond, not, ◌&&◌, ◌||◌, List, [], ◌∷◌, ◌≢◌, ltb}
use Rattle.rules.specs.Words.{◌has◌, ◌is◌, ◌has_bits◌, Words, box, at_most, Only, MC, TRS, TRR, TA, AA, CDR, MBTIF, MBIM, GIF, TSC, TEC, REC, MODE, WAITING, SLOT, RECOVERY, OPTIONS, TSO, empty_slot}
use Rattle.rules.specs.Image.{bus_off, passive, warning, on_bus}

-- GIF after an event that moves a counter or TSC: a bit is up where it was, where the event raises it, and, bits 2, 1 and 0, where bus off,
-- passive or warning holds now and did not before. No other event lifts a counter, so there none of the three can rise.
abbrev pub Gif : (ℕ → Bool) → Words → Words → Type 0
Gif raised was now =
    now GIF has_bits (λ n. was GIF has n
    || raised n
    || bus_off now && not (bus_off was) && n is 2
    || passive now && not (passive was) && n is 1
    || warning now && not (warning was) && n is 0)

abbrev pub nothing : ℕ → Bool
nothing n = false

-- Who may be sent: enabled, with a request, neither held back nor cancelled.
abbrev pub candidate : Words → ℕ → Bool
candidate was n = was TRS has n && was MC has n && not (was CDR has n) && not (was TRR has n)

-- The arbitration key of mailbox n: its base identifier, then a bit that is RTR in a standard frame and 1 in an extended one, then IDE,
-- then of an extended frame the low 18 bits and RTR.
abbrev pub key : List ℕ → ℕ → ℕ
key s n =
    let ide = box s n 0 has 31 in
    let rtr = box s n 1 has 4 in
    box s n 0 / 2 ^ 18 % 2 ^ 11 * 2 ^ 21 + cond (ide || rtr) (2 ^ 20) 0 + cond ide (2 ^ 19) 0 + cond ide (box s n 0 % 2 ^ 18 * 2 + cond rtr 1 0) 0

-- A start names the mailbox that goes into the slot: on the bus the lowest candidate, or with MTOS (option bit 0) the one with the smallest
-- key, the lower of two equal ones. With no candidate, or off the bus, it names 32 and nothing changes.
pub record Start (s : List ℕ) (was now : Words) (named : ℕ) : Type 0 where
  pub off : on_bus was ≡ false → named ≡ 32
  pub none : ((n : ℕ) → n < 32 → candidate was n ≡ false) → named ≡ 32
  pub some : on_bus was ≡ true → (n : ℕ) → n < 32 → candidate was n ≡ true → (named < 32) × (candidate was named ≡ true)
  pub lowest : on_bus was ≡ true → was OPTIONS has 0 ≡ false → (n : ℕ) → n < 32 → candidate was n ≡ true → named ≤ n
  pub smallest : on_bus was ≡ true → was OPTIONS has 0 ≡ true → (n : ℕ) → n < 32 → candidate was n ≡ true
      → (key s named ≤ key s n) × (key s named ≡ key s n → named ≤ n)
  pub slot : now SLOT ≡ cond (ltb named 32) named (was SLOT)
  pub rest : Only (SLOT ∷ []) was now

-- Sent: the slot is empty and the request is over, which TA tells, and MBTIF where MBIM asks for it; TEC falls by one if it can.
pub record Sent (was now : Words) : Type 0 where
  pub slot : now SLOT ≡ empty_slot
  pub trs : now TRS has_bits (λ n. was TRS has n && not (n is was SLOT))
  pub trr : now TRR has_bits (λ n. was TRR has n && not (n is was SLOT))
  pub ta : now TA has_bits (λ n. was TA has n || n is was SLOT)
  pub mbtif : now MBTIF has_bits (λ n. was MBTIF has n || was MBIM has n && n is was SLOT)
  pub tec : now TEC ≡ was TEC - 1
  pub gif : Gif nothing was now
  pub rest : Only (SLOT ∷ TRS ∷ TRR ∷ TA ∷ MBTIF ∷ TEC ∷ GIF ∷ []) was now

-- Not sent: the slot is empty. A request that was cancelled meanwhile is over, which AA and bit 4 of GIF tell; another one stays. TEC
-- becomes t.
pub record Unsent (t : ℕ) (was now : Words) : Type 0 where
  pub slot : now SLOT ≡ empty_slot
  pub trs : now TRS has_bits (λ n. was TRS has n && not (n is was SLOT && was TRR has n))
  pub trr : now TRR has_bits (λ n. was TRR has n && not (n is was SLOT))
  pub aa : now AA has_bits (λ n. was AA has n || n is was SLOT && was TRR has n)
  pub tec : now TEC ≡ t
  pub gif : Gif (λ n. was TRR has was SLOT && n is 4) was now
  pub rest : Only (SLOT ∷ TRS ∷ TRR ∷ AA ∷ TEC ∷ GIF ∷ []) was now

-- Document 02, b): TEC after a missing acknowledgement, by the words before it: it stays where the unit was passive, else it rises by 8.
abbrev pub unacknowledged_tec : Words → ℕ
unacknowledged_tec was = cond (passive was) (was TEC) (was TEC + 8)

-- A receive error, on the bus, adds to REC, which stops at 255.
pub record ReceiveError (more : ℕ) (was now : Words) : Type 0 where
  pub rec : now REC ≡ cond (on_bus was) (at_most 255 (was REC + more)) (was REC)
  pub gif : Gif nothing was now
  pub rest : Only (REC ∷ GIF ∷ []) was now

-- In bus off, and nowhere else, runs of eleven recessive bits are counted; the 128th ends it.
pub record Recessive (was now : Words) : Type 0 where
  pub elsewhere : bus_off was ≡ false → Only [] was now
  pub counts : bus_off was ≡ true → was RECOVERY < 127 → (now RECOVERY ≡ was RECOVERY + 1) × Only (RECOVERY ∷ []) was now
  pub last : bus_off was ≡ true → was RECOVERY ≡ 127
      → (now TEC ≡ 0) × (now REC ≡ 0) × (now RECOVERY ≡ 0) × Only (TEC ∷ REC ∷ RECOVERY ∷ []) was now

-- A tick counts TSC on; from 65,535 it goes to 0, which TSO and bit 3 of GIF tell. Asleep nothing counts.
pub record Tick (was now : Words) : Type 0 where
  pub asleep : was MODE ≡ 2 → Only [] was now
  pub adds : was MODE ≢ 2 → was TSC < 65535 → (now TSC ≡ was TSC + 1) × Only (TSC ∷ []) was now
  pub overflows : was MODE ≢ 2 → was TSC ≡ 65535
      → (now TSC ≡ 0) × (now TSO ≡ 1) × Gif (λ n. n is 3) was now × Only (TSC ∷ TSO ∷ GIF ∷ []) was now

-- A mode that is asked for waits in place of an earlier one, until the end of this step at least. Asking for the present mode leaves none.
pub record Mode (asked : ℕ) (was now : Words) : Type 0 where
  pub waiting : now WAITING ≡ cond (asked is was MODE) 4 asked
  pub rest : Only (WAITING ∷ []) was now

-- At the end of a step: is a mode waiting, and may it be taken? With an empty slot, and not in bus off.
abbrev pub taken : Words → Bool
taken w = not (w WAITING is 4) && (w SLOT is empty_slot && ltb (w TEC) 256)

-- Then it is the mode, and none waits. Falling asleep clears both counters and all requests; waking, to normal from sleep, sets bit 6 of
-- GIF. Here `was` are the words that the event itself left, `now` those in the image.
pub record Ending (was now : Words) : Type 0 where
  pub none : taken was ≡ false → Only [] was now
  pub mode : taken was ≡ true → (now MODE ≡ was WAITING) × (now WAITING ≡ 4)
  pub asleep : taken was ≡ true → was WAITING ≡ 2
      → (now TEC ≡ 0) × (now REC ≡ 0) × (now TRS ≡ 0) × (now TRR ≡ 0) × Only (MODE ∷ WAITING ∷ GIF ∷ TEC ∷ REC ∷ TRS ∷ TRR ∷ []) was now
  pub awake : taken was ≡ true → was WAITING ≢ 2 → Only (MODE ∷ WAITING ∷ GIF ∷ []) was now
  pub wakes : taken was ≡ true → now GIF has_bits (λ n. was GIF has n || was MODE is 2 && was WAITING is 0 && n is 6)
