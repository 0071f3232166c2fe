-- "The events": the fields of an event, and the refusals: 2 to 7 each as a test of the event and the register words.
use Rattle.std.specs.Prelude.{ℕ, ◌+◌, ◌/◌, ◌%◌, ◌^◌, ◌<◌, ◌≡◌, Bool, true, cond, not, ◌&&◌, ◌||◌, List, [], ◌∷◌, ltb, leb, length}
use Rattle.std.specs.Bool.{xor}
use Rattle.bits.specs.Below.{all_below}
use Rattle.answers.specs.Answer.{Outcome}
use Rattle.words.specs.Word.{word_at}
use Rattle.rules.specs.Words.{Words, ◌has◌, ◌is◌, words, box, byte, at_most, among, any, MC, MD, TRS, RML, LAM, GAM, RFP, CDR, GIF, GIM, BCR1, BCR2, TSC, MODE, SLOT, e_can, empty_slot, only_receives, added, is_mask}
use Rattle.rules.specs.Image.{Good}

-- The events: operation, target and word have a byte each, the value four. A frame's value has IDE in bit 31, RTR in bit 30 and the
-- identifier in 28 to 0.
abbrev pub operation : List ℕ → ℕ
operation e = byte e 0

abbrev pub target : List ℕ → ℕ
target e = byte e 1

abbrev pub word : List ℕ → ℕ
word e = byte e 2

abbrev pub value : List ℕ → ℕ
value e = word_at e 4

abbrev pub rtr : List ℕ → Bool
rtr e = value e has 30

-- Document 02, c), two rules: the highest DLC of a frame, and the most data bytes that one carries.
abbrev pub highest_dlc : ℕ
highest_dlc = 15

abbrev pub most_data_bytes : ℕ
most_data_bytes = 8

-- How many data bytes a frame carries, the first of its event: as many as its DLC (the target) says, but eight where it says more; a remote
-- frame none.
abbrev pub carried : List ℕ → ℕ
carried e = cond (rtr e) 0 (at_most most_data_bytes (target e))

-- Refusal 2: another length than 16, or a number that nothing has: an operation above 10, a register above 19 that is none of the added ones
-- (document 02, g), a mailbox above 31, a word above 3, an outcome above 3 (document 02, b). RML and RFP cannot be written.
abbrev pub unknown : ℕ → List ℕ → Bool
unknown op e =
    not (length e is 16)
    || ltb 10 op
    || op is 0 && (ltb 19 (target e) && not (added (target e)) || target e is RML || target e is RFP)
    || op is 1 && (ltb 31 (target e) || ltb 3 (word e))
    || op is 4 && ltb 3 (target e)

-- Refusal 3: asleep, nothing is written and no option is set.
abbrev pub asleep : ℕ → Words → Bool
asleep op w = among op (0 ∷ 1 ∷ 9 ∷ []) && w MODE is 2

-- Does an operation use data byte i? A frame uses those that it carries, no other operation uses any.
abbrev pub uses_data : ℕ → List ℕ → ℕ → Bool
uses_data op e i = op is 2 && ltb i (carried e)

-- Refusal 4, unused bytes: a target, a word, byte 3, a value or a data byte that the operation does not use is not 0.
abbrev pub unused : ℕ → List ℕ → Bool
unused op e =
    not (among op (0 ∷ 1 ∷ 2 ∷ 4 ∷ [])) && not (target e is 0)
    || not (op is 1) && not (word e is 0)
    || not (byte e 3 is 0)
    || not (among op (0 ∷ 1 ∷ 2 ∷ 5 ∷ 8 ∷ 9 ∷ [])) && not (value e is 0)
    || not (all_below (λ i. uses_data op e i || byte e (8 + i) is 0) 8)

-- Refusal 4, what a register does not take; by document 02, g), every mask is bound, and bit 31 of CDR in a CAN-B alone.
abbrev pub register_bad : Words → ℕ → ℕ → Bool
register_bad w t v =
    is_mask t && (v has 30 || v has 29)
    || t is CDR && (v has 31 && not (e_can w))
    || among t (GIF ∷ GIM ∷ []) && ltb 255 v
    || among t (BCR1 ∷ BCR2 ∷ []) && ltb 1023 v
    || t is TSC && not (v is 0)

-- Refusal 4, what words 0 and 1 of a mailbox do not take: what its layout rules out.
abbrev pub word_bad : ℕ → ℕ → Bool
word_bad j v = j is 0 && (not (v has 31) && not (v % 2 ^ 18 is 0)) || j is 1 && not (v / 2 ^ 5 % 2 ^ 11 is 0)

-- Refusal 4, values: those two; a frame with a DLC above the highest, with bit 29, or standard with low bits; a receive error that is neither
-- 1 nor 8; a mode or options above 3.
abbrev pub bad : ℕ → Words → List ℕ → Bool
bad op w e =
    op is 0 && register_bad w (target e) (value e)
    || op is 1 && word_bad (word e) (value e)
    || op is 2 && (ltb highest_dlc (target e) || value e has 29 || not (value e has 31) && not (value e % 2 ^ 18 is 0))
    || op is 5 && not (value e is 1 || value e is 8)
    || among op (8 ∷ 9 ∷ []) && ltb 3 (value e)

-- Does writing v to MD turn mailbox n round? One that only receives never turns.
abbrev pub turned : Words → ℕ → ℕ → Bool
turned w v n = not (only_receives w n) && xor (v has n) (w MD has n)

-- Refusal 5: a mailbox is in the slot, and the event is a frame, a start or a receive error, or writes that mailbox; a write to a mailbox
-- with a request, unless CDR holds it back; an MC write that disables, or an MD write that turns round, a mailbox with a request.
abbrev pub busy : ℕ → Words → List ℕ → Bool
busy op w e =
    among op (2 ∷ 3 ∷ 5 ∷ []) && not (w SLOT is empty_slot)
    || op is 1 && (not (w SLOT is empty_slot) && target e is w SLOT || w TRS has target e && not (w CDR has target e))
    || op is 0 && target e is MC && any (λ n. w TRS has n && (w MC has n && not (value e has n)))
    || op is 0 && target e is MD && any (λ n. w TRS has n && turned w (value e) n)

-- A bit timing that cannot work: TSEG1 (BCR2 bits 3 to 0) or TSEG2 (6 to 4) is zero, or SJW (9 to 8) is above TSEG2.
abbrev pub untimed : ℕ → Bool
untimed bcr2 = bcr2 % 16 is 0 || bcr2 / 16 % 8 is 0 || ltb (bcr2 / 16 % 8) (bcr2 / 256 % 4)

-- Document 02, g): the registers that only the other controller uses: of a CAN-B those from 64 on, of an eCAN LAM and GAM.
abbrev pub foreign : Words → ℕ → Bool
foreign w t = cond (e_can w) (among t (LAM ∷ GAM ∷ [])) (leb 64 t)

-- Refusal 6: an MD write that turns an enabled mailbox round; BCR1 and BCR2 outside configuration; a foreign register; of an enabled mailbox
-- word 0, and words 2 and 3 if it receives, or if it replies by itself (RFH, bit 29 of word 0) and CDR does not hold it back; a change of mode
-- that neither leaves normal nor goes there; leaving configuration with such a timing.
abbrev pub locked : ℕ → Words → ℕ → List ℕ → Bool
locked op w box0 e =
    op is 0 && target e is MD && any (λ n. w MC has n && turned w (value e) n)
    || op is 0 && among (target e) (BCR1 ∷ BCR2 ∷ []) && not (w MODE is 1)
    || op is 0 && foreign w (target e)
    || op is 1 && w MC has target e && (word e is 0 || leb 2 (word e) && (w MD has target e || box0 has 29 && not (w CDR has target e)))
    || op is 8 && not (value e is w MODE) && not (w MODE is 0) && not (value e is 0)
    || op is 8 && not (value e is w MODE) && w MODE is 1 && untimed (w BCR2)

-- Refusal 7: an outcome, and nothing is in the slot.
abbrev pub pointless : ℕ → Words → Bool
pointless op w = op is 4 && w SLOT is empty_slot

-- The refusals: number r applies to the image s and the event e. Which one is given: `Rules`.
pub data Applies (s e : List ℕ) (r : ℕ) : Type 0 where
  not_good : r ≡ 1 → (Good s → ⊥) → Applies s e r
  is_unknown : r ≡ 2 → unknown (operation e) e ≡ true → Applies s e r
  is_asleep : r ≡ 3 → asleep (operation e) (words s) ≡ true → Applies s e r
  not_allowed : r ≡ 4 → (unused (operation e) e || bad (operation e) (words s) e) ≡ true → Applies s e r
  is_busy : r ≡ 5 → busy (operation e) (words s) e ≡ true → Applies s e r
  is_locked : r ≡ 6 → locked (operation e) (words s) (box s (target e) 0) e ≡ true → Applies s e r
  slot_empty : r ≡ 7 → pointless (operation e) (words s) ≡ true → Applies s e r

-- The refusals: r applies, and none before it does.
pub record FirstRefusal (s e : List ℕ) (r : ℕ) : Type 0 where
  pub applies : Applies s e r
  pub before : (k : ℕ) → k < r → Applies s e k → ⊥

-- What a step or a fresh answers besides its refusal: a mailbox and a count.
abbrev pub Answers : ℕ → ℕ → Outcome → Type 0
Answers n c o = (o.mailbox ≡ n) × (o.count ≡ c)
