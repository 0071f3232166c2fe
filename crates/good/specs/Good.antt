-- What makes an image good: one named clause for each thing that document 01 asks under "The image", in its order, but for the DLC, of
-- which by document 02, c), nothing is asked.
use Rattle.std.specs.Prelude.{ℕ, ◌+◌, ◌*◌, Bool, not, ◌&&◌, ◌||◌, List, [], ◌∷◌, eqb, ltb, leb, length}
use Rattle.bits.specs.Below.{all_below}
use Rattle.bits.specs.Tests.{every, implies, within, apart, top_down, top_up, gap_down}
use Rattle.words.specs.Word.{word_at}
use Rattle.registers.specs.declared.Block.{Block}
use Rattle.registers.specs.Block.{image_bytes, registers_at, block_of, normal, no_mode, empty_slot, can_b, mask_word}
use Rattle.registers.specs.Status.{filled, ecan, asleep, bus_off}
use Rattle.registers.specs.Writes.{slot_mask}
use Rattle.mailboxes.specs.Mailbox.{mailboxes, layout}

-- ---- the clauses on the register block

-- The image, good image; document 02, g): asked of what is no eCAN: the profile is CAN-B, and mailbox 31 only receives: bit 31 of MD is up,
-- and down in every word that belongs to sending.
abbrev pub last_receives : Block → List Bool
last_receives b =
    eqb b.profile can_b ∷ top_up b.md ∷ top_down b.trs ∷ top_down b.trr ∷ top_down b.ta ∷ top_down b.aa ∷ top_down b.cdr ∷ top_down b.mbtif ∷ []

-- The image, good image: a mailbox with a request is no receive mailbox.
abbrev pub requests_transmit : Block → Bool
requests_transmit b = apart b.trs b.md

-- The image, good image: a cancel bit stands only at the slot's mailbox (with an empty slot, at none), and only where a
-- request is.
abbrev pub cancel_at_slot : Block → Bool
cancel_at_slot b = within b.trr (slot_mask b)

abbrev pub cancel_of_request : Block → Bool
cancel_of_request b = within b.trr b.trs

-- The image, good image: the lost flag and the remote flag stand only where a frame is pending.
abbrev pub flags_of_pending : Block → List Bool
flags_of_pending b = within b.rml b.rmp ∷ within b.rfp b.rmp ∷ []

-- The image, good image: a mask has no bits 30 and 29.
abbrev pub mask_gaps : Block → List Bool
mask_gaps b = gap_down b.lam ∷ gap_down b.gam ∷ []

-- The image, good image: the bounds of the words 15 to 21.
abbrev pub ranges : Block → List Bool
ranges b =
    ltb b.gif 256
    ∷ ltb b.gim 256
    ∷ ltb b.bcr1 1024
    ∷ ltb b.bcr2 1024
    ∷ ltb b.tsc 65536
    ∷ leb b.tec 256
    ∷ leb b.rec 255
    ∷ []

-- The image, good image: the bounds of the words 22 to 27.
abbrev pub states : Block → List Bool
states b =
    leb b.mode 3
    ∷ leb b.waiting 4
    ∷ leb b.slot empty_slot
    ∷ leb b.recovery 127
    ∷ leb b.options 3
    ∷ leb b.tso 1
    ∷ []

-- The image, good image: what is in the slot is being sent, so the mode is normal, the unit is not bus off, and the
-- mailbox is enabled and has its request.
abbrev pub slot_asks : Block → List Bool
slot_asks b = eqb b.mode normal ∷ ltb b.tec 256 ∷ within (slot_mask b) b.trs ∷ within (slot_mask b) b.mc ∷ []

abbrev pub slot_needs : Block → Bool
slot_needs b = implies (filled b) (every (slot_asks b))

-- The image, good image: bus off is a state of the normal mode.
abbrev pub bus_off_needs : Block → Bool
bus_off_needs b = implies (bus_off b) (eqb b.mode normal)

-- The image, good image: recovery counts in bus off only.
abbrev pub recovery_needs : Block → Bool
recovery_needs b = implies (ltb 0 b.recovery) (bus_off b)

-- The image, good image: a mode that waits is never the normal one, and it waits for a filled slot or for bus off.
abbrev pub waits_for_reason : Block → Bool
waits_for_reason b = implies (not (eqb b.waiting no_mode)) (filled b || bus_off b)

abbrev pub waiting_needs : Block → Bool
waiting_needs b = leb 1 b.waiting && waits_for_reason b

-- The image, good image: asleep nothing is counted and nothing is asked for.
abbrev pub sleep_asks : Block → List Bool
sleep_asks b = eqb b.tec 0 ∷ eqb b.rec 0 ∷ eqb b.trs 0 ∷ eqb b.trr 0 ∷ []

abbrev pub sleep_needs : Block → Bool
sleep_needs b = implies (asleep b) (every (sleep_asks b))

-- ---- the clauses together, in three groups

abbrev pub flag_clauses : Block → List Bool
flag_clauses b =
    (ecan b || every (last_receives b))
    ∷ requests_transmit b
    ∷ cancel_of_request b
    ∷ every (flags_of_pending b)
    ∷ every (mask_gaps b)
    ∷ []

abbrev pub number_clauses : Block → List Bool
number_clauses b =
    every (ranges b)
    ∷ every (states b)
    ∷ bus_off_needs b
    ∷ recovery_needs b
    ∷ waiting_needs b
    ∷ sleep_needs b
    ∷ []

abbrev pub slot_clauses : Block → List Bool
slot_clauses b = cancel_at_slot b ∷ slot_needs b ∷ []

unfoldable pub good_flags : Block → Bool
good_flags b = every (flag_clauses b)

unfoldable pub good_numbers : Block → Bool
good_numbers b = every (number_clauses b)

unfoldable pub good_slot : Block → Bool
good_slot b = every (slot_clauses b)

unfoldable pub good_block : Block → Bool
good_block b = every (good_flags b ∷ good_numbers b ∷ good_slot b ∷ [])

-- ---- the whole image

-- The image, good image: every mailbox keeps to the layout, a disabled one too.
unfoldable pub good_layouts : List ℕ → Bool
good_layouts s = all_below (layout s) mailboxes

-- The image: the four spare words, from 28 on, are zero.
abbrev pub spare_words : List ℕ → List Bool
spare_words s =
    eqb (word_at s (registers_at + 4 * 28)) 0
    ∷ eqb (word_at s (registers_at + 4 * 29)) 0
    ∷ eqb (word_at s (registers_at + 4 * 30)) 0
    ∷ eqb (word_at s (registers_at + 4 * 31)) 0
    ∷ []

unfoldable pub good_spare : List ℕ → Bool
good_spare s = every (spare_words s)

-- The image, good image; document 02, g): no mask of a mailbox has bits 30 and 29, in either profile.
abbrev pub good_mask : List ℕ → ℕ → Bool
good_mask s n = gap_down (mask_word s n)

unfoldable pub good_masks : List ℕ → Bool
good_masks s = all_below (good_mask s) mailboxes

-- The image, good image: 776 bytes, and every clause above.
abbrev pub contents : List ℕ → List Bool
contents s = good_layouts s ∷ good_spare s ∷ good_masks s ∷ good_block (block_of s) ∷ []

unfoldable pub good_image : List ℕ → Bool
good_image s = eqb (length s) image_bytes && every (contents s)
