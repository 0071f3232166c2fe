-- Which mailbox a frame goes to.
use Rattle.std.specs.Prelude.{ℕ, suc, ◌+◌, ◌-◌, Bool, cond, not, ◌&&◌, List, eqb, ltb}
use Rattle.std.specs.Int.Bits.{bit_and, bit_xor}
use Rattle.bits.specs.Bit.{bit, without, flag}
use Rattle.bits.specs.Below.{count_below, first_below}
use Rattle.registers.specs.declared.Block.{Block}
use Rattle.registers.specs.Block.{mask_word, block_of}
use Rattle.registers.specs.Status.{ecan}
use Rattle.registers.specs.Modes.{on_bus}
use Rattle.mailboxes.specs.Mailbox.{mailboxes, mailbox_word, maskable, rfh}
use Rattle.events.specs.declared.Frame.{Frame}
use Rattle.filter.specs.declared.Found.{Found}
use Rattle.filter.specs.declared.Found.TheVariants.{At, Missing}
use Rattle.filter.specs.declared.Delivery.{Delivery}
use Rattle.filter.specs.declared.Delivery.TheVariants.{Into, Reply, Nowhere}

-- Receiving: the mailboxes that a frame is compared with, as a flag word: the enabled ones, of a data frame only those that
-- receive.
unfoldable pub candidates : Block → Frame → ℕ
candidates b f = cond f.rtr b.mc (bit_and b.mc b.md)

-- Receiving; document 02, g): the order of the search. The mailbox at place k is mailbox k of a CAN-B; an eCAN begins with the highest.
abbrev pub last_mailbox : ℕ
last_mailbox = 31

unfoldable pub seat : Block → ℕ → ℕ
seat b k = cond (ecan b) (last_mailbox - k) k

-- Receiving; document 02, g): the mask of a mailbox: of a CAN-B LAM for the last one and GAM for the others, of an eCAN its own.
abbrev pub shared_mask : Block → ℕ → ℕ
shared_mask b n = cond (eqb n last_mailbox) b.lam b.gam

abbrev pub mask_for : List ℕ → Block → ℕ → ℕ
mask_for s b n = cond (ecan b) (mask_word s n) (shared_mask b n)

-- Receiving: the bits of word 0, w, that need not agree: those of the mask, at a mailbox whose GAME, LAME or AME bit is up.
abbrev pub freed_by : ℕ → ℕ → ℕ
freed_by mask w = cond (maskable w) mask 0

-- Receiving: the bits of word 0 that are compared: IDE, and of the identifier the upper 11 if the frame is standard, all 29 if it
-- is extended.
abbrev pub compared : Frame → ℕ
compared f = cond f.ide 0x9FFFFFFF 0x9FFC0000

-- A frame's IDE and identifier, where word 0 of a mailbox has them.
abbrev pub frame_word : Frame → ℕ
frame_word f = flag f.ide 31 + f.id.0

-- Receiving: the compared bits in which word 0, w, differs from the frame, but those that the mask frees.
abbrev pub differing : ℕ → Frame → ℕ → ℕ
differing mask f w = without (bit_and (bit_xor w (frame_word f)) (compared f)) (freed_by mask w)

-- Receiving: word 0, w, agrees with the frame: it differs in none.
abbrev pub agreeing : ℕ → Frame → ℕ → Bool
agreeing mask f w = eqb (differing mask f w) 0

-- Receiving: mailbox n matches the frame.
unfoldable pub matches : List ℕ → Frame → ℕ → Bool
matches s f n = agreeing (mask_for s (block_of s) n) f (mailbox_word s n 0)

-- Document 02, g), overwrite protection: the mailboxes of an eCAN that pass a matching frame over, as a flag word: those that receive,
-- hold a frame and are protected.
unfoldable pub guarded : Block → ℕ
guarded b = cond (ecan b) (bit_and (bit_and b.protection b.rmp) b.md) 0

-- Receiving: mailbox n matches the frame and does not pass it over.
unfoldable pub takes : List ℕ → Frame → ℕ → Bool
takes s f n = matches s f n && not (bit (guarded (block_of s)) n)

-- Receiving: mailbox n is compared with the frame and takes it.
unfoldable pub hits : List ℕ → Frame → ℕ → Bool
hits s f n = bit (candidates (block_of s) f) n && takes s f n

-- Document 02, g), overwrite protection: mailbox n is compared with the frame, matches it and passes it over.
unfoldable pub passes : List ℕ → Frame → ℕ → Bool
passes s f n = bit (candidates (block_of s) f) n && (matches s f n && bit (guarded (block_of s)) n)

-- Receiving: how many of the mailboxes before place k were compared.
abbrev pub compared_at : List ℕ → Frame → ℕ → Bool
compared_at s f k = bit (candidates (block_of s) f) (seat (block_of s) k)

abbrev pub compared_before : List ℕ → Frame → ℕ → ℕ
compared_before s f k = count_below (compared_at s f) k

-- Receiving: the search, place by place, stops at the first mailbox that takes the frame; the count is that of the mailboxes
-- compared, this one and those that passed the frame over included, or all of them where none takes it.
abbrev pub found_at : List ℕ → Frame → ℕ → Found
found_at s f k =
    cond (ltb k mailboxes) (At (seat (block_of s) k) (compared_before s f (suc k))) (Missing (compared_before s f mailboxes))

abbrev pub hits_at : List ℕ → Frame → ℕ → Bool
hits_at s f k = hits s f (seat (block_of s) k)

unfoldable pub found : List ℕ → Frame → Found
found s f = found_at s f (first_below (hits_at s f) mailboxes)

-- Receiving: a mailbox that receives stores the frame; one that transmits is asked for a reply where it has RFH, and otherwise
-- the frame goes nowhere, and the count is kept.
unfoldable pub placed : List ℕ → Found → Delivery
placed s (At n c) =
    cond (bit (block_of s).md n) (Into n c) (cond (rfh (mailbox_word s n 0)) (Reply n c) (Nowhere c))
placed s (Missing c) = Nowhere c

-- Document 02, g), overwrite protection: a frame that is heard and that every matching mailbox passes over, at least one.
unfoldable pub passed_over : List ℕ → Frame → Bool
passed_over s f =
    on_bus (block_of s) && (ltb 0 (count_below (passes s f) mailboxes) && eqb (count_below (hits s f) mailboxes) 0)

-- Receiving: a frame is heard in normal mode, unless the unit is bus off; else it goes nowhere and is compared with nothing.
unfoldable pub delivery : List ℕ → Frame → Delivery
delivery s f = cond (on_bus (block_of s)) (placed s (found s f)) (Nowhere 0)
