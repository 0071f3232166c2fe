-- Which events are refused, and with which number.
use Rattle.std.specs.Prelude.{ℕ, ◌/◌, ◌%◌, ◌<◌, Bool, false, cond, not, ◌&&◌, ◌||◌, List, [], ◌∷◌, eqb, leb}
use Rattle.std.specs.Int.Bits.{bit_xor}
use Rattle.bits.specs.Bit.{bit, without}
use Rattle.bits.specs.Tests.{apart, first_from}
use Rattle.registers.specs.declared.Block.{Block}
use Rattle.registers.specs.Block.{block_of, normal, configuration}
use Rattle.registers.specs.Status.{vacant, filled, ecan, asleep}
use Rattle.registers.specs.Writes.{direction}
use Rattle.mailboxes.specs.Mailbox.{mailbox_word, rfh}
use Rattle.events.specs.declared.Event.{Event}
use Rattle.events.specs.declared.Event.TheVariants.{Refused, Register, Mailbox, Heard, Start, Outcome, ReceiveError, Recessive, Tick, Mode, Options, Reset}
use Rattle.events.specs.Decode.{unknown, wakeful, disallowed, event}
use Rattle.good.specs.Good.{good_image}

-- Do two flag words share a mailbox?
abbrev pub meet : ℕ → ℕ → Bool
meet a b = not (apart a b)

-- The mailboxes that an MC write turns off, and those whose direction an MD write changes: bit 31 of a CAN-B is up before and after.
abbrev pub turned_off : Block → ℕ → ℕ
turned_off b v = without b.mc v

abbrev pub turned_round : Block → ℕ → ℕ
turned_round b v = bit_xor (direction b v) b.md

-- The events, busy: a write of MC that turns off, or of MD that turns round, a mailbox with a request.
abbrev pub register_busy : Block → ℕ → ℕ → Bool
register_busy b t v =
    cond (eqb t 0) (meet b.trs (turned_off b v)) (cond (eqb t 1) (meet b.trs (turned_round b v)) false)

-- The events, busy: a write to the mailbox that is being sent, or to one that waits to be and is not held back by CDR.
abbrev pub mailbox_busy : Block → ℕ → Bool
mailbox_busy b n = (filled b && eqb n b.slot) || (bit b.trs n && not (bit b.cdr n))

-- The events, busy: frames, starts and receive errors while a mailbox is being sent.
unfoldable pub busy : Block → Event → Bool
busy b (Refused r) = false
busy b (Register t v) = register_busy b t v
busy b (Mailbox n k v) = mailbox_busy b n
busy b (Heard f) = filled b
busy b Start = filled b
busy b (Outcome k) = false
busy b (ReceiveError v) = filled b
busy b Recessive = false
busy b Tick = false
busy b (Mode m) = false
busy b (Options v) = false
busy b Reset = false

-- The events, locked; document 02, g): the registers of the other profile: the masks and the protection word of an eCAN, LAM and GAM of a CAN-B.
abbrev pub foreign : Block → ℕ → Bool
foreign b t = cond (ecan b) (eqb t 8 || eqb t 9) (leb 64 t)

-- The events, locked: an MD write that turns round an enabled mailbox; the bit timing outside configuration; a register of the
-- other profile.
abbrev pub register_locked : Block → ℕ → ℕ → Bool
register_locked b t v =
    cond (eqb t 1) (meet b.mc (turned_round b v))
    (((eqb t 17 || eqb t 18) && not (eqb b.mode configuration)) || foreign b t)

-- The events, locked: of an enabled mailbox, word 0; the data words where it receives, and where it replies by itself and CDR
-- does not hold it back.
abbrev pub data_locked : Block → ℕ → ℕ → Bool
data_locked b n w = bit b.md n || (rfh w && not (bit b.cdr n))

abbrev pub mailbox_locked : Block → ℕ → ℕ → ℕ → Bool
mailbox_locked b n k w = bit b.mc n && (eqb k 0 || (leb 2 k && data_locked b n w))

-- The events, locked: configuration is left only with a bit timing: neither TSEG1 nor TSEG2 zero, SJW at most TSEG2.
abbrev pub tseg1 : Block → ℕ
tseg1 b = b.bcr2 % 16

abbrev pub tseg2 : Block → ℕ
tseg2 b = b.bcr2 / 16 % 8

abbrev pub sjw : Block → ℕ
sjw b = b.bcr2 / 256 % 4

abbrev pub timed : Block → Bool
timed b = not (eqb (tseg1 b) 0) && not (eqb (tseg2 b) 0) && leb (sjw b) (tseg2 b)

-- The events, locked: a change of mode goes from normal to another mode, or back to normal.
abbrev pub mode_open : Block → ℕ → Bool
mode_open b m =
    eqb m b.mode || (eqb b.mode normal || (eqb m normal && (not (eqb b.mode configuration) || timed b)))

unfoldable pub locked : List ℕ → Event → Bool
locked s (Refused r) = false
locked s (Register t v) = register_locked (block_of s) t v
locked s (Mailbox n k v) = mailbox_locked (block_of s) n k (mailbox_word s n 0)
locked s (Heard f) = false
locked s Start = false
locked s (Outcome k) = false
locked s (ReceiveError v) = false
locked s Recessive = false
locked s Tick = false
locked s (Mode m) = not (mode_open (block_of s) m)
locked s (Options v) = false
locked s Reset = false

-- The events, refusal 7: an outcome while nothing is being sent.
unfoldable pub pointless : Block → Event → Bool
pointless b (Refused r) = false
pointless b (Register t v) = false
pointless b (Mailbox n k v) = false
pointless b (Heard f) = false
pointless b Start = false
pointless b (Outcome k) = vacant b
pointless b (ReceiveError v) = false
pointless b Recessive = false
pointless b Tick = false
pointless b (Mode m) = false
pointless b (Options v) = false
pointless b Reset = false

-- The events, refusals: the number of the first that applies, 1 to 7; 0 where none does. Nothing else decides a refusal.
abbrev pub reasons : List ℕ → List ℕ → List Bool
reasons s e =
    not (good_image s)
    ∷ unknown e
    ∷ (wakeful e && asleep (block_of s))
    ∷ disallowed (ecan (block_of s)) e
    ∷ busy (block_of s) (event e)
    ∷ locked s (event e)
    ∷ pointless (block_of s) (event e)
    ∷ []

unfoldable pub refusal : List ℕ → List ℕ → ℕ
refusal s e = first_from 1 (reasons s e)

-- The mailbox number of a decoded event is one.
abbrev pub Fitting : Event → Type 0
Fitting (Refused r) = Unit
Fitting (Register t v) = Unit
Fitting (Mailbox n k v) = n < 32
Fitting (Heard f) = Unit
Fitting Start = Unit
Fitting (Outcome k) = Unit
Fitting (ReceiveError v) = Unit
Fitting Recessive = Unit
Fitting Tick = Unit
Fitting (Mode m) = Unit
Fitting (Options v) = Unit
Fitting Reset = Unit

-- What is left of that once the image is good and the event is decoded.
unfoldable pub remaining : List ℕ → Event → ℕ
remaining s (Refused r) = r
remaining s (Register t v) = first_from 5 (register_busy (block_of s) t v ∷ register_locked (block_of s) t v ∷ [])
remaining s (Mailbox n k v) = first_from 5 (mailbox_busy (block_of s) n ∷ mailbox_locked (block_of s) n k (mailbox_word s n 0) ∷ [])
remaining s (Heard f) = first_from 5 (filled (block_of s) ∷ [])
remaining s Start = first_from 5 (filled (block_of s) ∷ [])
remaining s (Outcome k) = first_from 7 (vacant (block_of s) ∷ [])
remaining s (ReceiveError v) = first_from 5 (filled (block_of s) ∷ [])
remaining s Recessive = 0
remaining s Tick = 0
remaining s (Mode m) = first_from 6 (not (mode_open (block_of s) m) ∷ [])
remaining s (Options v) = 0
remaining s Reset = 0
