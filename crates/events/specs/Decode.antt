-- From 16 bytes to an event, or to refusal 2, 3 or 4: for each operation a row in four tables.
use Rattle.std.specs.Prelude.{ℕ, Bool, true, false, cond, not, ◌&&◌, ◌||◌, List, [], ◌∷◌, eqb, ltb, leb, get_or, length, Result, Ok, Err}
use Rattle.bits.specs.Tests.{top_down, gap_down}
use Rattle.answers.specs.declared.Refusal.{Refusal}
use Rattle.answers.specs.Refusals.{number_of}
use Rattle.mailboxes.specs.Mailbox.{word_layout}
use Rattle.events.specs.declared.Event.{Event}
use Rattle.events.specs.declared.Event.TheVariants.{Refused, Register, Mailbox, Heard, Start, Outcome, ReceiveError, Recessive, Tick, Mode, Options, Reset}
use Rattle.events.specs.Parts.{event_bytes, operation, target, word, value, quiet, frame_of, frame_bytes, frame_allowed}

-- The events, refusal 2: the registers that can be written: 0 to 19, but neither RML (7) nor RFP (10); by document 02,
-- g), the masks of an eCAN, 64 to 95, and its protection word, 96.
abbrev pub writable : ℕ → Bool
writable t = (leb t 19 && not (eqb t 7) && not (eqb t 10)) || (leb 64 t && leb t 96)

abbrev pub is_mask : ℕ → Bool
is_mask t = leb 64 t && leb t 95

-- The events, operation 4: the outcomes are 0 sent, 1 arbitration lost, 2 error and, by document 02, b), 3 no acknowledgement.
abbrev pub last_outcome : ℕ
last_outcome = 3

-- The events, refusal 2: is there such a register, mailbox, word, outcome, operation?
abbrev pub known_as : ℕ → List ℕ → Bool
known_as op e =
    get_or
    (writable (target e)
    ∷ (leb (target e) 31 && leb (word e) 3)
    ∷ true
    ∷ true
    ∷ leb (target e) last_outcome
    ∷ true
    ∷ true
    ∷ true
    ∷ true
    ∷ true
    ∷ true
    ∷ [])
    op false

-- The events, refusal 3: asleep, writes and options are refused.
abbrev pub wakeful_as : ℕ → Bool
wakeful_as op = eqb op 0 || eqb op 1 || eqb op 9

-- The events, refusal 4: which of target, word, value and how many data bytes an operation uses; the rest is zero.
abbrev pub quiet_as : ℕ → List ℕ → Bool
quiet_as op e =
    get_or
    (quiet e true false true 0
    ∷ quiet e true true true 0
    ∷ quiet e true false true (frame_bytes e)
    ∷ quiet e false false false 0
    ∷ quiet e true false false 0
    ∷ quiet e false false true 0
    ∷ quiet e false false false 0
    ∷ quiet e false false false 0
    ∷ quiet e false false true 0
    ∷ quiet e false false true 0
    ∷ quiet e false false false 0
    ∷ [])
    op true

-- The events, not allowed: which values a register takes: LAM, GAM and the masks without bits 30 and 29, CDR without bit 31
-- unless it is an eCAN, GIF and GIM of 8 bits, BCR1 and BCR2 of 10, TSC only 0; every other one any value.
unfoldable pub register_allowed : Bool → ℕ → ℕ → Bool
register_allowed ecan t v =
    cond (eqb t 8 || eqb t 9 || is_mask t) (gap_down v)
    (cond (eqb t 11) (ecan || top_down v)
    (cond (eqb t 15 || eqb t 16) (ltb v 256)
    (cond (eqb t 17 || eqb t 18) (ltb v 1024)
    (cond (eqb t 19) (eqb v 0) true))))

-- The events, not allowed: which values an operation takes.
abbrev pub allowed_as : ℕ → Bool → List ℕ → Bool
allowed_as op ecan e =
    get_or
    (register_allowed ecan (target e) (value e)
    ∷ word_layout (word e) (value e)
    ∷ frame_allowed e
    ∷ true
    ∷ true
    ∷ (eqb (value e) 1 || eqb (value e) 8)
    ∷ true
    ∷ true
    ∷ leb (value e) 3
    ∷ leb (value e) 3
    ∷ true
    ∷ [])
    op true

-- The events: the case of each operation.
abbrev pub event_as : ℕ → List ℕ → Event
event_as op e =
    get_or
    (Register (target e) (value e)
    ∷ Mailbox (target e) (word e) (value e)
    ∷ Heard (frame_of e)
    ∷ Start
    ∷ Outcome (target e)
    ∷ ReceiveError (value e)
    ∷ Recessive
    ∷ Tick
    ∷ Mode (value e)
    ∷ Options (value e)
    ∷ Reset
    ∷ [])
    op (Refused 2)

-- The refusals 2, 3 and 4 of an event, each as a test of its bytes.
abbrev pub unknown : List ℕ → Bool
unknown e = not (eqb (length e) event_bytes) || not (known_as (operation e) e)

abbrev pub wakeful : List ℕ → Bool
wakeful e = wakeful_as (operation e)

abbrev pub disallowed : Bool → List ℕ → Bool
disallowed ecan e = not (quiet_as (operation e) e && allowed_as (operation e) ecan e)

abbrev pub event : List ℕ → Event
event e = event_as (operation e) e

-- The events, refusals 2 to 4 in their order, given whether the unit sleeps and whether it is an eCAN.
unfoldable pub decoded : Bool → Bool → List ℕ → Event
decoded asleep ecan e =
    cond (unknown e) (Refused 2) (cond (wakeful e && asleep) (Refused 3) (cond (disallowed ecan e) (Refused 4) (event e)))

-- The same for 16 bytes whose operation is op.
unfoldable pub decoded_as : ℕ → Bool → Bool → List ℕ → Event
decoded_as op asleep ecan e =
    cond (not (known_as op e)) (Refused 2)
    (cond (wakeful_as op && asleep) (Refused 3) (cond (not (quiet_as op e && allowed_as op ecan e)) (Refused 4) (event_as op e)))

-- The events, refusals 2 to 4: the event where there is one, else the case of a refused event, with the number of its refusal.
abbrev pub or_refused : Result Event Refusal → Event
or_refused (Ok v) = v
or_refused (Err why) = Refused (number_of why)

-- Document 02, d): an event that has to be a frame is refused with 2 where it is not 16 bytes or has another operation than 2, else with 4
-- as in a step; 0 says that it is not refused.
unfoldable pub frame_refusal : List ℕ → ℕ
frame_refusal e =
    cond (not (eqb (length e) event_bytes && eqb (operation e) 2)) 2 (cond (not (quiet_as 2 e && allowed_as 2 false e)) 4 0)
