-- One run, in which everything that the books know happens at mailbox 3.
use Rattle.std.specs.Prelude.{ℕ, List, [], ◌∷◌, ◌++◌}
use Rattle.events.specs.Parts.{plain_event}

-- The events of the run.
abbrev pub write : ℕ → ℕ → List ℕ
write register value = plain_event 0 register value

-- A standard data frame without data whose identifier is 0, as that of the mailbox is.
abbrev pub frame : List ℕ
frame = plain_event 2 0 0

abbrev pub start : List ℕ
start = plain_event 3 0 0

abbrev pub outcome : ℕ → List ℕ
outcome k = plain_event 4 k 0

abbrev pub mode : ℕ → List ℕ
mode v = plain_event 8 0 v

abbrev pub reset : List ℕ
reset = plain_event 10 0 0

-- Mailbox 3's bit.
abbrev pub here : ℕ
here = 8

-- Mailbox 3 receives: bit timing (BCR2), direction (MD), enabled (MC), normal mode. A frame; another over it; RMP releases it; a third
-- one is held.
abbrev pub receiving : List (List ℕ)
receiving =
    write 18 0x25 ∷ write 1 here ∷ write 0 here ∷ mode 0 ∷ frame ∷ frame ∷ write 6 here ∷ frame ∷ []

-- Mailbox 3 is turned round and sends: a request (TRS) that TRR ends at once; one that is sent; one that TRR meets in the slot and
-- that loses arbitration.
abbrev pub sending : List (List ℕ)
sending =
    write 0 0 ∷ write 1 0 ∷ write 0 here
    ∷ write 2 here ∷ write 3 here
    ∷ write 2 here ∷ start ∷ outcome 0
    ∷ write 2 here ∷ start ∷ write 3 here ∷ outcome 1
    ∷ []

-- A sleep that waits for the slot: the error ends it, and the request is dropped at the end of the same step. Awake again, one more
-- request, which the reset drops with the frame that is still held.
abbrev pub ending : List (List ℕ)
ending = write 2 here ∷ start ∷ mode 2 ∷ outcome 2 ∷ mode 0 ∷ write 2 here ∷ reset ∷ []

unfoldable pub log : List (List ℕ)
log = receiving ++ sending ++ ending
