-- The 16 bytes of an event.
use Rattle.std.specs.Prelude.{ℕ, ◌+◌, ◌*◌, ◌/◌, ◌%◌, ◌^◌, Bool, not, ◌||◌, List, [], ◌∷◌, eqb, leb, get_or}
use Rattle.bits.specs.Bit.{bit}
use Rattle.bits.specs.Tests.{every}
use Rattle.words.specs.Word.{word_at}
use Rattle.mailboxes.specs.Filing.{highest_dlc, data_bytes}
use Rattle.events.specs.declared.Frame.{Frame}

-- The events, 16 bytes each: one each for operation, target and word, an unused one, four for the value, eight of data.
abbrev pub event_bytes : ℕ
event_bytes = 16

abbrev pub operation : List ℕ → ℕ
operation e = get_or e 0 0

abbrev pub target : List ℕ → ℕ
target e = get_or e 1 0

abbrev pub word : List ℕ → ℕ
word e = get_or e 2 0

abbrev pub value : List ℕ → ℕ
value e = word_at e 4

-- The eight data bytes as one number, the first lowest.
abbrev pub payload : List ℕ → ℕ
payload e = word_at e 8 + 2 ^ 32 * word_at e 12

-- The events: what an operation does not use is zero: byte 3 always, target, word and value where it has none, and the data
-- bytes from number n on.
unfoldable pub quiet : List ℕ → Bool → Bool → Bool → ℕ → Bool
quiet e usesTarget usesWord usesValue n =
    every
    ((usesTarget || eqb (target e) 0)
    ∷ (usesWord || eqb (word e) 0)
    ∷ eqb (get_or e 3 0) 0
    ∷ (usesValue || eqb (value e) 0)
    ∷ eqb (payload e / 2 ^ (8 * n)) 0
    ∷ [])

-- The events, operation 2: the frame of an event: DLC is the target, IDE, RTR and the identifier are in the value.
unfoldable pub frame_of : List ℕ → Frame
frame_of e =
    record { ide = bit (value e) 31; rtr = bit (value e) 30; id = record { 0 = value e % 2 ^ 29 }; dlc = target e; bytes = payload e }

-- How many data bytes a frame event uses: those that the frame brings.
abbrev pub frame_bytes : List ℕ → ℕ
frame_bytes e = data_bytes (bit (value e) 30) (target e)

-- The events, not allowed: a DLC above the highest, bit 29 of the value, a standard identifier with a bit below 18.
unfoldable pub frame_allowed : List ℕ → Bool
frame_allowed e =
    every (leb (target e) highest_dlc ∷ not (bit (value e) 29) ∷ (bit (value e) 31 || eqb (value e % 2 ^ 18) 0) ∷ [])

-- An event whose word and data bytes are zero, and its value one byte: single steps and runs are written out with it.
abbrev pub plain_event : ℕ → ℕ → ℕ → List ℕ
plain_event op target value = op ∷ target ∷ 0 ∷ 0 ∷ value ∷ 0 ∷ 0 ∷ 0 ∷ 0 ∷ 0 ∷ 0 ∷ 0 ∷ 0 ∷ 0 ∷ 0 ∷ 0 ∷ []
