-- What storing a frame and sending one write into the 16 bytes of a mailbox.
use Rattle.std.specs.Prelude.{ℕ, ◌+◌, ◌*◌, ◌/◌, ◌%◌, ◌^◌, Bool, cond, List, ltb}
use Rattle.bits.specs.Bit.{flag}
use Rattle.words.specs.Word.{word_at, put_word}
use Rattle.mailboxes.specs.declared.Identifier.{Identifier}

-- Document 02, c), two rules: the highest DLC of a frame, and the most data bytes that one carries.
abbrev pub highest_dlc : ℕ
highest_dlc = 15

abbrev pub most_data_bytes : ℕ
most_data_bytes = 8

-- Receiving: how many data bytes a frame brings: none with a remote frame, else as many as its DLC says, or eight where it says more.
abbrev pub data_bytes : Bool → ℕ → ℕ
data_bytes rtr dlc = cond rtr 0 (cond (ltb most_data_bytes dlc) most_data_bytes dlc)

-- Receiving, word 0: IDE and the identifier are the frame's, so that a standard one leaves bits 17 to 0 zero; GAME or LAME and
-- RFH stay.
abbrev pub filed_identifier : ℕ → Bool → Identifier → ℕ
filed_identifier old ide i = flag ide 31 + old / 2 ^ 29 % 4 * 2 ^ 29 + i.0

-- Receiving, word 1: time stamp, RTR and DLC are replaced, the DLC by the frame's own number, above eight too.
abbrev pub filed_control : ℕ → Bool → ℕ → ℕ
filed_control tsc rtr dlc = tsc * 2 ^ 16 + flag rtr 4 + dlc

-- The eight data bytes of a mailbox as one number, the first lowest.
abbrev pub data_of : List ℕ → ℕ
data_of m = word_at m 8 + 2 ^ 32 * word_at m 12

-- Receiving: the first n bytes of new, and above them the bytes of old.
unfoldable pub spliced : ℕ → ℕ → ℕ → ℕ
spliced old new n = old / 2 ^ (8 * n) * 2 ^ (8 * n) + new % 2 ^ (8 * n)

-- Data words put into the 16 bytes.
abbrev pub with_data : List ℕ → ℕ → List ℕ
with_data m d = put_word (put_word m 8 (d % 2 ^ 32)) 12 (d / 2 ^ 32)

-- Receiving: a frame in the 16 bytes m of a mailbox.
unfoldable pub filed : List ℕ → Bool → Bool → Identifier → ℕ → ℕ → ℕ → List ℕ
filed m ide rtr i dlc new tsc =
    with_data (put_word (put_word m 0 (filed_identifier (word_at m 0) ide i)) 4 (filed_control tsc rtr dlc))
    (spliced (data_of m) new (data_bytes rtr dlc))

-- Sending, outcome sent: the time stamp is replaced in word 1, the rest of it stays.
abbrev pub stamped_control : ℕ → ℕ → ℕ
stamped_control w tsc = tsc * 2 ^ 16 + w % 2 ^ 16

unfoldable pub stamped : List ℕ → ℕ → List ℕ
stamped m tsc = put_word m 4 (stamped_control (word_at m 4) tsc)
