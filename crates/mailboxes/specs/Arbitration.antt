-- Identifiers and arbitration keys: two kinds of number that are never compared with one another.
use Rattle.std.specs.Prelude.{ℕ, ◌+◌, ◌*◌, ◌/◌, ◌%◌, ◌^◌, Bool, cond, ◌||◌}
use Rattle.bits.specs.Bit.{flag}
use Rattle.mailboxes.specs.declared.Identifier.{Identifier}
use Rattle.mailboxes.specs.declared.Key.{Key}
use Rattle.mailboxes.specs.Mailbox.{identifier}

-- The image, word 0 of a mailbox: the identifier, without the bits above it.
abbrev pub identifier_of : ℕ → Identifier
identifier_of w = record { 0 = identifier w }

-- Sending: the 11 bits that both formats have, and the 18 that an extended identifier adds.
abbrev pub base : Identifier → ℕ
base i = i.0 / 2 ^ 18 % 2 ^ 11

abbrev pub low : Identifier → ℕ
low i = i.0 % 2 ^ 18

-- Sending: the key that decides who sends first, the smaller before the greater: the base, then RTR (or the recessive bit
-- that an extended frame has in its place), then IDE, then for an extended frame its other bits and its RTR.
unfoldable pub key_of : Identifier → Bool → Bool → Key
key_of i ide rtr =
    record { 0 = base i * 2 ^ 21 + flag (ide || rtr) 20 + flag ide 19 + cond ide (low i * 2 + flag rtr 0) 0 }
