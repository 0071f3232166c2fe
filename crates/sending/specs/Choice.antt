-- Which mailbox a start takes.
use Rattle.std.specs.Prelude.{ℕ, zero, suc, Bool, cond, ◌&&◌, ◌||◌, List, Option, Some, None, eqb, ltb}
use Rattle.std.specs.Bool.{then_some}
use Rattle.bits.specs.Bit.{bit}
use Rattle.bits.specs.Below.{first_below}
use Rattle.registers.specs.Block.{block_of}
use Rattle.registers.specs.Modes.{on_bus}
use Rattle.registers.specs.Sending.{eligible}
use Rattle.mailboxes.specs.declared.Key.{Key}
use Rattle.sending.specs.declared.Best.{Best}
use Rattle.mailboxes.specs.Mailbox.{mailboxes, mailbox_word, ide, rtr}
use Rattle.mailboxes.specs.Arbitration.{identifier_of, key_of}

-- Sending: the arbitration key of mailbox n.
unfoldable pub key_at : List ℕ → ℕ → Key
key_at s n = key_of (identifier_of (mailbox_word s n 0)) (ide (mailbox_word s n 0)) (rtr (mailbox_word s n 1))

-- Sending: of the mailboxes below n that a word names, the one with the smallest key, of equal keys the lowest number; 32 where
-- the word names none.
abbrev pub none_yet : ℕ
none_yet = mailboxes

abbrev pub better : List ℕ → ℕ → ℕ → Bool
better s n m = eqb m none_yet || ltb (key_at s n).0 (key_at s m).0

unfoldable pub smallest_below : List ℕ → ℕ → ℕ → ℕ
smallest_below s w zero = none_yet
smallest_below s w (suc n) = cond (bit w n && better s n (smallest_below s w n)) n (smallest_below s w n)

-- Sending: the choice: 32 stands for no mailbox in the definitions and in the answer to C; every number below is that mailbox.
abbrev pub named : ℕ → Option ℕ
named n = then_some (ltb n mailboxes) n

-- Sending: with MTOS the smallest key among the eligible mailboxes, without it the lowest number; 32 where none is eligible.
unfoldable pub chosen : List ℕ → ℕ → Bool → ℕ
chosen s w mtos = cond mtos (smallest_below s w mailboxes) (first_below (bit w) mailboxes)

-- Sending: what a start finds: nothing off the bus.
unfoldable pub next : List ℕ → ℕ
next s = cond (on_bus (block_of s)) (chosen s (eligible (block_of s)) (bit (block_of s).options 0)) none_yet

-- Sending: the smaller of the best so far, as the search carries it, a mailbox and its key, and mailbox n: of equal keys the one that
-- came first.
unfoldable pub better_of : Option Best → ℕ → Key → Best
better_of None n key = record { mailbox = n; key = key }
better_of (Some best) n key = cond (ltb key.0 best.key.0) (record { mailbox = n; key = key }) best
