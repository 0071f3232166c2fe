-- What the code of the search asks of one place.
use Rattle.std.specs.Prelude.{ℕ, ◌-◌, ◌<◌, ◌≡◌, Bool, cond, not, ◌&&◌, List}
use Rattle.bits.specs.Bit.{bit}
use Rattle.registers.specs.declared.Block.{Block}
use Rattle.registers.specs.Block.{mask_word}
use Rattle.registers.specs.Status.{ecan}
use Rattle.mailboxes.specs.Mailbox.{mailboxes, mailbox_word}
use Rattle.events.specs.declared.Frame.{Frame}
use Rattle.filter.specs.Filter.{last_mailbox, seat, agreeing, guarded}

-- A flag word with its bits in the other order, and one with the mailbox at place k in bit k.
abbrev pub Reversed : ℕ → ℕ → Type 0
Reversed w r = (k : ℕ) → k < mailboxes → bit r k ≡ bit w (last_mailbox - k)

abbrev pub Turned : Block → ℕ → ℕ → Type 0
Turned b w r = (k : ℕ) → k < mailboxes → bit r k ≡ bit w (seat b k)

-- Receiving: the mailbox at place k takes the frame, by a block that was loaded and its mask in a CAN-B.
unfoldable pub takes_by : List ℕ → Block → Frame → ℕ → ℕ → Bool
takes_by s b f own k =
    agreeing (cond (ecan b) (mask_word s (seat b k)) own) f (mailbox_word s (seat b k) 0) && not (bit (guarded b) (seat b k))
