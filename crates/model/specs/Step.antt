-- One step: what an accepted event does to the registers, to the bytes of a mailbox or the masks, and what it answers.
use Rattle.std.specs.Prelude.{ℕ, ◌+◌, ◌-◌, ◌*◌, Bool, false, cond, List, eqb, ltb, replicate}
use Rattle.words.specs.Word.{put_word, put_words}
use Rattle.registers.specs.declared.Block.{Block}
use Rattle.registers.specs.Block.{masks_at, block_of, put_block}
use Rattle.fresh.specs.Fresh.{fresh_block}
use Rattle.registers.specs.Writes.{written}
use Rattle.registers.specs.Modes.{ticked, worsened, recessive, optioned, asked, risen, settled}
use Rattle.registers.specs.Frames.{listened, stored, replied}
use Rattle.registers.specs.Sending.{started, concluded}
use Rattle.mailboxes.specs.Mailbox.{mailboxes, mailbox, with_mailbox}
use Rattle.mailboxes.specs.Filing.{filed, stamped}
use Rattle.events.specs.declared.Event.{Event}
use Rattle.events.specs.declared.Event.TheVariants.{Refused, Register, Mailbox, Heard, Start, Outcome, ReceiveError, Recessive, Tick, Mode, Options, Reset}
use Rattle.events.specs.declared.Frame.{Frame}
use Rattle.events.specs.Decode.{is_mask, event}
use Rattle.filter.specs.declared.Delivery.{Delivery}
use Rattle.filter.specs.declared.Delivery.TheVariants.{Into, Reply, Nowhere}
use Rattle.filter.specs.Filter.{delivery}
use Rattle.sending.specs.Choice.{next}
use Rattle.answers.specs.Answer.{Outcome as Result, no_mailbox, refused}
use Rattle.refusals.specs.Refusal.{refusal}

-- ---- the register block

-- Sending: what was found goes into the slot; nothing found changes nothing.
abbrev pub started_with : Block → ℕ → Block
started_with b n = cond (ltb n no_mailbox) (started b n) b

-- The events: what each operation itself does to the registers. What a frame does in a mailbox comes after it.
unfoldable pub own : List ℕ → Event → Block
own s (Refused r) = block_of s
own s (Register t v) = written (block_of s) t v
own s (Mailbox n k v) = block_of s
own s (Heard f) = listened (block_of s)
own s Start = started_with (block_of s) (next s)
own s (Outcome k) = concluded (block_of s) k
own s (ReceiveError v) = worsened (block_of s) v
own s Recessive = recessive (block_of s)
own s Tick = ticked (block_of s)
own s (Mode m) = asked (block_of s) m
own s (Options v) = optioned (block_of s) v
own s Reset = fresh_block (block_of s).profile

-- Receiving: where an event carries a frame, where it goes, and whether it is a remote one.
unfoldable pub goes : List ℕ → Event → Delivery
goes s (Refused r) = Nowhere 0
goes s (Register t v) = Nowhere 0
goes s (Mailbox n k v) = Nowhere 0
goes s (Heard f) = delivery s f
goes s Start = Nowhere 0
goes s (Outcome k) = Nowhere 0
goes s (ReceiveError v) = Nowhere 0
goes s Recessive = Nowhere 0
goes s Tick = Nowhere 0
goes s (Mode m) = Nowhere 0
goes s (Options v) = Nowhere 0
goes s Reset = Nowhere 0

abbrev pub remote : Event → Bool
remote (Refused r) = false
remote (Register t v) = false
remote (Mailbox n k v) = false
remote (Heard f) = f.rtr
remote Start = false
remote (Outcome k) = false
remote (ReceiveError v) = false
remote Recessive = false
remote Tick = false
remote (Mode m) = false
remote (Options v) = false
remote Reset = false

-- Receiving: the flags of a frame that is stored, or that asks for a reply.
unfoldable pub delivered : Block → Bool → Delivery → Block
delivered b rtr (Into n c) = stored b n rtr
delivered b rtr (Reply n c) = replied b n
delivered b rtr (Nowhere c) = b

-- The operation's own effect, then the frame's.
abbrev pub acted : List ℕ → Event → Block
acted s e = delivered (own s e) (remote e) (goes s e)

-- Sending, errors, modes: then the flags of bus off, passive and warning, where they begin to hold, and at the end a waiting mode.
unfoldable pub block_after : List ℕ → Event → Block
block_after s e = settled (risen (block_of s) (acted s e))

-- ---- the bytes beside the block: at most one mailbox changes, or the masks

-- Receiving: a frame that is stored is filed in its mailbox, with the time stamp of the moment.
unfoldable pub stowed : List ℕ → Frame → Delivery → List ℕ
stowed s f (Into n c) =
    with_mailbox s n (filed (mailbox s n) f.ide f.rtr f.id f.dlc f.bytes (block_of s).tsc)
stowed s f (Reply n c) = s
stowed s f (Nowhere c) = s

-- Sending, outcome sent: the time stamp goes into the mailbox that was sent.
unfoldable pub postmarked : List ℕ → List ℕ
postmarked s = with_mailbox s (block_of s).slot (stamped (mailbox s (block_of s).slot) (block_of s).tsc)

-- Writing, mailbox: word k takes the value.
unfoldable pub rewritten : List ℕ → ℕ → ℕ → ℕ → List ℕ
rewritten s n k v = with_mailbox s n (put_word (mailbox s n) (4 * k) v)

-- Writing; document 02, g), registers 64 to 95 of an eCAN: the mask of a mailbox takes the value.
unfoldable pub masked : List ℕ → ℕ → ℕ → List ℕ
masked s t v = cond (is_mask t) (put_word s (masks_at + 4 * (t - 64)) v) s

-- The events, reset; document 02, g): every mask is zero again.
unfoldable pub unmasked : List ℕ → List ℕ
unmasked s = put_words s masks_at (replicate mailboxes 0)

unfoldable pub beside_after : List ℕ → Event → List ℕ
beside_after s (Refused r) = s
beside_after s (Register t v) = masked s t v
beside_after s (Mailbox n k v) = rewritten s n k v
beside_after s (Heard f) = stowed s f (delivery s f)
beside_after s Start = s
beside_after s (Outcome k) = cond (eqb k 0) (postmarked s) s
beside_after s (ReceiveError v) = s
beside_after s Recessive = s
beside_after s Tick = s
beside_after s (Mode m) = s
beside_after s (Options v) = s
beside_after s Reset = unmasked s

-- ---- the answer

-- Receiving: the mailbox that a delivery names, and how many were compared.
abbrev pub named_by : Delivery → ℕ
named_by (Into n c) = n
named_by (Reply n c) = n
named_by (Nowhere c) = no_mailbox

abbrev pub count_of : Delivery → ℕ
count_of (Into n c) = c
count_of (Reply n c) = c
count_of (Nowhere c) = c

-- Receiving and sending: a frame names where it went, a start what it took, an outcome what was in the slot.
unfoldable pub named : List ℕ → Event → ℕ
named s (Refused r) = no_mailbox
named s (Register t v) = no_mailbox
named s (Mailbox n k v) = no_mailbox
named s (Heard f) = named_by (delivery s f)
named s Start = next s
named s (Outcome k) = (block_of s).slot
named s (ReceiveError v) = no_mailbox
named s Recessive = no_mailbox
named s Tick = no_mailbox
named s (Mode m) = no_mailbox
named s (Options v) = no_mailbox
named s Reset = no_mailbox

-- ---- the whole

-- An accepted event.
unfoldable pub accepted : List ℕ → Event → Result
accepted s e =
    record { image = put_block (beside_after s e) (block_after s e); refusal = 0; mailbox = named s e; count = count_of (goes s e) }

-- The step of any image and any event bytes: refused, with every byte as it came, or accepted.
unfoldable pub step : List ℕ → List ℕ → Result
step s e = cond (eqb (refusal s e) 0) (accepted s (event e)) (refused s (refusal s e))
