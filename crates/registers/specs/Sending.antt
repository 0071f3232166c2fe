-- What starting and its outcome do to the block.
use Rattle.std.specs.Prelude.{ℕ, ◌+◌, ◌-◌, cond, not, ◌&&◌, ◌||◌, eqb}
use Rattle.std.specs.Int.Bits.{bit_and, bit_or}
use Rattle.bits.specs.Bit.{without}
use Rattle.registers.specs.declared.Block.{Block}
use Rattle.registers.specs.Block.{with_trs, with_trr, with_ta, with_aa, with_mbtif, with_gif, with_tec, with_slot, empty_slot, bus_off_at}
use Rattle.registers.specs.Status.{passive}
use Rattle.registers.specs.Writes.{slot_mask, gif_with}
use Rattle.registers.specs.Modes.{at_most}

-- Sending: which mailboxes may start: a request and enabled, neither held back by CDR nor being cancelled.
abbrev pub eligible : Block → ℕ
eligible b = without (without (bit_and b.trs b.mc) b.cdr) b.trr

-- Sending: a start puts the chosen mailbox into the slot.
abbrev pub started : Block → ℕ → Block
started b n = with_slot b n

-- Sending, outcome sent: the request and its cancel bit end, TA says so, MBTIF under MBIM, TEC falls by one unless it is 0.
unfoldable pub sent : Block → Block
sent b =
    with_slot
    (with_tec
    (with_mbtif
    (with_ta (with_trr (with_trs b (without b.trs (slot_mask b))) (without b.trr (slot_mask b))) (bit_or b.ta (slot_mask b)))
    (bit_or b.mbtif (bit_and b.mbim (slot_mask b))))
    (b.tec - 1))
    empty_slot

-- Sending, other outcomes: a request with its cancel bit ends, which AA and GIF bit 4 say; without it, it stays. TEC rises
-- by what the outcome adds, up to 256.
abbrev pub aborting : Block → ℕ
aborting b = bit_and (slot_mask b) b.trr

unfoldable pub failed : Block → ℕ → Block
failed b more =
    with_slot
    (with_tec
    (with_gif
    (with_aa (with_trr (with_trs b (without b.trs (aborting b))) (without b.trr (aborting b))) (bit_or b.aa (aborting b)))
    (gif_with b (not (eqb (aborting b) 0)) 4))
    (at_most bus_off_at (b.tec + more)))
    empty_slot

-- Sending: an error (2) adds 8 to TEC, lost arbitration (1) nothing. Document 02, b): a missing acknowledgement (3) adds 8 too, unless the
-- unit is already passive.
abbrev pub added : Block → ℕ → ℕ
added b k = cond (eqb k 2 || eqb k 3 && not (passive b)) 8 0

-- Sending: outcome 0 is sent; of every other number the request failed, and TEC rises by what is added.
abbrev pub concluded : Block → ℕ → Block
concluded b k = cond (eqb k 0) (sent b) (failed b (added b k))
