-- What a frame does to the block: when it is heard, when it is stored, when it asks for a reply.
use Rattle.std.specs.Prelude.{ℕ, ◌-◌, Bool, cond, ◌&&◌, ltb}
use Rattle.std.specs.Int.Bits.{bit_and, bit_or}
use Rattle.bits.specs.Bit.{bit, mask, without, flag}
use Rattle.registers.specs.declared.Block.{Block}
use Rattle.registers.specs.Block.{with_trs, with_rmp, with_rml, with_rfp, with_mbrif, with_gif, with_rec, with_mode, normal}
use Rattle.registers.specs.Status.{asleep}
use Rattle.registers.specs.Writes.{gif_with}
use Rattle.registers.specs.Modes.{on_bus}

-- Receiving: REC after a frame without error: 0 stays, up to 127 it falls by one, above it becomes 127.
abbrev pub fallen : ℕ → ℕ
fallen r = cond (ltb 127 r) 127 (r - 1)

-- Receiving: asleep with WUBA a frame wakes the unit, and does nothing else.
abbrev pub wakened : Block → Bool
wakened b = asleep b && bit b.options 1

-- Receiving: what any frame does, whoever wants it.
unfoldable pub listened : Block → Block
listened b =
    with_gif (with_mode (with_rec b (cond (on_bus b) (fallen b.rec) b.rec)) (cond (wakened b) normal b.mode))
    (gif_with b (wakened b) 6)

-- Receiving: a frame stored in the mailbox that the flag word x names. Where one was pending, it is lost: RML goes up, and GIF
-- bit 5 where `lost` says so. RMP goes up. RFP says whether the new frame is a remote one, for which GIF bit 7 goes up too. MBRIF
-- goes up under MBIM.
abbrev pub flagged : Block → ℕ → Bool → Bool → Block
flagged b x lost rtr =
    with_gif
    (with_mbrif
    (with_rfp
    (with_rmp (with_rml b (bit_or b.rml (bit_and b.rmp x))) (bit_or b.rmp x))
    (cond rtr (bit_or b.rfp x) (without b.rfp x)))
    (bit_or b.mbrif (bit_and b.mbim x)))
    (bit_or (gif_with b lost 5) (flag rtr 7))

unfoldable pub stored : Block → ℕ → Bool → Block
stored b n rtr = flagged b (mask n) (bit b.rmp n) rtr

-- Receiving: mailbox n replies by itself: a remote frame asks it to send.
abbrev pub replied : Block → ℕ → Block
replied b n = with_trs b (bit_or b.trs (mask n))
