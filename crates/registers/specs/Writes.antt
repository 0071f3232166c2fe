-- What the firmware's register writes do.
use Rattle.std.specs.Prelude.{ℕ, Bool, cond, not, List, [], ◌∷◌, eqb, get_or}
use Rattle.std.specs.Int.Bits.{bit_and, bit_or}
use Rattle.bits.specs.Bit.{bit, without, set_bit, flag}
use Rattle.registers.specs.declared.Block.{Block}
use Rattle.registers.specs.Block.{with_mc, with_md, with_trs, with_trr, with_ta, with_aa, with_rmp, with_rml, with_lam, with_gam, with_rfp, with_cdr, with_mbtif, with_mbrif, with_mbim, with_gif, with_gim, with_bcr1, with_bcr2, with_tsc, with_tso, with_protection}
use Rattle.registers.specs.Status.{filled, ecan}

-- The mailbox in the slot, as a flag word: no bit where the slot is empty.
abbrev pub slot_mask : Block → ℕ
slot_mask b = flag (filled b) b.slot

-- GIF with bit n up where t holds.
abbrev pub gif_with : Block → Bool → ℕ → ℕ
gif_with b t n = bit_or b.gif (flag t n)

-- Writing, MD: it takes the value, but mailbox 31 of a CAN-B goes on receiving.
unfoldable pub direction : Block → ℕ → ℕ
direction b v = cond (ecan b) v (set_bit v 31)

abbrev pub directed : Block → ℕ → Block
directed b v = with_md b (direction b v)

-- Writing, TRS: a 1 asks for a sending, at transmit mailboxes only.
unfoldable pub requested : Block → ℕ → Block
requested b v = with_trs b (bit_or b.trs (without v b.md))

-- Writing, TRR: of the requests that a 1 names, the one in the slot gets its cancel bit; each other one ends at once, which
-- AA says, and GIF bit 4 where there was any.
abbrev pub ending : Block → ℕ → ℕ
ending b v = without (bit_and v b.trs) (slot_mask b)

abbrev pub late : Block → ℕ → ℕ
late b v = bit_and (bit_and v b.trs) (slot_mask b)

unfoldable pub cancelled : Block → ℕ → Block
cancelled b v =
    with_gif
    (with_aa (with_trs (with_trr b (bit_or b.trr (late b v))) (without b.trs (ending b v))) (bit_or b.aa (ending b v)))
    (gif_with b (not (eqb (ending b v) 0)) 4)

-- Writing, RMP: a 1 releases the frame: the pending, the lost and the remote flag go down together.
unfoldable pub released : Block → ℕ → Block
released b v = with_rfp (with_rml (with_rmp b (without b.rmp v)) (without b.rml v)) (without b.rfp v)

-- Writing, GIF: a 1 clears, and bit 3 clears TSO with it.
unfoldable pub noted : Block → ℕ → Block
noted b v = with_tso (with_gif b (without b.gif v)) (cond (bit v 3) 0 b.tso)

-- Writing: what a write of v does, register by register. Where nothing is described above, the value is taken, or a 1 clears; 7
-- and 10 (RML and RFP) cannot be written.
abbrev pub writes : Block → ℕ → List Block
writes b v =
    with_mc b v
    ∷ directed b v
    ∷ requested b v
    ∷ cancelled b v
    ∷ with_ta b (without b.ta v)
    ∷ with_aa b (without b.aa v)
    ∷ released b v
    ∷ b
    ∷ with_lam b v
    ∷ with_gam b v
    ∷ b
    ∷ with_cdr b v
    ∷ with_mbtif b (without b.mbtif v)
    ∷ with_mbrif b (without b.mbrif v)
    ∷ with_mbim b v
    ∷ noted b v
    ∷ with_gim b v
    ∷ with_bcr1 b v
    ∷ with_bcr2 b v
    ∷ with_tsc b v
    ∷ []

-- Writing; document 02, g), register 96 of an eCAN: the protection word takes the value.
abbrev pub protection_number : ℕ
protection_number = 96

-- Register t written with v; a number that is no register of the block changes nothing.
unfoldable pub written : Block → ℕ → ℕ → Block
written b t v = cond (eqb t protection_number) (with_protection b v) (get_or (writes b v) t b)
