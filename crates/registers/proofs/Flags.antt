-- One bit of a flag word after each rule, for any mailbox m: what the rules say of one mailbox, shown once for all.
use Prim.Native.Nat.{ℕ}
use mathlib.Core.Path.{◌≡◌, refl, sym, ◌∙◌, ap, ap₂}
use mathlib.Core.Bool.{Bool, true, false, cond, not, ◌&&◌, ◌||◌, or-true, or-false, and-true, and-false}
use lib.Dec.{eqb}
use lib.Bits.{bit_and, bit_or}
use borrow.Author.Tests.{eq-eqb}
use Rattle.bits.specs.Bit.{bit, mask, without, set_bit, flag}
use Rattle.bits.proofs.Laws.{bit-and, bit-or, bit-without, bit_mask, bit-flag, bit-zero}
use Rattle.registers.specs.declared.Block.{Block}
use Rattle.registers.specs.Block.{no_mode}
use Rattle.registers.specs.Status.{filled, ecan, asleep, bus_off, passive, warning}
use Rattle.registers.specs.Writes.{gif_with, slot_mask, direction, ending, late, requested, cancelled, released, noted, written}
use Rattle.registers.specs.Modes.{ticked, overflows, asked, rises, risen, entered, falls_asleep, wakes}
use Rattle.registers.specs.Frames.{listened, wakened, stored, replied}
use Rattle.registers.specs.Sending.{sent, aborting, failed}

-- a bit of GIF that a condition raises
module _ (b : Block) (t : Bool) (n m : ℕ) where
  raised : bit (gif_with b t n) m ≡ (bit b.gif m || t && eqb m n)
  raised = bit-or b.gif (flag t n) m ∙ ap (λ (x : Bool). bit b.gif m || x) (bit-flag t n m)

-- ---- after a write of v

module _ (b : Block) (v m : ℕ) where
  -- TRS: a request is up where it was, or where v asks for one at a transmit mailbox
  pub requested-trs : bit (requested b v).trs m ≡ (bit b.trs m || bit v m && not (bit b.md m))
  unfolding requested
  requested-trs = bit-or b.trs (without v b.md) m ∙ ap (λ (x : Bool). bit b.trs m || x) (bit-without v b.md m)

  -- RMP: the three flags of a held frame go down where v has a 1
  pub released-rmp : bit (released b v).rmp m ≡ (bit b.rmp m && not (bit v m))
  unfolding released
  released-rmp = bit-without b.rmp v m

  pub released-rml : bit (released b v).rml m ≡ (bit b.rml m && not (bit v m))
  unfolding released
  released-rml = bit-without b.rml v m

  pub released-rfp : bit (released b v).rfp m ≡ (bit b.rfp m && not (bit v m))
  unfolding released
  released-rfp = bit-without b.rfp v m

  -- TA, AA, MBTIF, MBRIF: a 1 clears
  pub cleared_ta : bit (written b 4 v).ta m ≡ (bit b.ta m && not (bit v m))
  unfolding written
  cleared_ta = bit-without b.ta v m

  pub cleared_aa : bit (written b 5 v).aa m ≡ (bit b.aa m && not (bit v m))
  unfolding written
  cleared_aa = bit-without b.aa v m

  pub cleared_mbtif : bit (written b 12 v).mbtif m ≡ (bit b.mbtif m && not (bit v m))
  unfolding written
  cleared_mbtif = bit-without b.mbtif v m

  pub cleared_mbrif : bit (written b 13 v).mbrif m ≡ (bit b.mbrif m && not (bit v m))
  unfolding written
  cleared_mbrif = bit-without b.mbrif v m

  -- MD: the bit of the value, but bit 31 of a CAN-B is up
  pub directed-md : bit (written b 1 v).md m ≡ (bit v m || not (ecan b) && eqb m 31)
  unfolding written direction
  directed-md = at (ecan b)
    where
      at : (t : Bool) → bit (cond t v (set_bit v 31)) m ≡ (bit v m || not t && eqb m 31)
      at true = sym (or-false (bit v m))
      at false = bit-or v (mask 31) m ∙ ap (λ (x : Bool). bit v m || x) (bit_mask 31 m)

  -- TRR: which requests end at once, and which wait for the slot's outcome
  pub ending-bit : bit (ending b v) m ≡ ((bit v m && bit b.trs m) && not (bit (slot_mask b) m))
  ending-bit =
      bit-without (bit_and v b.trs) (slot_mask b) m
      ∙ ap (λ (x : Bool). x && not (bit (slot_mask b) m)) (bit-and v b.trs m)

  pub late-bit : bit (late b v) m ≡ ((bit v m && bit b.trs m) && bit (slot_mask b) m)
  late-bit =
      bit-and (bit_and v b.trs) (slot_mask b) m
      ∙ ap (λ (x : Bool). x && bit (slot_mask b) m) (bit-and v b.trs m)

  pub cancelled-trs : bit (cancelled b v).trs m ≡ (bit b.trs m && not (bit (ending b v) m))
  unfolding cancelled
  cancelled-trs = bit-without b.trs (ending b v) m

  pub cancelled-trr : bit (cancelled b v).trr m ≡ (bit b.trr m || bit (late b v) m)
  unfolding cancelled
  cancelled-trr = bit-or b.trr (late b v) m

  pub cancelled-aa : bit (cancelled b v).aa m ≡ (bit b.aa m || bit (ending b v) m)
  unfolding cancelled
  cancelled-aa = bit-or b.aa (ending b v) m

  pub cancelled-gif : bit (cancelled b v).gif m ≡ (bit b.gif m || not (eqb (ending b v) 0) && eqb m 4)
  unfolding cancelled
  cancelled-gif = raised b (not (eqb (ending b v) 0)) 4 m

-- ---- the slot

module _ (b : Block) (m : ℕ) where
  pub slot-bit : bit (slot_mask b) m ≡ (filled b && eqb m b.slot)
  slot-bit = bit-flag (filled b) b.slot m

-- ---- after a frame is stored in mailbox n

module _ (b : Block) (n : ℕ) (rtr : Bool) (m : ℕ) where
  at-mask : (w : ℕ) → bit (bit_and w (mask n)) m ≡ (bit w m && eqb m n)
  at-mask w = bit-and w (mask n) m ∙ ap (λ (x : Bool). bit w m && x) (bit_mask n m)

  pub stored-rmp : bit (stored b n rtr).rmp m ≡ (bit b.rmp m || eqb m n)
  unfolding stored
  stored-rmp = bit-or b.rmp (mask n) m ∙ ap (λ (x : Bool). bit b.rmp m || x) (bit_mask n m)

  -- the lost flag: where it was, or here if a frame was pending here
  pub stored-rml : bit (stored b n rtr).rml m ≡ (bit b.rml m || bit b.rmp m && eqb m n)
  unfolding stored
  stored-rml =
      bit-or b.rml (bit_and b.rmp (mask n)) m ∙ ap (λ (x : Bool). bit b.rml m || x) (at-mask b.rmp)

  pub stored-mbrif : bit (stored b n rtr).mbrif m ≡ (bit b.mbrif m || bit b.mbim m && eqb m n)
  unfolding stored
  stored-mbrif =
      bit-or b.mbrif (bit_and b.mbim (mask n)) m ∙ ap (λ (x : Bool). bit b.mbrif m || x) (at-mask b.mbim)

  -- the remote flag: the frame's RTR here, as it was elsewhere
  pub stored-rfp : bit (stored b n rtr).rfp m ≡ cond (eqb m n) rtr (bit b.rfp m)
  unfolding stored
  stored-rfp = at rtr (eqb m n) refl
    where
      at : (r t : Bool) → eqb m n ≡ t → bit (cond r (bit_or b.rfp (mask n)) (without b.rfp (mask n))) m ≡ cond t r (bit b.rfp m)
      at true true e = bit-or b.rfp (mask n) m ∙ ap (λ (x : Bool). bit b.rfp m || x) (bit_mask n m ∙ e) ∙ or-true (bit b.rfp m)
      at true false e = bit-or b.rfp (mask n) m ∙ ap (λ (x : Bool). bit b.rfp m || x) (bit_mask n m ∙ e) ∙ or-false (bit b.rfp m)
      at false true e = bit-without b.rfp (mask n) m ∙ ap (λ (x : Bool). bit b.rfp m && not x) (bit_mask n m ∙ e) ∙ and-false (bit b.rfp m)
      at false false e = bit-without b.rfp (mask n) m ∙ ap (λ (x : Bool). bit b.rfp m && not x) (bit_mask n m ∙ e) ∙ and-true (bit b.rfp m)

  -- GIF: bit 5 where a frame was lost, bit 7 where the frame is a remote one, any other bit as it was
  pub stored-gif : bit (stored b n rtr).gif m ≡ (bit b.gif m || bit b.rmp n && eqb m 5 || rtr && eqb m 7)
  unfolding stored
  stored-gif =
      bit-or (bit_or b.gif (flag (bit b.rmp n) 5)) (flag rtr 7) m
      ∙ ap₂ ◌||◌
      (bit-or b.gif (flag (bit b.rmp n) 5) m ∙ ap (λ (x : Bool). bit b.gif m || x) (bit-flag (bit b.rmp n) 5 m))
      (bit-flag rtr 7 m)

  -- a remote frame that asks for a reply
  pub replied-trs : bit (replied b n).trs m ≡ (bit b.trs m || eqb m n)
  replied-trs = bit-or b.trs (mask n) m ∙ ap (λ (x : Bool). bit b.trs m || x) (bit_mask n m)

-- ---- sending

module _ (b : Block) (m : ℕ) where
  pub sent-trs : bit (sent b).trs m ≡ (bit b.trs m && not (bit (slot_mask b) m))
  unfolding sent
  sent-trs = bit-without b.trs (slot_mask b) m

  pub sent-ta : bit (sent b).ta m ≡ (bit b.ta m || bit (slot_mask b) m)
  unfolding sent
  sent-ta = bit-or b.ta (slot_mask b) m

  pub sent-trr : bit (sent b).trr m ≡ (bit b.trr m && not (bit (slot_mask b) m))
  unfolding sent
  sent-trr = bit-without b.trr (slot_mask b) m

  pub sent-mbtif : bit (sent b).mbtif m ≡ (bit b.mbtif m || bit b.mbim m && bit (slot_mask b) m)
  unfolding sent
  sent-mbtif =
      bit-or b.mbtif (bit_and b.mbim (slot_mask b)) m
      ∙ ap (λ (x : Bool). bit b.mbtif m || x) (bit-and b.mbim (slot_mask b) m)

  pub aborting-bit : bit (aborting b) m ≡ (bit (slot_mask b) m && bit b.trr m)
  aborting-bit = bit-and (slot_mask b) b.trr m

  pub failed-trs : (more : ℕ) → bit (failed b more).trs m ≡ (bit b.trs m && not (bit (aborting b) m))
  unfolding failed
  failed-trs more = bit-without b.trs (aborting b) m

  pub failed-aa : (more : ℕ) → bit (failed b more).aa m ≡ (bit b.aa m || bit (aborting b) m)
  unfolding failed
  failed-aa more = bit-or b.aa (aborting b) m

  pub failed-trr : (more : ℕ) → bit (failed b more).trr m ≡ (bit b.trr m && not (bit (aborting b) m))
  unfolding failed
  failed-trr more = bit-without b.trr (aborting b) m

  pub failed-gif : (more : ℕ) → bit (failed b more).gif m ≡ (bit b.gif m || not (eqb (aborting b) 0) && eqb m 4)
  unfolding failed
  failed-gif more = raised b (not (eqb (aborting b) 0)) 4 m

-- ---- modes

module _ (b : Block) (m : ℕ) where
  -- falling asleep ends every request
  pub entered-trs : bit (entered b).trs m ≡ cond (falls_asleep b) false (bit b.trs m)
  unfolding entered
  entered-trs = at (falls_asleep b)
    where
      at : (t : Bool) → bit (cond t 0 b.trs) m ≡ cond t false (bit b.trs m)
      at true = bit-zero m
      at false = refl

  pub entered-gif : bit (entered b).gif m ≡ (bit b.gif m || wakes b && eqb m 6)
  unfolding entered
  entered-gif = raised b (wakes b) 6 m

  -- bus off, passive and warning, each where it holds now and did not before
  pub risen-gif : (a : Block)
      → bit (risen a b).gif m
      ≡ (bit b.gif m || rises (bus_off a) (bus_off b) && eqb m 2 || rises (passive a) (passive b) && eqb m 1 || rises (warning a) (warning b) && eqb m 0)
  unfolding risen
  risen-gif a =
      bit-or _ (flag (rises (warning a) (warning b)) 0) m
      ∙ ap₂ ◌||◌
      (bit-or _ (flag (rises (passive a) (passive b)) 1) m
      ∙ ap₂ ◌||◌ (raised b (rises (bus_off a) (bus_off b)) 2 m) (bit-flag (rises (passive a) (passive b)) 1 m))
      (bit-flag (rises (warning a) (warning b)) 0 m)

  -- asking for the present mode calls off what waits
  pub asked_again : (asked b b.mode).waiting ≡ no_mode
  unfolding asked
  asked_again = rw (eq-eqb b.mode b.mode refl)

  -- asleep a tick does nothing
  pub asleep-ticked : asleep b ≡ true → (ticked b).tsc ≡ b.tsc
  unfolding ticked
  asleep-ticked h = rw h

-- TSO: a tick that overflows, and a GIF write that clears it
module _ (b : Block) where
  pub ticked_tso : (ticked b).tso ≡ cond (overflows b) 1 b.tso
  unfolding ticked
  ticked_tso = refl

  pub ticked-gif : (m : ℕ) → bit (ticked b).gif m ≡ (bit b.gif m || overflows b && eqb m 3)
  unfolding ticked
  ticked-gif m = raised b (overflows b) 3 m

  pub noted-gif : (v m : ℕ) → bit (noted b v).gif m ≡ (bit b.gif m && not (bit v m))
  unfolding noted
  noted-gif v m = bit-without b.gif v m

  pub noted_tso : (v : ℕ) → bit v 3 ≡ true → (noted b v).tso ≡ 0
  unfolding noted
  noted_tso v h = rw h

  pub listened-gif : (m : ℕ) → bit (listened b).gif m ≡ (bit b.gif m || wakened b && eqb m 6)
  unfolding listened
  listened-gif m = raised b (wakened b) 6 m
