-- The mailbox in the slot, as a flag word, and the mailboxes that send.
use Prim.Native.Nat.{ℕ, zero, suc, ◌+◌, ◌^◌, ◌<◌}
use mathlib.Core.Path.{◌≡◌, refl}
use native.Mathlib.Nat.{lt_of_le_of_lt}
use native.Mathlib.Omega.{arith}
use borrow.Author.Tests.{eqb-false, eq-eqb, not-true}
use Rattle.bits.proofs.Sets.{Within, Apart, within_le, within-zero, within-mask, apart_top}
use Rattle.registers.specs.declared.Block.{Block}
use Rattle.registers.specs.Block.{empty_slot}
use Rattle.registers.specs.Status.{filled}
use Rattle.registers.specs.Writes.{slot_mask}
use Rattle.good.proofs.Facts.{senders, Core}
use Rattle.keeps.proofs.Words.{either}

-- with an empty slot there is no cancel bit
pub empty-trr : {b : Block} → Core b → b.slot ≡ empty_slot → b.trr ≡ 0
empty-trr {b} k e =
    let w : Within b.trr 0 = rw (eq-eqb b.slot empty_slot e) at k.at_slot in
    let l = within_le w in
    omega arith

-- the slot's mailbox has a request
pub slot-trs : {b : Block} → Core b → Within (slot_mask b) b.trs
slot-trs {b} k =
    either (λ x. Within x b.trs) (filled b)
    (λ e. within-mask b.slot b.trs (k.slotted (eqb-false _ _ (not-true _ e))).trs)
    (λ e. within-zero b.trs)

pub slot_lt : {b : Block} → Core b → slot_mask b < 2 ^ senders b
slot_lt k = lt_of_le_of_lt (within_le (slot-trs k)) k.low.trs

-- what shares no bit with MD are mailboxes that send: of a CAN-B not mailbox 31
pub sends_low : {b : Block} → Core b → (x : ℕ) → Apart x b.md → x < 2 ^ 32 → x < 2 ^ senders b
sends_low {b} k x f h = at b.profile refl
  where
    at : (p : ℕ) → b.profile ≡ p → x < 2 ^ (31 + p)
    at zero e = apart_top f h k.wide.md (k.md31 e)
    at (suc zero) e = h
    at (suc (suc p)) e = let l = k.ranges.profile in absurd (omega arith)
