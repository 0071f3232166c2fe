-- Frames: heard, stored, asking for a reply.
use Prim.Native.Nat.{ℕ, ◌^◌, ◌<◌, ◌≤◌}
use mathlib.Core.Path.{◌≡◌, refl}
use mathlib.Core.Bool.{Bool, true, false, cond}
use mathlib.Core.Logic.{◌≢◌}
use native.Mathlib.Omega.{arith}
use lib.Dec.{ltb, lit<, lit≤}
use lib.Bits.{bit_and, bit_or, or_lt}
use lib.Pow.{pow-lt}
use Rattle.bits.specs.Bit.{bit, mask}
use Rattle.bits.proofs.Sets.{Within, within_trans, within-or, and-within_l, or-within_l, or-within_r, without-within, apart-or, apart-mask, and_lt_l}
use Rattle.registers.specs.declared.Block.{Block}
use Rattle.registers.specs.Block.{with_mode, normal, sleep}
use Rattle.registers.specs.Modes.{on_bus}
use Rattle.registers.specs.Frames.{fallen, wakened, listened, stored, replied}
use Rattle.good.proofs.Facts.{senders, Core, GoodBlock}
use Rattle.keeps.proofs.Words.{either, gif_lt}
use Rattle.keeps.proofs.Slot.{sends_low}
use Rattle.keeps.proofs.Keep.{keep_trs, keep_rmp, keep_rml, keep_rfp, keep_mbrif, keep_gif, keep_mode}
use Rattle.keeps.proofs.Open.{Open, still_open}
use Rattle.keeps.proofs.Modes.{bus_mode, rec_core}

fallen_le : (r : ℕ) → r ≤ 255 → fallen r ≤ 255
fallen_le r h = either (λ x. x ≤ 255) (ltb 127 r) (λ e. lit≤ tt) (λ e. omega arith)

-- a frame wakes the unit, and the normal mode asks nothing
woken_core : {c : Block} → Core c → (t : Bool) → Core (with_mode c (cond t normal c.mode))
woken_core {c} k t =
    either (λ m. Core (with_mode c m)) t
    (λ e. keep_mode k normal (lit≤ tt) (λ n. refl) (λ n. refl) (λ s. absurd (omega arith)))
    (λ e. k)

pub listened_open : {b : Block} → GoodBlock b → Open (listened b)
unfolding listened
listened_open {b} g =
    let k = g.core in
    still_open g refl
    (keep_gif
    (woken_core (rec_core k (fallen b.rec) (fallen_le b.rec k.ranges.rec)) (wakened b))
    _ (gif_lt (wakened b) 6 k.ranges.gif (lit< tt)))

-- a frame that is heard finds the unit in normal mode
pub listened-awake : (b : Block) → on_bus b ≡ true → (listened b).mode ≢ sleep
unfolding listened
listened-awake b on =
    let n = bus_mode b on in
    either (λ m. m ≢ sleep) (wakened b) (λ e s. absurd (omega arith)) (λ e s. absurd (omega arith))

pub stored_open : {b : Block} → Open b → (n : ℕ) → n < 32 → (rtr : Bool) → Open (stored b n rtr)
unfolding stored
stored_open {b} i n h rtr =
    let k = i.core in
    let at : mask n < 2 ^ 32 = pow-lt h in
    let more = or-within_l b.rmp (mask n) in
    let remote = either (λ x. Within x (bit_or b.rmp (mask n))) rtr
    (λ e. within-or (within_trans k.rfp more) (or-within_r b.rmp (mask n)))
    (λ e. within_trans (without-within b.rfp (mask n)) (within_trans k.rfp more)) in
    record {
      core =
          keep_gif
          (keep_mbrif
          (keep_rfp
          (keep_rml
          (keep_rmp k (bit_or b.rmp (mask n)) (or_lt 32 _ _ k.wide.rmp at) (within_trans k.rml more) (within_trans k.rfp more))
          (bit_or b.rml (bit_and b.rmp (mask n))) (within-or (within_trans k.rml more) (within_trans (and-within_l b.rmp (mask n)) more)))
          _ remote)
          (bit_or b.mbrif (bit_and b.mbim (mask n))) (or_lt 32 _ _ k.wide.mbrif (and_lt_l (mask n) k.wide.mbim)))
          _ (gif_lt rtr 7 (gif_lt (bit b.rmp n) 5 k.ranges.gif (lit< tt)) (lit< tt));
      most = i.most;
      zero = i.zero;
    }

-- mailbox 31 of a CAN-B never sends, so that it is not the one that replies
pub replied_open : {b : Block} → Open b → b.mode ≢ sleep → (n : ℕ) → n < 32 → bit b.md n ≡ false → Open (replied b n)
replied_open {b} i awake n h p =
    let k = i.core in
    let f = apart-mask n b.md p in
    let low = sends_low k (mask n) f (pow-lt h) in
    let more = or-within_l b.trs (mask n) in
    record {
      core =
          keep_trs k (bit_or b.trs (mask n)) (or_lt (senders b) _ _ k.low.trs low) (apart-or k.apart f) (within_trans k.of_request more)
          (λ s. more.has b.slot (k.slotted s).trs) (λ e. absurd (awake e));
      most = i.most;
      zero = i.zero;
    }
