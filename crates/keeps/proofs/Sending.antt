-- A start and its outcomes.
use Prim.Native.Nat.{ℕ, ◌+◌, ◌-◌, ◌^◌, ◌<◌, ◌≤◌}
use mathlib.Core.Path.{◌≡◌, refl}
use mathlib.Core.Bool.{true, not}
use mathlib.Core.Logic.{◌≢◌}
use native.Mathlib.Nat.{lt_of_le_of_lt}
use native.Mathlib.Omega.{arith}
use lib.Dec.{eqb, lit<, lit≤}
use lib.Bits.{bit_and, bit_or, or_lt}
use Rattle.bits.specs.Bit.{bit, flag, without}
use Rattle.bits.proofs.Sets.{Within, within_le, within_self, within-zero, within_trans, and-within_l, and-within_r, without-within, apart_less, without_lt}
use Rattle.registers.specs.declared.Block.{Block}
use Rattle.registers.specs.Block.{with_trs, with_trr, with_tec, with_slot, sleep, empty_slot, bus_off_at}
use Rattle.registers.specs.Writes.{slot_mask}
use Rattle.registers.specs.Modes.{at_most, on_bus}
use Rattle.registers.specs.Sending.{eligible, started, sent, aborting, failed}
use Rattle.good.proofs.Facts.{senders, Core, GoodBlock}
use Rattle.keeps.proofs.Words.{gif_lt, within-and, within_gone}
use Rattle.keeps.proofs.Slot.{empty-trr, slot_lt}
use Rattle.keeps.proofs.Keep.{keep_trs, keep_trr, keep_ta, keep_aa, keep_mbtif, keep_gif, keep_tec, keep_slot}
use Rattle.keeps.proofs.Open.{Open, still_open}
use Rattle.keeps.proofs.Modes.{at-most, bus_mode, bus_tec}

pub started_open : {b : Block} → GoodBlock b → b.slot ≡ empty_slot → on_bus b ≡ true → (n : ℕ) → n < 32 → bit (eligible b) n ≡ true
    → Open (started b n)
started_open {b} g empty on n h p =
    let k = g.core in
    let asks = bit_and b.trs b.mc in
    let may : Within (eligible b) asks = within_trans (without-within (without asks b.cdr) b.trr) (without-within asks b.cdr) in
    let q = may.has n p in
    still_open g refl
    (keep_slot k n (omega arith) (rw (empty-trr k empty) (within-zero (flag (not (eqb n empty_slot)) n)))
    (λ s.
    record {
      mode = bus_mode b on;
      tec = bus_tec b on;
      trs = (and-within_l b.trs b.mc).has n q;
      mc = (and-within_r b.trs b.mc).has n q;
    }))

-- an outcome ends the requests of x, all cancel bits among them, and moves TEC to t
ended : {b : Block} → Core b → b.slot ≢ empty_slot → (x t : ℕ) → Within b.trr x → t ≤ 256
    → Core (with_tec (with_trs (with_slot (with_trr b (without b.trr x)) empty_slot) (without b.trs x)) t)
ended {b} k full x t w h =
    let o = k.slotted full in
    let awake : b.mode ≢ sleep = λ s. let m = o.mode in absurd (omega arith) in
    let less = without-within b.trr x in
    keep_tec
    (keep_trs
    (keep_slot
    (keep_trr k (without b.trr x) (within_trans less k.at_slot) (within_trans less k.of_request))
    empty_slot (lit≤ tt) (within_gone 0 w) (λ n. absurd (n refl)))
    (without b.trs x) (without_lt x k.low.trs) (apart_less (without-within b.trs x) k.apart) (within_gone (without b.trs x) w)
    (λ n. absurd (n refl)) (λ s. absurd (awake s)))
    t h (λ n. absurd (n refl)) (λ e. o.mode) (λ l. let off = k.recovering l in let on = o.tec in absurd (omega arith)) (λ s. absurd (awake s))

pub sent_open : {b : Block} → GoodBlock b → b.slot ≢ empty_slot → Open (sent b)
unfolding sent
sent_open {b} g full =
    let k = g.core in
    let at = slot_mask b in
    let low = slot_lt k in
    still_open g refl
    (keep_mbtif
    (keep_ta (ended k full at (b.tec - 1) k.at_slot (omega (arith, k.ranges.tec))) (bit_or b.ta at) (or_lt (senders b) _ _ k.low.ta low))
    (bit_or b.mbtif (bit_and b.mbim at))
    (or_lt (senders b) _ _ k.low.mbtif (lt_of_le_of_lt (within_le (and-within_r b.mbim at)) low)))

pub failed_open : {b : Block} → GoodBlock b → b.slot ≢ empty_slot → (more : ℕ) → Open (failed b more)
unfolding failed
failed_open {b} g full more =
    let k = g.core in
    let at = aborting b in
    let low : at < 2 ^ senders b = lt_of_le_of_lt (within_le (and-within_l (slot_mask b) b.trr)) (slot_lt k) in
    still_open g refl
    (keep_gif
    (keep_aa
    (ended k full at (at_most bus_off_at (b.tec + more)) (within-and k.at_slot (within_self b.trr)) (at-most bus_off_at (b.tec + more)))
    (bit_or b.aa at) (or_lt (senders b) _ _ k.low.aa low))
    _ (gif_lt (not (eqb at 0)) 4 k.ranges.gif (lit< tt)))
