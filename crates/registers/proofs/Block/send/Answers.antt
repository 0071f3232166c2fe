use Prim.Native.Nat.{ℕ}
use mathlib.Core.Path.{◌∙◌, ap}
use lib.Bits.{bit_and, bit_or}
use Rattle.bits.specs.Bit.{without}
use Rattle.registers.specs.Block.{with_trs, with_trr, with_ta, with_mbtif, with_tec, with_slot, empty_slot}
use Rattle.registers.specs.Sending.{sent}
use Rattle.registers.proofs.Block.send.Goals as goal

pub returns : goal.returns
unfolding sent
returns c =
    let b = c.args.self in
    let x = c.slot_mask-x.ensures in
    let trs = c.without.ensures ∙ ap (without b.trs) x in
    let trr = c.without-2.ensures ∙ ap (without b.trr) x in
    let ta = ap (bit_or b.ta) x in
    let mbtif = ap (λ (m : ℕ). bit_or b.mbtif (bit_and b.mbim m)) x in
    let tec = c.saturating_sub.ensures in
    λ i. with_slot (with_tec (with_mbtif (with_ta (with_trr (with_trs b (trs i)) (trr i)) (ta i)) (mbtif i)) (tec i)) empty_slot
