use Prim.Native.Nat.{ℕ, ◌+◌}
use mathlib.Core.Path.{◌∙◌, ap}
use mathlib.Core.Bool.{not}
use lib.Dec.{eqb}
use lib.Bits.{bit_and, bit_or}
use Rattle.bits.specs.Bit.{without, flag}
use Rattle.registers.specs.Block.{with_trs, with_trr, with_aa, with_gif, with_tec, with_slot, empty_slot, bus_off_at}
use Rattle.registers.specs.Sending.{failed}
use Rattle.registers.proofs.Counters.{min_at_most}
use Rattle.registers.proofs.Block.fail.Goals as goal

pub returns : goal.returns
unfolding failed
returns c =
    let b = c.args.self in
    let x = ap (λ (m : ℕ). bit_and m b.trr) c.slot_mask.ensures in
    let trs = c.without.ensures ∙ ap (without b.trs) x in
    let trr = c.without-2.ensures ∙ ap (without b.trr) x in
    let aa = ap (bit_or b.aa) x in
    let gif = ap (bit_or b.gif) (c.flag.ensures ∙ ap (λ (m : ℕ). flag (not (eqb m 0)) 4) x) in
    let tec = c.min.ensures ∙ min_at_most bus_off_at (b.tec + c.args.more) in
    λ i. with_slot (with_tec (with_gif (with_aa (with_trr (with_trs b (trs i)) (trr i)) (aa i)) (gif i)) (tec i)) empty_slot
