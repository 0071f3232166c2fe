use Prim.Native.Nat.{ℕ}
use mathlib.Core.Path.{◌∙◌, ap}
use mathlib.Core.Bool.{not}
use lib.Dec.{eqb}
use lib.Bits.{bit_and, bit_or}
use Rattle.bits.specs.Bit.{without, flag}
use Rattle.registers.specs.Block.{with_trs, with_trr, with_aa, with_gif}
use Rattle.registers.specs.Writes.{cancelled}
use Rattle.registers.proofs.Block.cancel.Goals as goal

pub returns : goal.returns
unfolding cancelled
returns c =
    let b = c.args.self in
    let named = bit_and c.args.v b.trs in
    let slot = c.slot_mask-slot.ensures in
    let ending = c.without-ending.ensures ∙ ap (without named) slot in
    let trr = ap (λ (m : ℕ). bit_or b.trr (bit_and named m)) slot in
    let trs = c.without.ensures ∙ ap (without b.trs) ending in
    let aa = ap (bit_or b.aa) ending in
    let gif = ap (bit_or b.gif) (c.flag.ensures ∙ ap (λ (m : ℕ). flag (not (eqb m 0)) 4) ending) in
    λ i. with_gif (with_aa (with_trs (with_trr b (trr i)) (trs i)) (aa i)) (gif i)
