use mathlib.Core.Path.{◌∙◌, ap₂}
use mathlib.Core.Bool.{Bool}
use lib.Bits.{bit_or}
use Rattle.bits.specs.Bit.{flag}
use Rattle.registers.specs.Block.{with_gif}
use Rattle.registers.specs.Modes.{risen, rises}
use Rattle.registers.specs.Modes.{risen}
use Rattle.registers.proofs.Block.rise.Goals as goal

pub returns : goal.returns
unfolding risen
returns c =
    let b = c.args.self in
    let off = c.flag-off.ensures ∙ ap₂ (λ (was is : Bool). flag (rises was is) 2) c.is_bus_off-2.ensures c.is_bus_off.ensures in
    let passive = c.flag-passive.ensures ∙ ap₂ (λ (was is : Bool). flag (rises was is) 1) c.is_passive-2.ensures c.is_passive.ensures in
    let warned = c.flag-warned.ensures ∙ ap₂ (λ (was is : Bool). flag (rises was is) 0) c.is_warned-2.ensures c.is_warned.ensures in
    λ i. with_gif b (bit_or (bit_or (bit_or b.gif (off i)) (passive i)) (warned i))
