use mathlib.Core.Path.{◌∙◌, ap, ap₂}
use mathlib.Core.Bool.{Bool, true, cond}
use lib.Bits.{bit_or}
use Rattle.bits.specs.Bit.{without, flag}
use Rattle.registers.specs.Block.{with_rfp, with_gif}
use Rattle.registers.specs.Frames.{stored, flagged}
use Rattle.registers.proofs.Block.hold.Goals as goal

pub returns : goal.returns
unfolding stored
returns c =
    let b = c.args.self in
    let x = c.mask-x.ensures in
    let rfp = c.choose.ensures ∙ ap₂ (cond c.args.rtr) (ap (bit_or b.rfp) x) (c.without.ensures ∙ ap (without b.rfp) x) in
    let gif = ap₂ bit_or (ap (bit_or b.gif) (c.flag-lost.ensures ∙ ap (λ (t : Bool). flag t 5) c.test.ensures)) c.flag-remote.ensures in
    λ i. with_gif (with_rfp (flagged b (x i) true c.args.rtr) (rfp i)) (gif i)
