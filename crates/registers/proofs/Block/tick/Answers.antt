use Prim.Native.Nat.{◌+◌, ◌%◌}
use mathlib.Core.Path.{◌∙◌, ap}
use mathlib.Core.Bool.{Bool, cond}
use lib.Bits.{bit_or}
use Rattle.bits.specs.Bit.{flag}
use Rattle.registers.specs.Block.{with_tsc, with_tso, with_gif}
use Rattle.registers.specs.Modes.{ticked}
use Rattle.registers.proofs.Block.tick.Goals as goal

pub returns : goal.returns
unfolding ticked
returns c =
    let b = c.args.self in
    let over = c.is_overflowing-over.ensures in
    let tsc = c.choose.ensures ∙ ap (λ (t : Bool). cond t b.tsc ((b.tsc + 1) % 65536)) c.is_asleep.ensures in
    let tso = c.choose-2.ensures ∙ ap (λ (t : Bool). cond t 1 b.tso) over in
    let gif = ap (bit_or b.gif) (c.flag.ensures ∙ ap (λ (t : Bool). flag t 3) over) in
    λ i. with_gif (with_tso (with_tsc b (tsc i)) (tso i)) (gif i)
