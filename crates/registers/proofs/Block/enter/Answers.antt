use mathlib.Core.Path.{◌∙◌, ap}
use mathlib.Core.Bool.{Bool, ◌&&◌}
use lib.Dec.{eqb}
use lib.Bits.{bit_or}
use Rattle.bits.specs.Bit.{flag}
use Rattle.registers.specs.Block.{with_trs, with_trr, with_gif, with_tec, with_rec, with_mode, with_waiting, normal, no_mode}
use Rattle.registers.specs.Modes.{entered}
use Rattle.registers.proofs.Block.enter.Goals as goal

pub returns : goal.returns
unfolding entered
returns c =
    let b = c.args.self in
    let trs = c.choose.ensures in
    let trr = c.choose-2.ensures in
    let tec = c.choose-3.ensures in
    let rec = c.choose-4.ensures in
    let gif = ap (bit_or b.gif) (c.flag.ensures ∙ ap (λ (t : Bool). flag (t && eqb b.waiting normal) 6) c.is_asleep.ensures) in
    λ i. with_gif (with_rec (with_tec (with_trr (with_trs (with_waiting (with_mode b b.waiting) no_mode) (trs i)) (trr i)) (tec i)) (rec i)) (gif i)
