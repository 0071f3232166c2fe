use Prim.Native.Nat.{ℕ}
use mathlib.Core.Path.{◌∙◌, ap, ap₂}
use mathlib.Core.Bool.{Bool, cond}
use lib.Bits.{bit_or}
use Rattle.bits.specs.Bit.{flag}
use Rattle.registers.specs.Block.{with_rec, with_mode, with_gif, normal}
use Rattle.registers.specs.Frames.{listened}
use Rattle.registers.proofs.Block.listen.Goals as goal

pub returns : goal.returns
unfolding listened
returns c =
    let b = c.args.self in
    let wakes = c.is_wakened-wakes.ensures in
    let rec = c.choose.ensures ∙ ap₂ (λ (t : Bool) (r : ℕ). cond t r b.rec) c.is_on_bus.ensures c.fallen.ensures in
    let mode = c.choose-2.ensures ∙ ap (λ (t : Bool). cond t normal b.mode) wakes in
    let gif = ap (bit_or b.gif) (c.flag.ensures ∙ ap (λ (t : Bool). flag t 6) wakes) in
    λ i. with_gif (with_mode (with_rec b (rec i)) (mode i)) (gif i)
