use Prim.Native.Nat.{◌+◌, ◌%◌}
use mathlib.Core.Path.{◌∙◌, ap}
use mathlib.Core.Bool.{Bool, cond}
use Rattle.registers.specs.Block.{with_tec, with_rec, with_recovery}
use Rattle.registers.specs.Modes.{recessive}
use Rattle.registers.proofs.Block.recess.Goals as goal

pub returns : goal.returns
unfolding recessive
returns c =
    let b = c.args.self in
    let done = c.is_recovering-done.ensures in
    let tec = c.choose.ensures ∙ ap (λ (t : Bool). cond t 0 b.tec) done in
    let rec = c.choose-2.ensures ∙ ap (λ (t : Bool). cond t 0 b.rec) done in
    let recovery = c.choose-3.ensures ∙ ap (λ (t : Bool). cond t ((b.recovery + 1) % 128) b.recovery) c.is_bus_off-off.ensures in
    λ i. with_recovery (with_rec (with_tec b (tec i)) (rec i)) (recovery i)
