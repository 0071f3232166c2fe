use mathlib.Core.Path.{sym, ◌∙◌, ap}
use mathlib.Core.Bool.{Bool, cond}
use Rattle.bits.specs.Bit.{set_bit}
use Rattle.registers.specs.Writes.{direction}
use Rattle.registers.proofs.Block.direction.Goals as goal

pub returns-then-is_ecan : goal.returns-then-is_ecan
unfolding direction
returns-then-is_ecan c =
    let v = c.args.v in
    ap (λ (t : Bool). cond t v (set_bit v 31)) (sym c.if-is_ecan.true ∙ c.is_ecan.ensures)

pub returns-else-is_ecan : goal.returns-else-is_ecan
unfolding direction
returns-else-is_ecan c =
    let v = c.args.v in
    c.set.ensures ∙ ap (λ (t : Bool). cond t v (set_bit v 31)) (sym c.if-is_ecan.false ∙ c.is_ecan.ensures)
