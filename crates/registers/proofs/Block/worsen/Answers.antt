use Prim.Native.Nat.{ℕ, ◌+◌}
use mathlib.Core.Path.{◌∙◌, ap₂}
use mathlib.Core.Bool.{Bool, cond}
use Rattle.registers.specs.Block.{with_rec}
use Rattle.registers.specs.Modes.{worsened}
use Rattle.registers.proofs.Counters.{min_at_most}
use Rattle.registers.proofs.Block.worsen.Goals as goal

pub returns : goal.returns
unfolding worsened
returns c =
    let b = c.args.self in
    let rec = c.choose.ensures ∙ ap₂ (λ (t : Bool) (r : ℕ). cond t r b.rec) c.is_on_bus.ensures (c.min.ensures ∙ min_at_most 255 (b.rec + c.args.v)) in
    λ i. with_rec b (rec i)
