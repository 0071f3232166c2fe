use mathlib.Core.Path.{◌∙◌, ap}
use mathlib.Core.Bool.{Bool, cond}
use Rattle.registers.specs.Block.{with_gif, with_tso}
use Rattle.registers.specs.Writes.{noted}
use Rattle.registers.proofs.Block.note.Goals as goal

pub returns : goal.returns
unfolding noted
returns c =
    let b = c.args.self in
    let tso = c.choose.ensures ∙ ap (λ (t : Bool). cond t 0 b.tso) c.test.ensures in
    λ i. with_tso (with_gif b (c.without.ensures i)) (tso i)
