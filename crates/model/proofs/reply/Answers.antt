use mathlib.Core.Path.{◌∙◌, ap}
use Rattle.registers.specs.declared.Block.{Block}
use Rattle.registers.specs.Block.{put_block}
use Rattle.registers.specs.Frames.{replied}
use Rattle.filter.specs.declared.Delivery.TheVariants.{Reply}
use Rattle.model.specs.Step.{delivered, stowed}
use Rattle.model.proofs.Meets.{delivers}
use Rattle.model.proofs.reply.Goals as goal

pub returns : goal.returns
unfolding delivered stowed
returns c =
    let a = c.args in
    let s = a.image.now in
    let n = a.n in
    delivers s c.load.result c.load.ensures a.f (Reply n a.count)
    (c.store.ensures ∙ ap (put_block s) (c.reply.ensures ∙ ap (λ (y : Block). replied y n) c.listen.ensures))
    c.pack.ensures
