use mathlib.Core.Path.{◌∙◌, ap}
use Rattle.registers.specs.Block.{put_block}
use Rattle.filter.specs.declared.Delivery.TheVariants.{Nowhere}
use Rattle.model.specs.Step.{delivered, stowed}
use Rattle.model.proofs.Meets.{delivers}
use Rattle.model.proofs.miss.Goals as goal

pub returns : goal.returns
unfolding delivered stowed
returns c =
    let a = c.args in
    let s = a.image.now in
    delivers s c.load.result c.load.ensures a.f (Nowhere a.count)
    (c.store.ensures ∙ ap (put_block s) c.listen.ensures)
    c.pack.ensures
