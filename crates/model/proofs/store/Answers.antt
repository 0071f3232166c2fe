use mathlib.Core.Path.{◌∙◌, ap, ap₂}
use Rattle.registers.specs.declared.Block.{Block}
use Rattle.registers.specs.Block.{block_of, put_block}
use Rattle.registers.specs.Frames.{stored}
use Rattle.mailboxes.specs.Mailbox.{mailbox, with_mailbox}
use Rattle.mailboxes.specs.Filing.{filed}
use Rattle.filter.specs.declared.Delivery.TheVariants.{Into}
use Rattle.model.specs.Step.{delivered, stowed}
use Rattle.model.proofs.Meets.{delivers}
use Rattle.model.proofs.Beside.{filed_beside}
use Rattle.model.proofs.store.Goals as goal

pub returns : goal.returns
unfolding delivered stowed
returns c =
    let a = c.args in
    let s = a.image.now in
    let n = a.n in
    let f = a.f in
    let filing = c.put_frame.ensures in
    let beside = filed_beside s n c.told-image c.requires.2 f.ide f.rtr f.id f.dlc f.bytes c.load-stamp.result.tsc in
    let boxes = filing ∙ ap (λ (y : Block). with_mailbox s n (filed (mailbox s n) f.ide f.rtr f.id f.dlc f.bytes y.tsc)) c.load-stamp.ensures in
    delivers s c.load.result (c.load.ensures ∙ ap block_of filing ∙ beside.block) f (Into n a.count)
    (c.store.ensures ∙ ap₂ put_block boxes (c.hold.ensures ∙ ap (λ (y : Block). stored y n f.rtr) c.listen.ensures))
    c.pack.ensures
