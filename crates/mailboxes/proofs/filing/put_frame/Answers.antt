use Rattle.mailboxes.specs.Filing.{filed}
use Rattle.mailboxes.proofs.Laws.{lent}
use Rattle.mailboxes.proofs.filing.put_frame.Goals as goal

pub returns : goal.returns
returns c =
    let a = c.args in
    lent a.s.now a.n (λ m. filed m a.ide a.rtr a.i a.dlc a.bytes a.tsc) _ c.file.ensures
