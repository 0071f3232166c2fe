use Rattle.mailboxes.specs.Filing.{stamped}
use Rattle.mailboxes.proofs.Laws.{lent}
use Rattle.mailboxes.proofs.filing.put_stamp.Goals as goal

pub returns : goal.returns
returns c =
    let a = c.args in
    lent a.s.now a.n (λ m. stamped m a.tsc) _ c.stamp.ensures
