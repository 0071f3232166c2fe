use Rattle.mailboxes.specs.Mailbox.{layout}
use Rattle.good.proofs.GatheredGather.one.Goals as goal

pub returns : goal.returns
unfolding layout
returns c = cc
