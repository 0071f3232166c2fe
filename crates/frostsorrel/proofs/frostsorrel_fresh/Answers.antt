use Rattle.rules.proofs.Calls.{fresh_call}
use Rattle.frostsorrel.proofs.frostsorrel_fresh.Goals as goal

pub returns : goal.returns
returns c = fresh_call _ _ _ _ c.fresh.ensures
