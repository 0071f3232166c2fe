use Rattle.good.proofs.Masks.{bare-or}
use Rattle.good.proofs.PairGather.join.Goals as goal

pub returns : goal.returns
returns c = bare-or c.args.self.0 c.args.other.0
