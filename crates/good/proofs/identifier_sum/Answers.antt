use Rattle.good.proofs.Stretches.{identifier_test}
use borrow.Author.Rules.{rules}
use Rattle.good.proofs.identifier_sum.Goals as goal

pub returns : goal.returns
returns c = rw c.from.ensures (identifier_test c.args.w (search rules))
