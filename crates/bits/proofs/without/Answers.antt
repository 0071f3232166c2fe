use native.Mathlib.Omega.{arith}
use Rattle.bits.proofs.Laws.{and-not}
use Rattle.bits.proofs.without.Goals as goal

pub returns : goal.returns
returns c = and-not c.args.w c.args.v (omega arith) (omega arith)
