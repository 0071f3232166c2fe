use native.Mathlib.Omega.{arith}
use Rattle.trace.specs.Trace.{count_at}
use Rattle.trace.proofs.count_at.Goals as goal

pub returns : goal.returns
unfolding count_at
returns c = (omega arith, omega arith)
