use native.Mathlib.Omega.{arith}
use Rattle.trace.specs.Trace.{end_of}
use Rattle.trace.proofs.end_of.Goals as goal

pub returns : goal.returns
unfolding end_of
returns c = (omega arith, omega arith)
