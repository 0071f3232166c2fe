use native.Mathlib.Omega.{arith}
use Rattle.rules.proofs.Calls.{read_call}
use Rattle.frostsorrel.proofs.frostsorrel_read.Goals as goal

pub returns : goal.returns
returns c = read_call _ _ _ (record { small = λ i. omega (arith, c.shared_slice_known-1.given i) }) c.read.ensures
