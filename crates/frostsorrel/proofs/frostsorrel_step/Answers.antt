use native.Mathlib.Omega.{arith}
use Rattle.rules.proofs.Calls.{step_call}
use Rattle.frostsorrel.proofs.frostsorrel_step.Goals as goal

pub returns : goal.returns
returns c =
    step_call _ _ _ _ (record { small = λ i. omega (arith, c.slice_known-1.given i) })
    (record { small = λ i. omega (arith, c.shared_slice_known-1.given i) }) c.step.ensures
