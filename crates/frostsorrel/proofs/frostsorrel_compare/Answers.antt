use native.Mathlib.Omega.{arith}
use Rattle.rules.proofs.Calls.{compare_call}
use Rattle.frostsorrel.proofs.frostsorrel_compare.Goals as goal

pub returns : goal.returns
returns c =
    compare_call _ _ _ _ _ (record { small = λ i. omega (arith, c.shared_slice_known-1.given i) })
    (record { small = λ i. omega (arith, c.shared_slice_known-2-1.given i) }) c.compare.ensures
