use Prim.Native.Nat.{◌-◌}
use mathlib.Core.Path.{◌≡◌}
use lib.ListN.{drop}
use Rattle.stream.specs.Calls.{all_zero}
use Rattle.stream.proofs.is_zero_from.Given as goal

abbrev pub invariant-loop-i : goal.invariant-loop-i
invariant-loop-i l =
    all_zero (drop l.i l.state) ≡ all_zero (drop l.at l.state)

abbrev pub decreases-loop-i : goal.decreases-loop-i
decreases-loop-i l =
    32 - l.i
