use Prim.Native.Nat.{◌-◌, ◌^◌, ◌<◌}
use Rattle.bits.specs.Bit.{bit}
use Rattle.bits.specs.Below.{first_below}
use Rattle.sending.proofs.Choice.{Left}
use Rattle.sending.proofs.smallest.Given as goal

abbrev pub invariant-loop-n : goal.invariant-loop-n
invariant-loop-n l = (l.rest < 2 ^ 32) × (Left l.s l.w l.rest l.best)

abbrev pub decreases-loop-n : goal.decreases-loop-n
decreases-loop-n l = 32 - first_below (bit l.rest) 32
