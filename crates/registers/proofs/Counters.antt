-- A counter that stops: the smaller of two numbers.
use Prim.Native.Nat.{ℕ, min}
use mathlib.Core.Path.{◌≡◌}
use native.Mathlib.Omega.{arith}
use Rattle.std.proofs.lemmas.Bool.Decides.{nat_tests}
use Rattle.registers.specs.Modes.{at_most}

pub min_at_most : (k x : ℕ) → min x k ≡ at_most k x
min_at_most k x = grind (arith, nat_tests)
