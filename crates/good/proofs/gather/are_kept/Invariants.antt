use Prim.Native.Nat.{ℕ, ◌%◌, ◌<◌, ◌≤◌}
use mathlib.Core.Path.{◌≡◌}
use mathlib.Core.Bool.{true}
use Rattle.good.proofs.gather.are_kept.Given as goal

abbrev pub invariant-loop-n : goal.invariant-loop-n
invariant-loop-n g l = (l.n ≤ g.G.Gather.PLACES) × (l.n % 8 ≡ 0) × ((i : ℕ) → i < l.n → g.G.Gather.rule l.s i ≡ true)
