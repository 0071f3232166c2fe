use Prim.Native.Nat.{◌+◌, ◌≤◌}
use Rattle.good.specs.Gathered.{Stretch}
use Rattle.good.proofs.gather.eight.Given as goal

abbrev pub invariant-loop-k : goal.invariant-loop-k
invariant-loop-k g l = (l.k ≤ 8) × Stretch (g.G.Gather.rule l.s) l.n (l.n + l.k) (g.G.Gather.kept l.all)
