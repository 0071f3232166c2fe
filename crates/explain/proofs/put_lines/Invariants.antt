use Prim.Native.Nat.{ℕ, ◌<◌}
use mathlib.Core.Path.{◌≡◌}
use mathlib.Core.Bool.{false}
use Rattle.texts.specs.Text.{Put}
use Rattle.registers.specs.Block.{block_of}
use Rattle.filter.specs.Filter.{seat}
use Rattle.explain.specs.Explain.{lines_below, list_bytes}
use Rattle.explain.specs.Terms.{reason_by}
use Rattle.explain.proofs.Lines.{matched_at}
use Rattle.explain.proofs.put_lines.Given as goal

abbrev pub invariant-loop-k : goal.invariant-loop-k
invariant-loop-k l =
    Put l.initial.list 0 (list_bytes (lines_below (seat (block_of l.m.image.now)) (reason_by l.m.image.now l.f) l.k)) l.list l.at
    × ((j : ℕ) → j < l.k → matched_at (seat (block_of l.m.image.now)) (reason_by l.m.image.now l.f) j ≡ false)
