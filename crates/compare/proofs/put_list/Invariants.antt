use Prim.Native.Nat.{◌*◌}
use Rattle.texts.specs.Text.{Put}
use Rattle.compare.specs.Compare.{differences_below, list_bytes}
use Rattle.compare.proofs.put_list.Given as goal

abbrev pub invariant-loop-four : goal.invariant-loop-four
invariant-loop-four l =
    Put l.initial.list 0 (list_bytes (differences_below l.first l.second (4 * l.four))) l.list l.at
