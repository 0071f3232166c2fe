use Rattle.texts.specs.Text.{Put}
use Rattle.compare.specs.Terms.{bytes_from}
use Rattle.compare.proofs.put_differences.Given as goal

abbrev pub invariant-loop-i : goal.invariant-loop-i
invariant-loop-i l = Put l.initial.list l.at (bytes_from l.first l.second l.k l.i) l.list l.end
