use Rattle.trace.proofs.Runs.{Going}
use Rattle.trace.proofs.run_section.Given as goal

abbrev pub invariant-loop-i : goal.invariant-loop-i
invariant-loop-i l = Going l.events l.first l.initial.image l.initial.out l.at l.image l.out l.i l.place
