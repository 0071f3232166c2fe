use Rattle.stream.proofs.Loops.{Going}
use lib.ListN.{length as size}
use Rattle.stream.specs.Terms.{standing_by}
use Rattle.stream.proofs.take_bytes.Given as goal

abbrev pub invariant-loop-rest : goal.invariant-loop-rest
invariant-loop-rest l = Going l.keeps (standing_by l.initial.reader l.initial.event l.initial.image) l.part l.initial.out l.event l.image l.out l.reader l.length l.rest

abbrev pub decreases-loop-rest : goal.decreases-loop-rest
decreases-loop-rest l = size l.rest
