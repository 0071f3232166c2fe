use Rattle.trace.proofs.Runs.{ended, its_room, turned}
use Rattle.trace.proofs.run_section.Goals as goal

pub run_event-place-requires : goal.run_event-place-requires
run_event-place-requires c = its_room c.loop-i.invariant c.loop-i-test.true c.loop-i.auto.out c.requires.2

pub loop-i-preserved : goal.loop-i-preserved
loop-i-preserved c = turned c.loop-i.invariant c.loop-i-test.true c.run_event-place.ensures.0 c.run_event-place.ensures.1

pub returns : goal.returns
returns c = ended c.loop-i.invariant c.loop-i-test.false
