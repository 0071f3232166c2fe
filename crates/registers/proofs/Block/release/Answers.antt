use Rattle.registers.specs.Block.{with_rmp, with_rml, with_rfp}
use Rattle.registers.specs.Writes.{released}
use Rattle.registers.proofs.Block.release.Goals as goal

pub returns : goal.returns
unfolding released
returns c = λ i. with_rfp (with_rml (with_rmp c.args.self (c.without.ensures i)) (c.without-2.ensures i)) (c.without-3.ensures i)
