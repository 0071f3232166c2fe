use Rattle.registers.specs.Block.{with_waiting}
use Rattle.registers.specs.Modes.{asked}
use Rattle.registers.proofs.Block.ask.Goals as goal

pub returns : goal.returns
unfolding asked
returns c = λ i. with_waiting c.args.self (c.choose.ensures i)
