use mathlib.Core.Path.{sym, ◌∙◌}
use Rattle.registers.specs.Modes.{settled}
use Rattle.registers.proofs.Block.settle.Goals as goal

pub returns-then-is_ready : goal.returns-then-is_ready
unfolding settled
returns-then-is_ready c = rw (sym c.is_ready.ensures ∙ c.if-is_ready.true) c.enter.ensures

pub returns-else-is_ready : goal.returns-else-is_ready
unfolding settled
returns-else-is_ready c = rw (sym c.is_ready.ensures ∙ c.if-is_ready.false)
