use Rattle.stream.proofs.Leaving.{no_room, printed-there, fresh-there, nothing-gathered}
use mathlib.Core.Path.{◌∙◌}
use Rattle.registers.specs.Block.{can_b}
use Rattle.fresh.specs.Fresh.{fresh_image}
use Rattle.trace.specs.Trace.{header}
use Rattle.stream.specs.Stream.{opened}
use native.Mathlib.Omega.{arith}
use Rattle.stream.proofs.begin.Goals as goal

pub returns-then-text-lt24 : goal.returns-then-text-lt24
returns-then-text-lt24 c =
    let a = c.args in
    no_room a.image.now a.state.now a.text.now opened header 0 (omega arith) c.refuse.ensures

pub returns : goal.returns
returns c =
    let a = c.args in
    printed-there a.image.now a.state.now a.text.now opened header 0 (omega arith) (fresh-there a.image.now a.state.now a.text.now (omega arith) c.fresh.ensures) (c.restart.ensures ∙ nothing-gathered 1 (fresh_image can_b)) c.put_header.ensures c.pack.ensures
