use mathlib.Core.Path.{ap}
use lib.Bits.{bit_or}
use Rattle.registers.specs.Block.{with_trs}
use Rattle.registers.specs.Writes.{requested}
use Rattle.registers.proofs.Block.request.Goals as goal

pub returns : goal.returns
unfolding requested
returns c =
    let b = c.args.self in
    let trs = ap (bit_or b.trs) c.without.ensures in
    λ i. with_trs b (trs i)
