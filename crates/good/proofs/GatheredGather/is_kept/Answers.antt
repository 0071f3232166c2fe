use Prim.Native.Nat.{◌*◌, ◌/◌, ◌%◌}
use mathlib.Core.Path.{◌∙◌, ap}
use mathlib.Core.Bool.{Bool, ◌&&◌}
use lib.Dec.{ltb}
use Rattle.good.proofs.Stretches.{or-ltb, control_above}
use Rattle.good.proofs.GatheredGather.is_kept.Goals as goal

pub returns : goal.returns
returns c =
    let x = c.args.self in
    rw c.from.ensures (
    or-ltb 32 x.identifiers (x.controls / 32 % 2048 * 4294967296)
    ∙ ap (λ (t : Bool). ltb x.identifiers 4294967296 && t) (control_above x.controls)
    )
