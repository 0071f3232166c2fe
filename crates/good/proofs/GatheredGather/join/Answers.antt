use Prim.Native.Nat.{◌^◌}
use mathlib.Core.Path.{◌∙◌, ap₂}
use mathlib.Core.Bool.{◌&&◌}
use lib.Dec.{ltb}
use Rattle.mailboxes.specs.Mailbox.{word_layout}
use Rattle.good.proofs.Stretches.{or-ltb, or_control, interchange}
use Rattle.good.proofs.GatheredGather.join.Goals as goal

pub returns : goal.returns
returns c =
    let x = c.args.self in
    let y = c.args.other in
    ap₂ ◌&&◌ (or-ltb 32 x.identifiers y.identifiers) (or_control x.controls y.controls)
    ∙ interchange (ltb x.identifiers (2 ^ 32)) (ltb y.identifiers (2 ^ 32)) (word_layout 1 x.controls) (word_layout 1 y.controls)
