use Prim.Native.Nat.{ℕ, ◌+◌}
use lib.Dec.{leb}
use mathlib.Core.Bool.{◌&&◌}
use mathlib.Core.Path.{◌∙◌, ap}
use Rattle.trace.specs.Trace.{placed}
use mathlib.Core.Bool.{Bool}
use Rattle.trace.specs.Trace.{sound}
use Rattle.trace.proofs.is_sound.Goals as goal

pub returns : goal.returns
unfolding sound
returns c =
    let f = c.args.file.now in
    let k = c.args.k in
    let a = c.args.at in
    let n = c.count_at-n.ensures.0 in
    ap (λ (x : Bool). leb c.count_at-n.result 1000 && x) c.is_placed.ensures
    ∙ ap (λ (x : ℕ). leb x 1000 && placed k f (a + 2) x) n
