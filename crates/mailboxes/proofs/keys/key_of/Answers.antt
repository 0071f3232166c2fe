use Prim.Native.Nat.{ℕ, ◌+◌, ◌*◌, ◌^◌}
use mathlib.Core.Path.{◌∙◌, ap}
use mathlib.Core.Bool.{cond}
use Rattle.mailboxes.specs.Arbitration.{base, low, key_of}
use Rattle.mailboxes.proofs.keys.key_of.Goals as goal

pub returns : goal.returns
unfolding key_of
returns c =
    let a = c.args in
    let rest = c.choose.ensures ∙ ap (λ (f : ℕ). cond a.ide (low a.i * 2 + f) 0) c.flag.ensures in
    λ j. record { 0 = base a.i * 2 ^ 21 + c.flag-2.ensures j + c.flag-3.ensures j + rest j }
