use Prim.Native.Nat.{◌+◌, ◌≤◌}
use mathlib.Core.Path.{sym, ◌∙◌}
use native.Mathlib.Omega.{arith}
use Rattle.bits.proofs.Below.{all_below_lem}
use Rattle.good.proofs.Stretches.{grown, spoilt}
use Rattle.good.proofs.gather.are_kept.Goals as goal

pub returns-then-not-is_kept : goal.returns-then-not-is_kept
returns-then-not-is_kept g c =
    let t = g.G.Gather in
    let l = c.loop-n in
    let e = c.eight in
    let room : l.n + 8 ≤ t.PLACES = omega (arith, g.met.G.Gather.eights) in
    sym (spoilt (t.rule _) t.PLACES l.n (l.n + 8) (t.kept e.result) e.ensures room (sym c.is_kept.ensures ∙ c.if-not-is_kept.true))

pub returns : goal.returns
returns g c =
    let t = g.G.Gather in
    let l = c.loop-n in
    sym (all_below_lem (t.rule _) t.PLACES (λ i h. l.invariant.2 i (omega arith)))

pub returns-else-not-is_kept : goal.returns-else-not-is_kept
returns-else-not-is_kept g c =
    let t = g.G.Gather in
    let l = c.loop-n in
    let e = c.eight in
    let below = grown (t.rule _) l.n (l.n + 8) (t.kept e.result) e.ensures (sym c.is_kept.ensures ∙ c.if-not-is_kept.false) l.invariant.2 in
    sym (all_below_lem (t.rule _) t.PLACES (λ i h. below i (omega arith)))
