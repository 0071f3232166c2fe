use Prim.Native.Nat.{ℕ, ◌+◌}
use mathlib.Core.Path.{refl, sym, ◌∙◌, ap}
use mathlib.Core.List.{[], ◌∷◌}
use native.Mathlib.Omega.{arith}
use native.Mathlib.Numerals.{add-one}
use lib.ListN.{set, get_or, take}
use lib.Seq.{take-suc, length-take-le}
use Rattle.texts.specs.Text.{written}
use Rattle.texts.proofs.Writing.{written-append}
use Rattle.stream.proofs.put_behind.Goals as goal

pub loop-i-init : goal.loop-i-init
unfolding written
loop-i-init c = refl

pub loop-i-preserved : goal.loop-i-preserved
unfolding written
loop-i-preserved c =
    let l = c.loop-i in
    let a = c.args in
    let t = a.bytes.now in
    let o = a.event.now in
    ap (λ e. set e (a.seen + l.i) (get_or t l.i 0)) l.invariant
    ∙ ap (λ (n : ℕ). set (written o a.seen (take l.i t)) (a.seen + n) (get_or t l.i 0)) (sym (length-take-le l.i t (omega arith)))
    ∙ written-append o a.seen (take l.i t) (get_or t l.i 0 ∷ [])
    ∙ ap (written o a.seen) (sym (take-suc t l.i 0 (omega arith)))
    ∙ ap (λ (n : ℕ). written o a.seen (take n t)) (sym (add-one l.i))
