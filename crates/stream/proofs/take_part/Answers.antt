use Rattle.stream.proofs.Parts.{seen_most, event-clean, stands, same_room, part-taken}
use Prim.Native.Nat.{ℕ, ◌-◌}
use mathlib.Core.Path.{◌≡◌, ◌∙◌, ap}
use lib.ListN.{length, drop}
use native.Mathlib.Omega.{arith}
use Rattle.stream.proofs.take_part.Goals as goal

pub take_bytes-p-requires : goal.take_bytes-p-requires
take_bytes-p-requires c =
    let a = c.args in
    let p = c.requires in
    let s = a.image.now in
    let t = a.state.now in
    let l = c.told-state in
    let k : length t - 16 ≡ 16 = omega arith in
    let r = c.load-r.ensures in
    let e = c.in-Some.ensures.cases.1.same ∙ ap (λ (n : ℕ). drop n t) k in
    (stands s t l p.0 r e (record { small = c.fits-state }), seen_most s t l p.0 r e, event-clean s t l p.0 r e, same_room s t l p.0 r e a.keeps a.part.now p.1)

pub returns : goal.returns
returns c =
    let a = c.args in
    let t = a.state.now in
    let k : length t - 16 ≡ 16 = omega arith in
    let e = c.in-Some.ensures.cases.1.same ∙ ap (λ (n : ℕ). drop n t) k in
    part-taken a.image.now t c.told-state c.requires.0 c.load-r.ensures e k c.take_bytes-p.ensures c.store.ensures
