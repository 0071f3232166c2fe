use Prim.Native.Nat.{◌≤◌}
use Rattle.stream.proofs.Bytewise.{alone, none_left, over-bytes, behind-text, behind-byte, one_at_most, still_zeros, count_room, count-byte, inside}
use mathlib.Core.Path.{ap}
use lib.ListN.{length, get_or}
use native.Mathlib.Omega.{arith}
use Rattle.stream.proofs.take_some.Goals as goal

pub returns-then-r-eq-OVER : goal.returns-then-r-eq-OVER
returns-then-r-eq-OVER c =
    let a = c.args in
    let p = c.requires in
    over-bytes a.r a.event.now a.image.now p.0 (omega arith) a.bytes.now a.out.now p.4 c.if-r-eq-OVER.true c.wait.ensures.0 c.wait.ensures.1 (omega (arith, p.1, p.2))

pub fault-requires : goal.fault-requires
fault-requires c =
    let a = c.args in
    let p = c.requires in
    let h = c.if-r-eq-BEHIND.true in
    let z = none_left a.r a.event.now a.image.now p.0 (omega arith) h in
    let t = behind-text a.r a.event.now a.image.now p.0 (omega arith) (omega (arith, p.1, p.2)) (get_or a.bytes.now 0 0) (alone a.bytes.now (p.3 z)) a.out.now a.place h in
    omega (arith, ap length t, p.5)

pub returns-then-r-eq-BEHIND : goal.returns-then-r-eq-BEHIND
returns-then-r-eq-BEHIND c =
    let a = c.args in
    let p = c.requires in
    let h = c.if-r-eq-BEHIND.true in
    let z = none_left a.r a.event.now a.image.now p.0 (omega arith) h in
    behind-byte a.r a.event.now a.image.now p.0 (omega arith) (omega (arith, p.1, p.2)) (get_or a.bytes.now 0 0) (alone a.bytes.now (p.3 z)) a.out.now a.place p.4 h c.fault.ensures.0 c.fault.ensures.1

pub count-requires : goal.count-requires
count-requires c =
    let a = c.args in
    let p = c.requires in
    let i = inside a.r a.event.now a.image.now p.0 (omega arith) (λ z. omega arith) (λ z. omega arith) in
    let f : a.r.seen ≤ 15 = omega (arith, p.1, p.2) in
    let x = get_or a.bytes.now 0 0 in
    let b = alone a.bytes.now (p.3 (omega arith)) in
    let m = one_at_most a.r a.event.now a.image.now p.0 (omega arith) f (λ z. omega arith) (omega arith) in
    (i, m, still_zeros a.r a.event.now a.image.now p.0 (omega arith) f x b a.out.now a.place p.4, count_room a.r a.event.now a.image.now p.0 (omega arith) f x b a.out.now a.place i (omega arith) m p.5)

pub returns : goal.returns
returns c =
    let a = c.args in
    let p = c.requires in
    count-byte a.r a.event.now a.image.now p.0 (omega arith) (omega (arith, p.1, p.2)) (get_or a.bytes.now 0 0) (alone a.bytes.now (p.3 (omega arith))) a.out.now a.place (inside a.r a.event.now a.image.now p.0 (omega arith) (λ z. omega arith) (λ z. omega arith)) (omega arith) c.count.ensures
