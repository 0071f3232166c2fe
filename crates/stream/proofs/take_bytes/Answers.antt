use Rattle.stream.proofs.Loops.{begun, ended, some-there, piece_room, below, taken}
use Prim.Native.Nat.{◌≤◌}
use mathlib.Core.Path.{sym, ◌∙◌}
use lib.ListN.{length as size}
use borrow.Author.Tests.{eqb-true, eqb-false}
use native.Mathlib.Omega.{arith}
use Rattle.stream.proofs.take_bytes.Goals as goal

pub loop-rest-init : goal.loop-rest-init
loop-rest-init c =
    let a = c.args in
    let p = c.requires in
    begun a.keeps a.r a.part.now a.out.now a.event.now a.image.now p.0 p.1 p.2 p.3 (record { small = λ i. omega (arith, c.type_inv.part i) })

pub take_some-t-requires : goal.take_some-t-requires
take_some-t-requires c =
    let g = c.loop-rest.invariant in
    let p = c.split_at.ensures in
    let z = eqb-false _ _ (sym c.is_empty.ensures ∙ c.loop-rest-test.true) in
    let some : 1 ≤ size c.loop-rest.rest.now = omega (arith, z) in
    let n = some-there g some c.at_once.ensures in
    let m = p.front_len in
    (g.ready, omega (arith, m, n.2), omega (arith, m, n.0), λ z. m ∙ n.3 z, g.clean, piece_room g some c.at_once.ensures p.front p.back c.place_of-place.ensures)

pub overflow_add-length : goal.overflow_add-length
overflow_add-length c =
    let g = c.loop-rest.invariant in
    let p = c.split_at.ensures in
    let z = eqb-false _ _ (sym c.is_empty.ensures ∙ c.loop-rest-test.true) in
    let some : 1 ≤ size c.loop-rest.rest.now = omega (arith, z) in
    record { fits = omega (arith, below g some c.at_once.ensures p.front p.back c.place_of-place.ensures c.take_some-t.ensures) }

pub loop-rest-preserved : goal.loop-rest-preserved
loop-rest-preserved c =
    let g = c.loop-rest.invariant in
    let p = c.split_at.ensures in
    let z = eqb-false _ _ (sym c.is_empty.ensures ∙ c.loop-rest-test.true) in
    let some : 1 ≤ size c.loop-rest.rest.now = omega (arith, z) in
    taken g some c.at_once.ensures p.front p.back c.place_of-place.ensures c.take_some-t.ensures c.take_some-t.auto.out

pub returns : goal.returns
returns c = ended c.loop-rest.invariant (eqb-true _ _ (sym c.is_empty.ensures ∙ c.loop-rest-test.false))
