use Rattle.stream.proofs.Judging.{fit}
use Rattle.stream.proofs.Leaving.{can_stand, counts_fit, part_undone, part_copied}
use Rattle.words.specs.Bytes.{Bytes}
use native.Mathlib.Omega.{arith}
use Rattle.stream.proofs.Ready.{printed-fits}
use Rattle.stream.specs.Calls.{standing}
use mathlib.Core.Path.{refl, sym}
use lib.Seq.{length-take-le}
use Rattle.stream.proofs.take_short.Goals as goal

pub take_part-p-requires : goal.take_part-p-requires
take_part-p-requires c =
    let a = c.args in
    let k = fit a.image.now a.state.now (omega arith) (omega arith) c.requires.0 in
    let b : Bytes a.state.now = record { small = c.fits-state } in
    let d : Bytes a.part.now = record { small = λ i. omega (arith, c.type_inv.part i) } in
    let f = printed-fits (standing a.image.now a.state.now) (can_stand k b) a.part.now d in
    (k.left, omega (arith, f, c.requires.1))

pub returns-then-text-n : goal.returns-then-text-n
returns-then-text-n c =
    let a = c.args in
    let k = fit a.image.now a.state.now (omega arith) (omega arith) c.requires.0 in
    let b : Bytes a.state.now = record { small = c.fits-state } in
    let w = c.take_part-p in
    part_undone k b a.part.now a.text.now (omega (arith, c.if-text-n.true, w.ensures.counted)) refl refl c.refuse.ensures

pub slice_bounds-made-end : goal.slice_bounds-made-end
slice_bounds-made-end c =
    let a = c.args in
    let k = fit a.image.now a.state.now (omega arith) (omega arith) c.requires.0 in
    let b : Bytes a.state.now = record { small = c.fits-state } in
    let d : Bytes a.part.now = record { small = λ i. omega (arith, c.type_inv.part i) } in
    let f = printed-fits (standing a.image.now a.state.now) (can_stand k b) a.part.now d in
    let w = c.take_part-p in
    omega (arith, f, c.requires.1, w.ensures.counted, w.auto.out)

pub slice_bounds-put_text-end : goal.slice_bounds-put_text-end
slice_bounds-put_text-end c =
    let a = c.args in
    let k = fit a.image.now a.state.now (omega arith) (omega arith) c.requires.0 in
    let b : Bytes a.state.now = record { small = c.fits-state } in
    let d : Bytes a.part.now = record { small = λ i. omega (arith, c.type_inv.part i) } in
    let f = printed-fits (standing a.image.now a.state.now) (can_stand k b) a.part.now d in
    let w = c.take_part-p in
    sym (length-take-le w.result.length w.new.out (omega (arith, f, c.requires.1, w.ensures.counted, w.auto.out)))

pub put_text-requires : goal.put_text-requires
put_text-requires c =
    let a = c.args in
    let k = fit a.image.now a.state.now (omega arith) (omega arith) c.requires.0 in
    let b : Bytes a.state.now = record { small = c.fits-state } in
    let d : Bytes a.part.now = record { small = λ i. omega (arith, c.type_inv.part i) } in
    let f = printed-fits (standing a.image.now a.state.now) (can_stand k b) a.part.now d in
    let w = c.take_part-p in
    omega (arith, length-take-le w.result.length w.new.out (omega (arith, f, c.requires.1, w.ensures.counted, w.auto.out)), c.if-text-n.false)

pub answer-requires : goal.answer-requires
answer-requires c =
    let a = c.args in
    let k = fit a.image.now a.state.now (omega arith) (omega arith) c.requires.0 in
    let b : Bytes a.state.now = record { small = c.fits-state } in
    let d : Bytes a.part.now = record { small = λ i. omega (arith, c.type_inv.part i) } in
    counts_fit k b a.part.now a.text.now d c.take_part-p.ensures

pub returns : goal.returns
returns c =
    let a = c.args in
    let k = fit a.image.now a.state.now (omega arith) (omega arith) c.requires.0 in
    let b : Bytes a.state.now = record { small = c.fits-state } in
    let d : Bytes a.part.now = record { small = λ i. omega (arith, c.type_inv.part i) } in
    let f = printed-fits (standing a.image.now a.state.now) (can_stand k b) a.part.now d in
    let w = c.take_part-p.ensures in
    part_copied k b a.part.now a.text.now d w refl (omega (arith, f, c.requires.1)) (omega (arith, c.if-text-n.false, w.counted)) c.put_text.ensures c.answer.ensures
