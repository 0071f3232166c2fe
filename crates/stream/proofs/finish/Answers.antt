use Rattle.stream.proofs.Judging.{fit}
use Rattle.stream.proofs.Leaving.{steps-most, last-most, last_no_room, last-there}
use mathlib.Core.Path.{sym, refl}
use lib.Seq.{length-take-le}
use Rattle.words.specs.Bytes.{Bytes}
use native.Mathlib.Omega.{arith}
use Rattle.stream.proofs.finish.Goals as goal

pub put_last_line-n-requires : goal.put_last_line-n-requires
put_last_line-n-requires c =
    let a = c.args in
    let k = fit a.image.now a.state.now (omega arith) (omega arith) c.requires in
    let b : Bytes a.state.now = record { small = c.fits-state } in
    let r = c.load-r in
    steps-most k b r.result r.ensures

pub returns-then-text-n : goal.returns-then-text-n
returns-then-text-n c =
    let a = c.args in
    let k = fit a.image.now a.state.now (omega arith) (omega arith) c.requires in
    let b : Bytes a.state.now = record { small = c.fits-state } in
    let r = c.load-r in
    last_no_room k b r.result r.ensures c.put_last_line-n.ensures c.if-text-n.true c.refuse.ensures

pub slice_bounds-line-end : goal.slice_bounds-line-end
slice_bounds-line-end c =
    let a = c.args in
    let k = fit a.image.now a.state.now (omega arith) (omega arith) c.requires in
    let b : Bytes a.state.now = record { small = c.fits-state } in
    let r = c.load-r in
    omega (arith, last-most k b r.result r.ensures c.put_last_line-n.ensures, c.put_last_line-n.auto.line)

pub slice_bounds-put_text-end : goal.slice_bounds-put_text-end
slice_bounds-put_text-end c =
    let a = c.args in
    let k = fit a.image.now a.state.now (omega arith) (omega arith) c.requires in
    let b : Bytes a.state.now = record { small = c.fits-state } in
    let r = c.load-r in
    let l = c.put_last_line-n in
    sym (length-take-le l.result l.new.line (omega (arith, last-most k b r.result r.ensures l.ensures, l.auto.line)))

pub put_text-requires : goal.put_text-requires
put_text-requires c =
    let a = c.args in
    let k = fit a.image.now a.state.now (omega arith) (omega arith) c.requires in
    let b : Bytes a.state.now = record { small = c.fits-state } in
    let r = c.load-r in
    let l = c.put_last_line-n in
    omega (arith, length-take-le l.result l.new.line (omega (arith, last-most k b r.result r.ensures l.ensures, l.auto.line)), c.if-text-n.false)

pub overflow_cast-n : goal.overflow_cast-n
overflow_cast-n c =
    let a = c.args in
    let k = fit a.image.now a.state.now (omega arith) (omega arith) c.requires in
    let b : Bytes a.state.now = record { small = c.fits-state } in
    let r = c.load-r in
    record { fits = omega (arith, last-most k b r.result r.ensures c.put_last_line-n.ensures) }

pub returns : goal.returns
returns c =
    let a = c.args in
    let k = fit a.image.now a.state.now (omega arith) (omega arith) c.requires in
    let b : Bytes a.state.now = record { small = c.fits-state } in
    let r = c.load-r in
    last-there k b r.result r.ensures c.put_last_line-n.ensures (omega arith) refl c.restart.ensures c.put_text.ensures (rw c.number.ensures at c.choose.ensures) c.pack.ensures
