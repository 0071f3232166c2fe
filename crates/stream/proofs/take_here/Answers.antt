use Rattle.stream.proofs.Judging.{fit}
use Rattle.stream.proofs.Leaving.{counts_fit, part-there}
use Rattle.words.specs.Bytes.{Bytes}
use native.Mathlib.Omega.{arith}
use mathlib.Core.Path.{refl}
use Rattle.stream.proofs.take_here.Goals as goal

pub answer-requires : goal.answer-requires
answer-requires c =
    let a = c.args in
    let k = fit a.image.now a.state.now (omega arith) (omega arith) c.requires.0 in
    let b : Bytes a.state.now = record { small = c.fits-state } in
    let d : Bytes a.part.now = record { small = λ i. omega (arith, c.type_inv.part i) } in
    counts_fit k b a.part.now a.text.now d c.take_part.ensures

pub returns : goal.returns
returns c =
    let a = c.args in
    let k = fit a.image.now a.state.now (omega arith) (omega arith) c.requires.0 in
    let b : Bytes a.state.now = record { small = c.fits-state } in
    let d : Bytes a.part.now = record { small = λ i. omega (arith, c.type_inv.part i) } in
    let w = c.take_part.ensures in
    part-there k b a.part.now a.text.now d w c.requires.1 (record { bytes = w.text refl; behind = refl }) c.answer.ensures
