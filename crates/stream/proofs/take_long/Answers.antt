use Rattle.stream.proofs.Judging.{fit}
use Rattle.stream.proofs.Leaving.{part_undone}
use Rattle.words.specs.Bytes.{Bytes}
use native.Mathlib.Omega.{arith}
use mathlib.Core.Path.{refl}
use Rattle.stream.proofs.take_long.Goals as goal

pub returns-then-text-text_length : goal.returns-then-text-text_length
returns-then-text-text_length c =
    let a = c.args in
    let k = fit a.image.now a.state.now (omega arith) (omega arith) c.requires in
    let b : Bytes a.state.now = record { small = c.fits-state } in
    part_undone k b a.part.now a.text.now (omega (arith, c.if-text-text_length.true, c.text_length.ensures)) refl refl c.refuse.ensures
