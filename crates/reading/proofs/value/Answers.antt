use mathlib.Core.Path.{sym, ◌∙◌, ap}
use native.Mathlib.Omega.{arith}
use borrow.Author.Tests.{eq-eqb, ne_eqb}
use Rattle.words.specs.Word.{word_at}
use Rattle.registers.specs.Status.{ecan}
use Rattle.good.proofs.Image.{good-slot}
use Rattle.reading.specs.Read.{value}
use Rattle.reading.proofs.Laws.{number-place, place-fits}
use Rattle.reading.proofs.value.Goals as goal

pub returns-then-is_asleep : goal.returns-then-is_asleep
unfolding value
returns-then-is_asleep c =
    let m = c.args.m in
    rw (sym m.of_image, sym c.is_asleep.ensures ∙ c.if-is_asleep.true) c.sleeping_value.ensures

pub gsr-requires : goal.gsr-requires
gsr-requires c = rw c.args.m.of_image (good-slot _ c.requires.0)

pub returns-then-number-eq-GSR : goal.returns-then-number-eq-GSR
unfolding value
returns-then-number-eq-GSR c =
    let m = c.args.m in
    rw (sym m.of_image, sym c.is_asleep.ensures ∙ c.if-is_asleep.false, eq-eqb _ 32 c.if-number-eq-GSR.true) c.gsr.ensures

pub word_at-requires : goal.word_at-requires
word_at-requires c =
    let a = c.args in
    let l = place-fits _ (number-place (ecan a.m.block) a.number c.requires.1 c.if-number-eq-GSR.false) in
    omega (arith, c.place.ensures)

pub returns : goal.returns
unfolding value
returns c =
    let m = c.args.m in
    rw (sym m.of_image, sym c.is_asleep.ensures ∙ c.if-is_asleep.false, ne_eqb _ 32 c.if-number-eq-GSR.false)
    (c.word_at.ensures ∙ ap (word_at _) c.place.ensures)
