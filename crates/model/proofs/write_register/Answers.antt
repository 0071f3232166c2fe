use mathlib.Core.Path.{◌≡◌, refl, ◌∙◌, ap}
use borrow.Author.Rules.{rules}
use Rattle.registers.specs.declared.Block.{Block}
use Rattle.registers.specs.Block.{block_of}
use Rattle.registers.specs.Writes.{written}
use Rattle.events.specs.declared.Event.TheVariants.{Register}
use Rattle.model.specs.Step.{own, goes, beside_after, named}
use Rattle.model.proofs.Meets.{acts}
use Rattle.model.proofs.Beside.{masked_beside}
use Rattle.model.proofs.write_register.Goals as goal

pub returns : goal.returns
unfolding own goes beside_after named
returns c =
    let a = c.args in
    let y = c.put_mask.new.image in
    let back = ap block_of c.put_mask.ensures ∙ (masked_beside a.image.now a.t a.v).block in
    let h = c.change.ensures.block in
    let made : h.0 ≡ written (block_of y) a.t a.v = search (rules, h.1) in
    acts a.image.now (Register a.t a.v) y h.0 32 c.put_mask.ensures back
    (made ∙ ap (λ (b : Block). written b a.t a.v) back)
    refl refl h.2 c.change.ensures.answered
