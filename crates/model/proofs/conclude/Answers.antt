use mathlib.Core.Path.{◌≡◌, refl, ◌∙◌, ap}
use borrow.Author.Rules.{rules}
use Rattle.registers.specs.declared.Block.{Block}
use Rattle.registers.specs.Block.{block_of}
use Rattle.registers.specs.Sending.{concluded}
use Rattle.events.specs.declared.Event.TheVariants.{Outcome}
use Rattle.model.specs.Step.{own, goes, beside_after, named}
use Rattle.model.proofs.Meets.{acts}
use Rattle.model.proofs.Beside.{postmarked_beside}
use Rattle.model.proofs.conclude.Goals as goal

pub returns : goal.returns
unfolding own goes beside_after named
returns c =
    let a = c.args in
    let y = c.postmark.new.image in
    let back = ap block_of c.postmark.ensures ∙ (postmarked_beside a.image.now a.kind c.requires.0 c.requires.1).block in
    let h = c.change.ensures.block in
    let made : h.0 ≡ concluded (block_of y) a.kind = search (rules, h.1) in
    acts a.image.now (Outcome a.kind) y h.0 c.load-slot.result.slot c.postmark.ensures back
    (made ∙ ap (λ (b : Block). concluded b a.kind) back)
    refl
    (ap (λ (b : Block). b.slot) (c.load-slot.ensures ∙ back))
    h.2 c.change.ensures.answered
