use mathlib.Core.Path.{◌≡◌, refl, ◌∙◌, ap}
use borrow.Author.Rules.{rules}
use Rattle.registers.specs.declared.Block.{Block}
use Rattle.registers.specs.Block.{block_of}
use Rattle.fresh.specs.Fresh.{fresh_block}
use Rattle.events.specs.declared.Event.TheVariants.{Reset}
use Rattle.model.specs.Step.{own, goes, beside_after, named}
use Rattle.model.proofs.Meets.{acts}
use Rattle.model.proofs.Beside.{unmasked_beside}
use Rattle.model.proofs.reset.Goals as goal

pub returns : goal.returns
unfolding own goes beside_after named
returns c =
    let s = c.args.image.now in
    let y = c.clear_masks.new.image in
    let h = c.change.ensures.block in
    let made : h.0 ≡ fresh_block (block_of y).profile = search (rules, h.1) in
    let back = ap block_of c.clear_masks.ensures ∙ (unmasked_beside s).block in
    acts s Reset y h.0 32 c.clear_masks.ensures back (made ∙ ap (λ (b : Block). fresh_block b.profile) back) refl refl h.2 c.change.ensures.answered
