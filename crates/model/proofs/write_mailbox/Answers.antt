use mathlib.Core.Path.{◌≡◌, refl, ◌∙◌, ap}
use borrow.Author.Rules.{rules}
use Rattle.registers.specs.Block.{block_of}
use Rattle.events.specs.declared.Event.TheVariants.{Mailbox}
use Rattle.model.specs.Step.{rewritten, own, goes, beside_after, named}
use Rattle.model.proofs.Meets.{acts}
use Rattle.model.proofs.Beside.{rewritten_beside}
use Rattle.model.proofs.write_mailbox.Goals as goal

pub returns : goal.returns
unfolding own goes beside_after named rewritten
returns c =
    let a = c.args in
    let s = a.image.now in
    let y = c.put_word.new.s in
    let h = c.change.ensures.block in
    let made : h.0 ≡ block_of y = search (rules, h.1) in
    let back = ap block_of c.put_word.ensures ∙ (rewritten_beside s a.n c.told-image c.requires.0 a.k a.v).block in
    acts s (Mailbox a.n a.k a.v) y h.0 32 c.put_word.ensures back (made ∙ back) refl refl h.2 c.change.ensures.answered
