use mathlib.Core.Path.{refl, ◌∙◌}
use Rattle.texts.proofs.Writing.{written-word}
use Rattle.texts.proofs.put_word.Goals as goal

pub returns : goal.returns
returns c =
    let a = c.args in
    record { bytes = c.put_word.ensures ∙ written-word a.out.now a.at a.v; behind = refl }
