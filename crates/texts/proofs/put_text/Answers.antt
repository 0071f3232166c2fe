use mathlib.Core.Path.{refl}
use Rattle.texts.proofs.Writing.{copied}
use Rattle.texts.proofs.put_text.Goals as goal

pub returns : goal.returns
returns c =
    let a = c.args in
    record { bytes = copied a.out.now a.text.now _ a.at c.requires c.copy_from_slice.ensures.after; behind = refl }
