use mathlib.Core.Path.{refl}
use Rattle.texts.specs.Text.{written}
use Rattle.texts.proofs.put.Goals as goal

pub returns : goal.returns
unfolding written
returns c = record { bytes = refl; behind = refl }
