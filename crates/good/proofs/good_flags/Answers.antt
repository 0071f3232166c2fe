use mathlib.Core.Path.{refl}
use Rattle.good.specs.Good.{good_flags}
use Rattle.good.proofs.good_flags.Goals as goal

pub returns : goal.returns
unfolding good_flags
returns c = refl
