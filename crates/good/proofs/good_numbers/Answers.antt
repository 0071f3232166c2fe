use mathlib.Core.Path.{refl}
use Rattle.good.specs.Good.{good_numbers}
use Rattle.good.proofs.good_numbers.Goals as goal

pub returns : goal.returns
unfolding good_numbers
returns c = refl
