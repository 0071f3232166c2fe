use Rattle.good.specs.Good.{good_layouts}
use Rattle.good.proofs.good_layouts.Goals as goal

pub returns : goal.returns
unfolding good_layouts
returns c = c.are_kept.ensures
