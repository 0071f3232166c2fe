use mathlib.Core.Path.{◌∙◌}
use Rattle.good.specs.Good.{good_masks}
use Rattle.good.proofs.Masks.{pairs_masks}
use Rattle.good.proofs.good_masks.Goals as goal

pub returns : goal.returns
unfolding good_masks
returns c = c.are_kept.ensures ∙ pairs_masks _
