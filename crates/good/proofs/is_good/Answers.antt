use borrow.Author.Tests.{eq-eqb}
use Rattle.registers.specs.Block.{image_bytes}
use Rattle.good.specs.Good.{good_image}
use Rattle.good.proofs.is_good.Goals as goal

pub returns : goal.returns
unfolding good_image
returns c =
    rw (
      eq-eqb _ image_bytes c.told-image,
      c.good_layouts.ensures,
      c.good_spare.ensures,
      c.good_masks.ensures,
      c.good_block.ensures,
      c.load.ensures,
    )
