use Rattle.good.specs.Good.{good_slot}
use Rattle.good.proofs.good_slot.Goals as goal

pub returns : goal.returns
unfolding good_slot
returns c = rw c.slot_mask-x.ensures
