use mathlib.Core.Path.{sym}
use Rattle.good.specs.Good.{good_block}
use Rattle.good.proofs.Facts.{slot_too_high}
use Rattle.good.proofs.good_block.Goals as goal

pub returns-then-b-gt-EMPTY_SLOT : goal.returns-then-b-gt-EMPTY_SLOT
returns-then-b-gt-EMPTY_SLOT c = sym (slot_too_high c.args.b c.if-b-gt-EMPTY_SLOT.true)

pub returns : goal.returns
unfolding good_block
returns c = rw (c.good_flags.ensures, c.good_numbers.ensures, c.good_slot.ensures)
