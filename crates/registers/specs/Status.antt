-- What the registers say of the unit's state.
use Rattle.std.specs.Prelude.{Bool, not, ◌||◌, eqb, ltb}
use Rattle.registers.specs.declared.Block.{Block}
use Rattle.registers.specs.Block.{sleep, empty_slot, bus_off_at, e_can}

-- The image, word 24: is a mailbox being sent?
abbrev pub vacant : Block → Bool
vacant b = eqb b.slot empty_slot

abbrev pub filled : Block → Bool
filled b = not (vacant b)

-- Document 02, g), the profile: is it an eCAN?
abbrev pub ecan : Block → Bool
ecan b = eqb b.profile e_can

abbrev pub asleep : Block → Bool
asleep b = eqb b.mode sleep

-- Sending, errors, modes: bus off at 256, passive where a counter is above 127, a warning where one is above 96.
abbrev pub bus_off : Block → Bool
bus_off b = eqb b.tec bus_off_at

abbrev pub passive : Block → Bool
passive b = ltb 127 b.tec || ltb 127 b.rec

abbrev pub warning : Block → Bool
warning b = ltb 96 b.tec || ltb 96 b.rec
