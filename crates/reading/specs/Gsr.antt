-- The status word GSR.
use Rattle.std.specs.Prelude.{ℕ, ◌+◌, ◌*◌, ◌^◌, cond, eqb}
use Rattle.bits.specs.Bit.{flag}
use Rattle.registers.specs.declared.Block.{Block}
use Rattle.registers.specs.Block.{suspend, configuration}
use Rattle.registers.specs.Status.{vacant, filled, asleep, bus_off, passive, warning}

-- Writing, register 32: the slot's number, 31 where it is empty.
abbrev pub shown_slot : Block → ℕ
shown_slot b = cond (vacant b) 31 b.slot

-- Writing, register 32: the slot's number in bits 16 to 12, a flag for each state below, nothing else.
unfoldable pub gsr : Block → ℕ
gsr b =
    shown_slot b * 2 ^ 12
    + flag (filled b) 10
    + flag (eqb b.mode suspend) 8
    + flag (eqb b.mode configuration) 7
    + flag (asleep b) 6
    + flag (eqb b.tso 1) 3
    + flag (bus_off b) 2
    + flag (passive b) 1
    + flag (warning b) 0
