-- Counters, modes, ticks: what happens to the block between the firmware's writes.
use Rattle.std.specs.Prelude.{ℕ, ◌+◌, ◌%◌, Bool, cond, not, ◌&&◌, eqb, ltb}
use Rattle.std.specs.Int.Bits.{bit_or}
use Rattle.bits.specs.Bit.{flag}
use Rattle.registers.specs.declared.Block.{Block}
use Rattle.registers.specs.Block.{with_trs, with_trr, with_gif, with_tsc, with_tec, with_rec, with_mode, with_waiting, with_recovery, with_options, with_tso, normal, sleep, no_mode, bus_off_at}
use Rattle.registers.specs.Status.{vacant, asleep, bus_off, passive, warning}
use Rattle.registers.specs.Writes.{gif_with}

-- A counter that stops at k.
abbrev pub at_most : ℕ → ℕ → ℕ
at_most k x = cond (ltb k x) k x

-- Receiving: the unit takes part on the bus in normal mode, unless it is bus off.
abbrev pub on_bus : Block → Bool
on_bus b = eqb b.mode normal && ltb b.tec bus_off_at

-- Sending, errors, modes: TSC counts ticks; past 65,535 it is 0 again, and TSO and GIF bit 3 go up. Asleep it stands still.
abbrev pub overflows : Block → Bool
overflows b = not (asleep b) && eqb b.tsc 65535

unfoldable pub ticked : Block → Block
ticked b =
    with_gif
    (with_tso (with_tsc b (cond (asleep b) b.tsc ((b.tsc + 1) % 65536))) (cond (overflows b) 1 b.tso))
    (gif_with b (overflows b) 3)

-- Receiving: an error that a receiver sees adds 1 or 8 to REC, which stops at 255.
unfoldable pub worsened : Block → ℕ → Block
worsened b v = with_rec b (cond (on_bus b) (at_most 255 (b.rec + v)) b.rec)

-- Sending, errors, modes: in bus off, runs of eleven recessive bits are counted, and the 128th ends it.
abbrev pub recovers : Block → Bool
recovers b = bus_off b && eqb b.recovery 127

unfoldable pub recessive : Block → Block
recessive b =
    with_recovery (with_rec (with_tec b (cond (recovers b) 0 b.tec)) (cond (recovers b) 0 b.rec))
    (cond (bus_off b) ((b.recovery + 1) % 128) b.recovery)

-- The events, operation 9: MTOS and WUBA take the value.
abbrev pub optioned : Block → ℕ → Block
optioned b v = with_options b v

-- Sending, errors, modes: a mode that is asked for waits, in the place of an earlier one; to ask for the mode one is in leaves none
-- waiting. Whether it is taken at once or later is the end of the step's matter.
unfoldable pub asked : Block → ℕ → Block
asked b m = with_waiting b (cond (eqb m b.mode) no_mode m)

-- Sending, errors, modes: GIF bits 2, 1 and 0 go up where bus off, passive or warning holds now and did not before.
abbrev pub rises : Bool → Bool → Bool
rises before now = now && not before

unfoldable pub risen : Block → Block → Block
risen before b =
    with_gif b
    (bit_or (bit_or (bit_or b.gif (flag (rises (bus_off before) (bus_off b)) 2)) (flag (rises (passive before) (passive b)) 1)) (flag (rises (warning before) (warning b)) 0))

-- Sending, errors, modes: a waiting mode is taken once nothing is in the slot and the unit is not in bus off.
abbrev pub ready : Block → Bool
ready b = not (eqb b.waiting no_mode) && (vacant b && ltb b.tec bus_off_at)

-- Entering sleep clears the counters and the requests; normal mode entered from sleep is waking, which GIF bit 6 says.
abbrev pub falls_asleep : Block → Bool
falls_asleep b = eqb b.waiting sleep

abbrev pub wakes : Block → Bool
wakes b = asleep b && eqb b.waiting normal

unfoldable pub entered : Block → Block
entered b =
    with_gif
    (with_rec
    (with_tec
    (with_trr
    (with_trs (with_waiting (with_mode b b.waiting) no_mode) (cond (falls_asleep b) 0 b.trs))
    (cond (falls_asleep b) 0 b.trr))
    (cond (falls_asleep b) 0 b.tec))
    (cond (falls_asleep b) 0 b.rec))
    (gif_with b (wakes b) 6)

-- The end of every accepted step.
unfoldable pub settled : Block → Block
settled b = cond (ready b) (entered b) b
