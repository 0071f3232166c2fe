-- Why a frame lands where it does: terms for the contracts of the code, which has loaded a block and a frame. The rule itself is in Explain.
use Rattle.std.specs.Prelude.{ℕ, cond, not, ◌||◌, List}
use Rattle.bits.specs.Bit.{bit}
use Rattle.registers.specs.Block.{block_of}
use Rattle.registers.specs.Status.{bus_off}
use Rattle.registers.specs.Modes.{on_bus}
use Rattle.mailboxes.specs.Mailbox.{mailbox_word}
use Rattle.events.specs.declared.Frame.{Frame}
use Rattle.filter.specs.Filter.{seat, mask_for, differing, guarded}
use Rattle.explain.specs.declared.Reason.{Reason}
use Rattle.explain.specs.declared.Line.{Line}
use Rattle.explain.specs.Explain.{first_reason, lines, unheard}

-- The reason of mailbox n, and the lines.
abbrev pub reason_by : List ℕ → Frame → ℕ → Reason
reason_by s f n =
    first_reason (not (bit (block_of s).mc n)) (not (f.rtr || bit (block_of s).md n)) (bit (guarded (block_of s)) n) (bit (differing (mask_for s (block_of s) n) f (mailbox_word s n 0)))

abbrev pub explained_by : List ℕ → Frame → List Line
explained_by s f = cond (on_bus (block_of s)) (lines (seat (block_of s)) (reason_by s f)) (unheard (block_of s).mode (bus_off (block_of s)))
