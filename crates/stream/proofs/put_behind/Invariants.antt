use mathlib.Core.Path.{◌≡◌}
use lib.ListN.{take}
use Rattle.texts.specs.Text.{written}
use Rattle.stream.proofs.put_behind.Given as goal

abbrev pub invariant-loop-i : goal.invariant-loop-i
invariant-loop-i l = l.event ≡ written l.initial.event l.seen (take l.i l.fn.bytes)
