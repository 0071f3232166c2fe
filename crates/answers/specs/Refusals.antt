-- The events, refusals; document 02: the number of each.
use Rattle.std.specs.Prelude.{ℕ}
use Rattle.answers.specs.declared.Refusal.{Refusal}
use Rattle.answers.specs.declared.Refusal.TheVariants.{NoModel, Unknown, Asleep, NotAllowed, Busy, Locked, Pointless, NoTrace, NoRoom}

abbrev pub number_of : Refusal → ℕ
number_of NoModel = 1
number_of Unknown = 2
number_of Asleep = 3
number_of NotAllowed = 4
number_of Busy = 5
number_of Locked = 6
number_of Pointless = 7
number_of NoTrace = 8
number_of NoRoom = 9
