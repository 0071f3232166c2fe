-- Refusals by their numbers.
use native.Mathlib.Omega.{arith}
use mathlib.Core.Logic.{◌≢◌}
use Rattle.answers.specs.declared.Refusal.{Refusal}
use Rattle.answers.specs.declared.Refusal.TheVariants.{NoModel, Unknown, Asleep, NotAllowed, Busy, Locked, Pointless, NoTrace, NoRoom}
use Rattle.answers.specs.Refusals.{number_of}

-- none has the number 0
pub never_none : (why : Refusal) → number_of why ≢ 0
never_none NoModel z = absurd (omega arith)
never_none Unknown z = absurd (omega arith)
never_none Asleep z = absurd (omega arith)
never_none NotAllowed z = absurd (omega arith)
never_none Busy z = absurd (omega arith)
never_none Locked z = absurd (omega arith)
never_none Pointless z = absurd (omega arith)
never_none NoTrace z = absurd (omega arith)
never_none NoRoom z = absurd (omega arith)
