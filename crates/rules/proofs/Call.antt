-- A promise about an outcome that keeps the rules.
use Prim.Native.Nat.{ℕ}
use mathlib.Core.List.{List}
use Rattle.answers.specs.Answer.{Outcome, Promise}
use Rattle.rules.specs.Calls.{Call}

pub call : (P : Outcome → Type 0) (o : Outcome) (x : List ℕ) (a : ℕ) → P o → Promise o x a → Call P x a
call P o x a k p = record { outcome = o; keeps = k; image = p.image; packs = p.answered }
