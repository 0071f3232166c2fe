-- How the refusals of an event are found: by its length, by its operation, and by one test of what is allowed.
use Prim.Native.Nat.{ℕ, zero, suc, ◌*◌, ◌/◌, ◌^◌, ◌<◌, ◌≤◌}
use mathlib.Core.Path.{◌≡◌, sym, ◌∙◌, ap, subst}
use mathlib.Core.Bool.{Bool, false}
use mathlib.Core.List.{List}
use native.Mathlib.Decide.{ℕ_discrete}
use native.Mathlib.Omega.{arith}
use lib.ListN.{length, get_or-eq_default}
use lib.Pow.{shr-shr}
use borrow.Author.Tests.{eq-eqb, ne_eqb}
use Rattle.events.specs.declared.Event.TheVariants.{Refused}
use Rattle.events.specs.Parts.{event_bytes, operation}
use Rattle.events.specs.Decode.{decoded, decoded_as}

-- The events: operations 0 to 10.
abbrev pub operations : ℕ
operations = 11

-- 16 bytes are judged by their operation
pub decoded_as_lem : (a p : Bool) (e : List ℕ) (k : ℕ) → length e ≡ event_bytes → operation e ≡ k → decoded a p e ≡ decoded_as k a p e
unfolding decoded decoded_as
decoded_as_lem a p e k h o = rw (eq-eqb (length e) event_bytes h, o)

-- any other number of bytes is refused
pub decoded_long : (a p : Bool) (e : List ℕ) → (length e ≡ event_bytes → ⊥) → decoded a p e ≡ Refused 2
unfolding decoded
decoded_long a p e h = rw (ne_eqb (length e) event_bytes h)

-- and so is an operation past the last
pub decoded-none : (a p : Bool) (e : List ℕ) (k : ℕ) → operations ≤ k → decoded_as k a p e ≡ Refused 2
unfolding decoded_as
decoded-none a p e k h = rw (get_or-eq_default _ false h)

-- a fact of each number below n, in a row: what is left after a `match` on 0, 1 and so on is such a row
abbrev pub Each : (ℕ → Type 0) → ℕ → Type 0
Each P zero = Unit
Each P (suc n) = Each P n × P n

pub each : (P : ℕ → Type 0) (n : ℕ) → Each P n → (k : ℕ) → k < n → P k
each P zero h k l = absurd (omega arith)
each P (suc n) h k l = at (ℕ_discrete k n) (each P n h.0 k)
  where
    at : Dec (k ≡ n) → (k < n → P k) → P k
    at (yes e) f = subst P (sym e) h.1
    at (no d) f = f (omega arith)

-- n bytes are shifted out in two halves
pub halves : (x n : ℕ) → x / 2 ^ (4 * n) / 2 ^ (4 * n) ≡ x / 2 ^ (8 * n)
halves x n = shr-shr x (4 * n) (4 * n) ∙ ap (λ (k : ℕ). x / 2 ^ k) (omega arith)
