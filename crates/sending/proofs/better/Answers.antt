use Prim.Native.Nat.{ℕ}
use mathlib.Core.Path.{◌≡◌, refl, sym, ◌∙◌}
use mathlib.Core.Bool.{Bool, true, false, cond}
use lib.Dec.{eqb, ltb}
use Rattle.std.specs.Ordering.{is_lt, nat_cmp}
use Rattle.std.proofs.Common.{Less, Equal, Greater}
use Rattle.sending.specs.Choice.{better_of}
use Rattle.sending.proofs.better.Goals.{After-lt}
use Rattle.sending.proofs.better.Goals as goal

less : (a b : ℕ) → is_lt (nat_cmp a b) ≡ ltb a b
less a b = at (ltb a b) (eqb a b)
  where
    at : (t u : Bool) → is_lt (cond t Less (cond u Equal Greater)) ≡ t
    at true u = refl
    at false true = refl
    at false false = refl

-- what the order of keys tests
tested : (c : After-lt) → ltb c.args.key.0 c.in-Some.old.key.0 ≡ c.lt.result
tested c = sym (c.lt.ensures ∙ less c.args.key.0 c.in-Some.old.key.0)

pub returns-then-lt : goal.returns-then-lt
unfolding better_of
returns-then-lt c = rw (c.in-Some.is, tested (goal.at.returns-then-lt c).After-lt ∙ c.if-lt.true)

pub returns-else-lt : goal.returns-else-lt
unfolding better_of
returns-else-lt c = rw (c.in-Some.is, tested (goal.at.returns-else-lt c).After-lt ∙ c.if-lt.false)

pub returns-in-None : goal.returns-in-None
unfolding better_of
returns-in-None c = rw c.in-None.is
