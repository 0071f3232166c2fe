-- A test of numbers, over all that are below a bound.
use Rattle.std.specs.Prelude.{ℕ, zero, suc, ◌+◌, Bool, true, cond, ◌&&◌, ltb}

-- Does the test hold of every number below n?
unfoldable pub all_below : (ℕ → Bool) → ℕ → Bool
all_below p zero = true
all_below p (suc n) = all_below p n && p n

-- Of how many numbers below n does it hold?
unfoldable pub count_below : (ℕ → Bool) → ℕ → ℕ
count_below p zero = 0
count_below p (suc n) = count_below p n + cond (p n) 1 0

-- The first number below n of which it holds; n where there is none.
unfoldable pub first_below : (ℕ → Bool) → ℕ → ℕ
first_below p zero = zero
first_below p (suc n) = cond (ltb (first_below p n) n) (first_below p n) (cond (p n) n (suc n))
