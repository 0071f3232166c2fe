-- Bytes: numbers below 256, as all that is lent from C.
use Rattle.std.specs.Prelude.{ℕ, ◌<◌, List, get_or}

pub record Bytes (s : List ℕ) : Type 0 where
  pub small : (i : ℕ) → get_or s i 0 < 256
