-- Tests of words, and lists of tests: what the rules are said in.
use Rattle.std.specs.Prelude.{ℕ, ◌+◌, ◌/◌, ◌%◌, ◌^◌, Bool, true, cond, not, ◌&&◌, ◌||◌, List, [], ◌∷◌, eqb, ltb, leb}
use Rattle.std.specs.Int.Bits.{bit_and}

-- Do all tests of a list hold?
abbrev pub every_from : Bool → List Bool → Bool
every_from t [] = t
every_from t (a ∷ l) = every_from (t && a) l

abbrev pub every : List Bool → Bool
every l = every_from true l

-- The number of the first test of a list that holds, where the first is number n; 0 where none does.
abbrev pub first_from : ℕ → List Bool → ℕ
first_from n [] = 0
first_from n (t ∷ l) = cond t n (first_from (n + 1) l)

-- Where a holds, so does b.
abbrev pub implies : Bool → Bool → Bool
implies a b = not a || b

-- Is every bit of a a bit of b? Do a and b share none?
abbrev pub within : ℕ → ℕ → Bool
within a b = eqb (bit_and a b) a

abbrev pub apart : ℕ → ℕ → Bool
apart a b = eqb (bit_and a b) 0

-- Bit 31 of a word of 32 bits is down: the word is below 2 ^ 31. It is up: the word is not.
abbrev pub top_down : ℕ → Bool
top_down w = ltb w (2 ^ 31)

abbrev pub top_up : ℕ → Bool
top_up w = leb (2 ^ 31) w

-- Bits 30 and 29 are down.
abbrev pub gap_down : ℕ → Bool
gap_down w = eqb (w / 2 ^ 29 % 4) 0
