-- The number tells every part.
use Prim.Native.Nat.{ℕ, ◌/◌, ◌%◌, ◌^◌, ◌<◌}
use mathlib.Core.Path.{◌≡◌}
use native.Mathlib.Omega.{arith}
use Rattle.answers.specs.Answer.{packed, packed_reading}

pub refusal_of : (r m c : ℕ) → r < 256 → packed r m c % 256 ≡ r
refusal_of r m c h = omega arith

pub mailbox_of : (r m c : ℕ) → r < 256 → m < 256 → packed r m c / 256 % 256 ≡ m
mailbox_of r m c h l = omega arith

pub count_of_lem : (r m c : ℕ) → r < 256 → m < 256 → packed r m c / 65536 ≡ c
count_of_lem r m c h l = omega arith

pub value_of : (r v : ℕ) → v < 2 ^ 32 → packed_reading r v % 2 ^ 32 ≡ v
value_of r v h = omega arith

pub read-refusal_of : (r v : ℕ) → v < 2 ^ 32 → packed_reading r v / 2 ^ 32 ≡ r
read-refusal_of r v h = omega arith
