-- Arbitration keys: their size, and that they order frames as the bus does.
use Prim.Native.Nat.{◌/◌, ◌^◌, ◌<◌}
use mathlib.Core.Path.{◌≡◌}
use mathlib.Core.Bool.{Bool, true, false}
use native.Mathlib.Omega.{arith}
use Rattle.mailboxes.specs.declared.Identifier.{Identifier}
use Rattle.mailboxes.specs.Arbitration.{base, low, key_of}

-- a key is a word of 32 bits
pub key_lt : (i : Identifier) (ide rtr : Bool) → (key_of i ide rtr).0 < 2 ^ 32
unfolding key_of
key_lt i true true = omega arith
key_lt i true false = omega arith
key_lt i false true = omega arith
key_lt i false false = omega arith

-- the smaller base first, whatever the formats
key-base : (i : Identifier) (ide rtr : Bool) → (key_of i ide rtr).0 / 2 ^ 21 ≡ base i
unfolding key_of
key-base i true true = omega arith
key-base i true false = omega arith
key-base i false true = omega arith
key-base i false false = omega arith

pub base-first : (i j : Identifier) (a b c d : Bool) → base i < base j → (key_of i a b).0 < (key_of j c d).0
base-first i j a b c d h = omega (arith, key-base i a b, key-base j c d)

-- with one base: a standard data frame, then the standard remote frame, then every extended frame
pub data_first : (i j : Identifier) → base i ≡ base j → (key_of i false false).0 < (key_of j false true).0
unfolding key_of
data_first i j e = omega arith

pub standard-first : (i j : Identifier) (rtr rtr' : Bool) → base i ≡ base j → (key_of i false rtr).0 < (key_of j true rtr').0
unfolding key_of
standard-first i j true true e = omega arith
standard-first i j true false e = omega arith
standard-first i j false true e = omega arith
standard-first i j false false e = omega arith

-- extended frames with one base: the smaller low bits first, then the data frame before the remote frame
pub low_first : (i j : Identifier) (rtr rtr' : Bool) → base i ≡ base j → low i < low j → (key_of i true rtr).0 < (key_of j true rtr').0
unfolding key_of
low_first i j true true e h = omega arith
low_first i j true false e h = omega arith
low_first i j false true e h = omega arith
low_first i j false false e h = omega arith

pub extended_data_first : (i j : Identifier) → base i ≡ base j → low i ≡ low j → (key_of i true false).0 < (key_of j true true).0
unfolding key_of
extended_data_first i j e h = omega arith
