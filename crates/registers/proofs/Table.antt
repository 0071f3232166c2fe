-- The table of register writes, by register number.
use Prim.Native.Nat.{ℕ, ◌<◌, ◌≤◌}
use mathlib.Core.Path.{◌≡◌}
use mathlib.Core.Logic.{◌≢◌}
use native.Mathlib.Omega.{arith}
use borrow.Author.Tests.{eq-eqb, ne_eqb}
use lib.ListN.{get_or, get_or-eq_default}
use Rattle.registers.specs.declared.Block.{Block}
use Rattle.registers.specs.Block.{with_protection}
use Rattle.registers.specs.Writes.{writes, protection_number, written}

pub written_at : (b : Block) (t k v : ℕ) → t ≡ k → k < 20 → written b t v ≡ get_or (writes b v) k b
unfolding written
written_at b t k v e h = rw (e, ne_eqb k protection_number (λ q. omega arith))

pub written_protection : (b : Block) (t v : ℕ) → t ≡ protection_number → written b t v ≡ with_protection b v
unfolding written
written_protection b t v e = rw (eq-eqb t protection_number e)

pub written_none : (b : Block) (t v : ℕ) → 20 ≤ t → t ≢ protection_number → written b t v ≡ b
unfolding written
written_none b t v h n = rw (ne_eqb t protection_number n) (get_or-eq_default (writes b v) b h)
