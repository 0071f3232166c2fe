-- Counters, modes and ticks; reset.
use Prim.Native.Nat.{ℕ, ◌+◌, ◌%◌, ◌<◌, ◌≤◌}
use mathlib.Core.Path.{◌≡◌, refl, sym, ◌∙◌}
use mathlib.Core.Bool.{Bool, true, false, cond}
use mathlib.Core.Logic.{◌≢◌}
use native.Mathlib.Decide.{ℕ_discrete}
use native.Mathlib.Omega.{arith}
use lib.Dec.{eqb, ltb, lit<, lit≤}
use borrow.Author.Tests.{eqb-true, eqb-false, ltb-true, ltb-false}
use Rattle.bits.proofs.Sets.{and_l, and_r}
use Rattle.registers.specs.declared.Block.{Block}
use Rattle.registers.specs.Block.{with_rec, normal, empty_slot, bus_off_at, e_can}
use Rattle.fresh.specs.Fresh.{fresh_block}
use Rattle.fresh.proofs.Good.{fresh_block_lem}
use Rattle.registers.specs.Status.{asleep, bus_off}
use Rattle.registers.specs.Modes.{at_most, on_bus, overflows, ticked, worsened, recessive, optioned, asked}
use Rattle.good.proofs.Facts.{Core, GoodBlock}
use Rattle.keeps.proofs.Words.{either, gif_lt}
use Rattle.keeps.proofs.Keep.{keep_gif, keep_tsc, keep_tec, keep_rec, keep_waiting, keep_recovery, keep_options, keep_tso}
use Rattle.keeps.proofs.Open.{Open, still_open, good_open}

-- ---- ticks and options

pub ticked_open : {b : Block} → GoodBlock b → Open (ticked b)
unfolding ticked
ticked_open {b} g =
    let k = g.core in
    still_open g refl
    (keep_gif
    (keep_tso
    (keep_tsc k _ (either (λ x. x < 65536) (asleep b) (λ e. k.ranges.tsc) (λ e. omega arith)))
    _ (either (λ x. x ≤ 1) (overflows b) (λ e. lit≤ tt) (λ e. k.ranges.tso)))
    _ (gif_lt (overflows b) 3 k.ranges.gif (lit< tt)))

pub optioned_open : {b : Block} → GoodBlock b → (v : ℕ) → v ≤ 3 → Open (optioned b v)
optioned_open g v h = still_open g refl (keep_options g.core v h)

-- ---- counters

pub at-most : (k x : ℕ) → at_most k x ≤ k
at-most k x = either (λ y. y ≤ k) (ltb k x) (λ e. omega arith) (λ e. ltb-false k x e)

pub bus_mode : (b : Block) → on_bus b ≡ true → b.mode ≡ normal
bus_mode b on = eqb-true _ _ (and_l (eqb b.mode normal) (ltb b.tec bus_off_at) on)

pub bus_tec : (b : Block) → on_bus b ≡ true → b.tec < bus_off_at
bus_tec b on = ltb-true _ _ (and_r (eqb b.mode normal) (ltb b.tec bus_off_at) on)

-- REC moves only where the unit takes part on the bus, so never asleep
pub rec_core : {b : Block} → Core b → (x : ℕ) → x ≤ 255 → Core (with_rec b (cond (on_bus b) x b.rec))
rec_core {b} k x h =
    either (λ r. Core (with_rec b r)) (on_bus b)
    (λ on. keep_rec k x h (λ s. let n = bus_mode b on in absurd (omega arith)))
    (λ off. k)

pub worsened_open : {b : Block} → GoodBlock b → (v : ℕ) → Open (worsened b v)
unfolding worsened
worsened_open {b} g v = still_open g refl (rec_core g.core (at_most 255 (b.rec + v)) (at-most 255 (b.rec + v)))

recessive_core : (b : Block) → Core b → (t u : Bool) → bus_off b ≡ t → eqb b.recovery 127 ≡ u → Core (recessive b)
unfolding recessive
recessive_core b k false u e f = rw e k
recessive_core b k true false e f = rw (e, f) (keep_recovery k ((b.recovery + 1) % 128) (omega arith) (λ l. eqb-true _ _ e))
recessive_core b k true true e f =
    rw (e, f)
    (keep_tec
    (keep_rec (keep_recovery k ((b.recovery + 1) % 128) (omega arith) (λ l. eqb-true _ _ e)) 0 (lit≤ tt) (λ s. refl))
    0 (lit≤ tt) (λ n. lit< tt) (λ z. absurd (omega arith)) (λ l. let last = eqb-true b.recovery 127 f in absurd (omega arith)) (λ s. refl))

pub recessive_open : {b : Block} → GoodBlock b → Open (recessive b)
unfolding recessive
recessive_open {b} g = still_open g refl (recessive_core b g.core (bus_off b) (eqb b.recovery 127) refl refl)

-- ---- mode requests

-- in another mode than normal nothing is being sent and the unit is not bus off
free : {b : Block} → Core b → b.mode ≢ normal → (b.slot ≡ empty_slot) × (b.tec < bus_off_at)
free {b} k n =
    let on : b.tec ≢ bus_off_at = λ e. n (k.off e) in
    (at (ℕ_discrete b.slot empty_slot), omega (arith, k.ranges.tec))
  where
    at : Dec (b.slot ≡ empty_slot) → b.slot ≡ empty_slot
    at (yes e) = e
    at (no d) = absurd (n (k.slotted d).mode)

-- so where the normal mode is asked for, and is not the present one, it is taken at once
pub asked_open : {b : Block} → GoodBlock b → (m : ℕ) → m ≤ 3 → Open (asked b m)
unfolding asked
asked_open {b} g m h =
    let same = eqb m b.mode in
    record {
      core = keep_waiting g.core _;
      most = either (λ w. w ≤ 4) same (λ e. lit≤ tt) (λ e. omega arith);
      zero =
          either (λ w. w ≡ 0 → (b.slot ≡ empty_slot) × (b.tec < bus_off_at)) same
          (λ e z. absurd (omega arith))
          (λ e z. free g.core (λ n. eqb-false m b.mode e (z ∙ sym n)));
    }

-- ---- reset

pub fresh_open : (p : ℕ) → p ≤ e_can → Open (fresh_block p)
fresh_open p h = good_open (fresh_block_lem p h)
