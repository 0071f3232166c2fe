-- Between an operation's own effect and the end of its step: good, but for a waiting mode that the end of the step takes.
use Prim.Native.Nat.{ℕ, ◌<◌, ◌≤◌}
use mathlib.Core.Path.{◌≡◌, refl, sym, ◌∙◌}
use mathlib.Core.Bool.{Bool, true, false, not, ◌&&◌}
use mathlib.Core.Logic.{◌≢◌}
use native.Mathlib.Omega.{arith}
use lib.Dec.{eqb, ltb, lit<, lit≤}
use lib.Pow.{pow_pos}
use borrow.Author.Tests.{eqb-true, eqb-false, ltb-true, ltb-false, eq-eqb, ne_eqb, not-true}
use Rattle.bits.proofs.Sets.{and_l, and_r, within-zero, apart-zero}
use Rattle.registers.specs.declared.Block.{Block}
use Rattle.registers.specs.Block.{with_trs, with_trr, with_gif, with_tec, with_rec, with_mode, with_waiting, no_mode, empty_slot, bus_off_at, sleep}
use Rattle.registers.specs.Status.{vacant, bus_off, passive, warning}
use Rattle.registers.specs.Writes.{gif_with}
use Rattle.registers.specs.Modes.{rises, risen, ready, wakes, entered, falls_asleep}
use Rattle.good.proofs.Facts.{senders, Core, GoodBlock, Sleeping}
use Rattle.keeps.proofs.Words.{gif_lt}
use Rattle.keeps.proofs.Keep.{keep_trs, keep_trr, keep_gif, keep_tec, keep_rec, keep_mode, keep_waiting}

-- Only a mode request leaves a waiting 0, the normal mode, and then it can be taken.
pub record Open (b : Block) : Type 0 where
  pub core : Core b
  pub most : b.waiting ≤ 4
  pub zero : b.waiting ≡ 0 → (b.slot ≡ empty_slot) × (b.tec < bus_off_at)

-- a change that leaves the waiting mode of a good block alone
pub still_open : {b c : Block} → GoodBlock b → c.waiting ≡ b.waiting → Core c → Open c
still_open g e k =
    let w = g.waits in
    record { core = k; most = omega arith; zero = λ z. absurd (omega arith) }

pub good_open : {b : Block} → GoodBlock b → Open b
good_open g = still_open g refl g.core

pub risen_open : (a : Block) {b : Block} → Open b → Open (risen a b)
unfolding risen
risen_open a {b} i =
    let off = gif_lt (rises (bus_off a) (bus_off b)) 2 i.core.ranges.gif (lit< tt) in
    let low = gif_lt (rises (passive a) (passive b)) 1 off (lit< tt) in
    record {
      core = keep_gif i.core _ (gif_lt (rises (warning a) (warning b)) 0 low (lit< tt));
      most = i.most;
      zero = i.zero;
    }

-- ---- the end of the step

-- a mode is entered where nothing is in the slot, outside bus off
taken : {c : Block} → Core c → c.slot ≡ empty_slot → c.tec < bus_off_at → (m : ℕ) → m ≤ 3 → (m ≡ sleep → Sleeping c.tec c.rec c.trs c.trr)
    → (t : Bool) → Core (with_waiting (with_gif (with_mode c m) (gif_with c t 6)) no_mode)
taken k empty on m h down t =
    keep_waiting
    (keep_gif (keep_mode k m h (λ n. absurd (n empty)) (λ e. absurd (omega arith)) down) _ (gif_lt t 6 k.ranges.gif (lit< tt)))
    no_mode

module _ (b : Block) (k : Core b) (empty : b.slot ≡ empty_slot) (on : b.tec < bus_off_at) where
  -- what entering sleep clears; below 256 nothing is being recovered
  cleared : Core (with_trs (with_trr (with_rec (with_tec b 0) 0) 0) 0)
  cleared =
      keep_trs
      (keep_trr
      (keep_rec
      (keep_tec k 0 (lit≤ tt) (λ n. lit< tt) (λ e. absurd (omega arith)) (λ l. let off = k.recovering l in absurd (omega arith)) (λ e. refl))
      0 (lit≤ tt) (λ e. refl))
      0 (within-zero _) (within-zero _))
      0 (pow_pos (senders b)) (apart-zero _) (within-zero _) (λ n. absurd (n empty)) (λ e. refl)

  entered_core : b.waiting ≤ 3 → (t : Bool) → falls_asleep b ≡ t → Core (entered b)
  unfolding entered
  entered_core h true e =
      rw e (taken cleared empty (lit< tt) b.waiting h (λ s. record { tec = refl; rec = refl; trs = refl; trr = refl }) (wakes b))
  entered_core h false e = rw e (taken k empty on b.waiting h (λ s. absurd (eqb-false _ _ e s)) (wakes b))

module _ (b : Block) (i : Open b) where
  pub entered-good : ready b ≡ true → GoodBlock (entered b)
  unfolding entered
  entered-good e =
      let wants = not (eqb b.waiting no_mode) in
      let on = ltb b.tec bus_off_at in
      let free = and_r wants (vacant b && on) e in
      let n : b.waiting ≢ no_mode = eqb-false _ _ (not-true _ (and_l wants (vacant b && on) e)) in
      record {
        core =
            entered_core b i.core (eqb-true _ _ (and_l (vacant b) on free)) (ltb-true _ _ (and_r (vacant b) on free))
            (omega (arith, i.most)) (falls_asleep b) refl;
        waits = record { least = lit≤ tt; most = lit≤ tt; reason = λ none. absurd (none refl) };
      }

  -- what waits on with an empty slot waits for the end of bus off
  held : ready b ≡ false → b.waiting ≢ no_mode → b.slot ≡ empty_slot → bus_off_at ≤ b.tec
  held e n s = ltb-false _ _ (sym (rw (ne_eqb _ _ n, eq-eqb _ _ s)) ∙ e)

  pub kept_good : ready b ≡ false → GoodBlock b
  kept_good e =
      let never : b.waiting ≢ 0 = λ z. let f = i.zero z in let l = held e (λ n. absurd (omega arith)) f.0 in absurd (omega arith) in
      record {
        core = i.core;
        waits = record { least = omega arith; most = i.most; reason = λ n s. let l = held e n s in omega (arith, i.core.ranges.tec) };
      }
