use Prim.Native.Nat.{ℕ, ◌<◌}
use mathlib.Core.Path.{◌≡◌, sym, ◌∙◌, ap, ap₂, subst}
use native.Mathlib.Omega.{arith}
use Rattle.bits.specs.Bit.{bit, mask, without}
use Rattle.bits.specs.Below.{first_below}
use Rattle.bits.proofs.Sets.{without_lt}
use Rattle.bits.proofs.Below.{first_is}
use Rattle.sending.specs.declared.Best.{Best}
use Rattle.sending.specs.Choice.{key_at, better_of}
use Rattle.std.specs.Prelude.{Option, Some, None}
use Rattle.std.specs.Option.{MatchOption, IsSomeAnd, option_map}
use Rattle.mailboxes.specs.declared.Key.{Key}
use Rattle.sending.proofs.Choice.{Carries, named-some, named-none, found-named, begins, onwards, goes_on}
use Rattle.sending.proofs.smallest.Goals.{In-Some}
use Rattle.std.proofs.Common.{rules}
use Rattle.sending.proofs.smallest.Goals as goal

-- the mailbox of this turn
here : (c : In-Some) → (first_below (bit c.loop-n.rest) 32 < 32) × (c.in-Some.n ≡ first_below (bit c.loop-n.rest) 32)
here c = named-some _ _ (sym c.in-Some.ensures)

pub loop-n-init : goal.loop-n-init
loop-n-init c = (omega arith, begins _ _)

pub loop-n-smaller : goal.loop-n-smaller
loop-n-smaller c =
    let a = c.args in
    let l = c.loop-n in
    let h = here (goal.at.loop-n-smaller c).In-Some in
    let e = c.without-rest.ensures ∙ ap (without l.rest) (c.mask.ensures ∙ ap mask h.1) in
    let u = onwards a.s.now a.w l.rest l.best l.invariant.1 h.0 in
    omega (arith, ap (λ (x : ℕ). first_below (bit x) 32) e)

pub loop-n-preserved : goal.loop-n-preserved
loop-n-preserved c =
    let a = c.args in
    let l = c.loop-n in
    let h = here (goal.at.loop-n-preserved c).In-Some in
    let b = c.better.ensures ∙ ap₂ (λ (m : ℕ) (x : Key). better_of l.best m x) h.1 (c.key_at.ensures ∙ ap (key_at a.s.now) h.1) in
    rw (c.without-rest.ensures ∙ ap (without l.rest) (c.mask.ensures ∙ ap mask h.1), b)
    (without_lt (mask (first_below (bit l.rest) 32)) l.invariant.0, goes_on a.s.now a.w l.rest l.best l.invariant.1 h.0)

-- the best mailbox without its key
mapped : (best : Option Best) (r : Option ℕ) (Q : Best → ℕ → Type 0) → ((b : Best) (n : ℕ) → Q b n → n ≡ b.mailbox)
    → MatchOption best (r ≡ None) (λ b. IsSomeAnd r (Q b)) → r ≡ option_map (λ (b : Best). b.mailbox) best
mapped None r Q f h = h
mapped (Some b) None Q f h = elim h [ ]
mapped (Some b) (Some n) Q f h = ap Some (f b n h)

pub returns : goal.returns
returns c =
    let a = c.args in
    let l = c.loop-n in
    let e = named-none _ (sym c.lowest.ensures ∙ c.in_default.is) in
    let m : first_below (bit l.rest) 32 ≡ 32 = omega (arith, e, (first_is (bit l.rest) 32).most) in
    mapped l.best _ _ (λ b n q. search rules) c.map.ensures.cases ∙ found-named a.s.now a.w l.best (subst (λ (x : ℕ). Carries a.s.now a.w x l.best) m l.invariant.1.done)
