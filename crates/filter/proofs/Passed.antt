-- Overwrite protection: what passing over means.
use Prim.Native.Nat.{ℕ, zero, suc, ◌<◌}
use mathlib.Core.Path.{◌≡◌, refl, sym, ◌∙◌, ap}
use mathlib.Core.Bool.{Bool, true, false, ◌&&◌, false≢true}
use mathlib.Core.List.{List}
use native.Mathlib.Omega.{arith}
use lib.Dec.{eqb, ltb}
use borrow.Author.Tests.{eqb-true, ltb-true, ltb-false}
use Rattle.bits.specs.Below.{count_below}
use Rattle.bits.proofs.Below.{count_in, count_out}
use Rattle.bits.proofs.Sets.{and_l, and_r}
use Rattle.registers.specs.Block.{block_of}
use Rattle.registers.specs.Status.{ecan}
use Rattle.registers.specs.Modes.{on_bus}
use Rattle.mailboxes.specs.Mailbox.{mailboxes}
use Rattle.events.specs.declared.Frame.{Frame}
use Rattle.filter.specs.declared.Found.TheVariants.{Missing}
use Rattle.filter.specs.declared.Delivery.TheVariants.{Nowhere}
use Rattle.filter.specs.Filter.{seat, matches, hits, passes, passed_over, compared_before, delivery}
use Rattle.filter.proofs.Search.{is_compared, is_guarded, seat_lt, passes as passes_all, never_guarded}
use Rattle.filter.proofs.Ways.{taken, nothing-found}

-- a count of none
none-counted : (p : ℕ → Bool) (n : ℕ) → count_below p n ≡ 0 → (j : ℕ) → j < n → p j ≡ false
none-counted p zero h j l = absurd (omega arith)
none-counted p (suc n) h j l = at (p n) refl (ltb j n) refl (λ z. none-counted p n z j)
  where
    at : (t : Bool) → p n ≡ t → (u : Bool) → ltb j n ≡ u → (count_below p n ≡ 0 → j < n → p j ≡ false) → p j ≡ false
    at true e u q f = let c = count_in p n e in absurd (omega arith)
    at false e true q f = f (sym (count_out p n e) ∙ h) (ltb-true j n q)
    at false e false q f =
        let k = ltb-false j n q in
        ap p (omega arith) ∙ e

module _ (s : List ℕ) (f : Frame) (h : passed_over s f ≡ true) where
  heard-over : on_bus (block_of s) ≡ true
  unfolding passed_over
  heard-over = and_l (on_bus (block_of s)) (ltb 0 (count_below (passes s f) mailboxes) && eqb (count_below (hits s f) mailboxes) 0) h

  none-hits : (n : ℕ) → n < mailboxes → hits s f n ≡ false
  unfolding passed_over
  none-hits =
      none-counted (hits s f) mailboxes
      (eqb-true _ _
      (and_r (ltb 0 (count_below (passes s f) mailboxes)) (eqb (count_below (hits s f) mailboxes) 0)
      (and_r (on_bus (block_of s)) (ltb 0 (count_below (passes s f) mailboxes) && eqb (count_below (hits s f) mailboxes) 0) h)))

  -- such a frame goes nowhere, and was compared with every candidate
  pub passed_nowhere : delivery s f ≡ Nowhere (compared_before s f mailboxes)
  passed_nowhere =
      let e = passes_all s f (λ j l. none-hits (seat (block_of s) j) (seat_lt (block_of s) j l)) in
      taken s f heard-over (Missing (compared_before s f mailboxes)) e ∙ nothing-found s (compared_before s f mailboxes)

-- a mailbox that passes a frame over is one of an eCAN
pub passes-ecan : (s : List ℕ) (f : Frame) (n : ℕ) → passes s f n ≡ true → ecan (block_of s) ≡ true
unfolding passes
passes-ecan s f n h = at (ecan (block_of s)) refl
  where
    guards : passes s f n ≡ true → is_guarded s n ≡ true
    guards p = and_r (matches s f n) (is_guarded s n) (and_r (is_compared s f n) (matches s f n && is_guarded s n) p)

    at : (t : Bool) → ecan (block_of s) ≡ t → ecan (block_of s) ≡ true
    at true e = e
    at false e = absurd (false≢true (sym (never_guarded s n e) ∙ guards h))
