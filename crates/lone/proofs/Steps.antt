-- One step of a tool alone: what it leaves of TEC.
use Rattle.std.proofs.lemmas.Bool.{or_parts}
use Prim.Native.Nat.{ℕ, ◌+◌, ◌<◌, ◌≤◌}
use mathlib.Core.Path.{◌≡◌, refl, sym, ◌∙◌}
use mathlib.Core.Bool.{Bool, true, false, cond}
use mathlib.Core.List.{List}
use mathlib.Core.Logic.{◌≢◌, inl, inr}
use native.Mathlib.Decide.{ℕ_discrete}
use native.Mathlib.Omega.{arith}
use borrow.Author.Tests.{ne_eqb, ltb-false, lt-ltb}
use Rattle.words.specs.Bytes.{Bytes}
use Rattle.model.specs.Step.{step}
use Rattle.rules.specs.Words.{Words, words, TEC, WAITING}
use Rattle.rules.specs.Image.{passive}
use Rattle.rules.specs.Events.{operation, Applies, slot_empty}
use Rattle.rules.specs.Sending.{taken, Unsent, unacknowledged_tec, Ending}
use Rattle.rules.specs.Step.{Accepted}
use Rattle.rules.proofs.Good.{good-rule}
use Rattle.rules.proofs.Order.{accepted-good, no_number}
use Rattle.rules.proofs.Step.{step_meets, stays-or_moves}
use Rattle.lone.specs.Lone.{Alone, Counts}

-- ---- the end of a step

module _ (was now : Words) (k : Ending was now) where
  -- TEC stays, unless a sleep is taken
  end_stays : was WAITING ≢ 2 → now TEC ≡ was TEC
  end_stays h = at (taken was) refl
    where
      at : (t : Bool) → taken was ≡ t → now TEC ≡ was TEC
      at false e = k.none e TEC refl
      at true e = k.awake e h TEC refl

  -- and rises in no case
  end_most : now TEC ≤ was TEC
  end_most = at (taken was) refl (ℕ_discrete (was WAITING) 2)
    where
      at : (t : Bool) → taken was ≡ t → Dec (was WAITING ≡ 2) → now TEC ≤ was TEC
      at false e d = let z = k.none e TEC refl in omega arith
      at true e (yes h) = let z = (k.asleep e h).0 in omega arith
      at true e (no h) = let z = k.awake e h TEC refl in omega arith

-- ---- the step

module _ (s e : List ℕ) (bytes : Bytes s) (small : Bytes e) where
  pub step-bytes : Bytes (step s e).image
  step-bytes = stays-or_moves s e bytes small (step s e) (step_meets s e bytes small) Bytes bytes (λ p. record { small = p.size.1 })

  -- passive, TEC stays; otherwise it is at most 127 before, and 135 after
  room : (t : Bool) → passive (words s) ≡ t → words s TEC < 256 → cond t (words s TEC) (words s TEC + 8) < 256
  room true e h = h
  room false e h = let l = ltb-false 127 (words s TEC) (or_parts _ _ e).0 in omega arith

  pub below : words s TEC < 256 → Alone e → words (step s e).image TEC < 256
  below h a = stays-or_moves s e bytes small (step s e) (step_meets s e bytes small) (λ x. words x TEC < 256) h (at a)
    where
      ends : (p : Accepted s e (step s e)) → p.middle TEC < 256 → words (step s e).image TEC < 256
      ends p l = let k = end_most p.middle (words (step s e).image) p.ending in omega arith

      at : Alone e → Accepted s e (step s e) → words (step s e).image TEC < 256
      at (y, inl op) p = ends p (let z = (p.does.start op).0.rest TEC refl in omega arith)
      at (y, inr (op, t)) p = ends p (let z = (p.does.unacknowledged op t).0.tec in let r = room (passive (words s)) refl h in omega arith)

-- an outcome that is accepted finds a mailbox in the slot, and so no bus off
outcome_below : (s e : List ℕ) → Bytes s → Bytes e → operation e ≡ 4 → ((r : ℕ) → Applies s e r → ⊥) → words s TEC < 256
outcome_below s e bytes small op free =
    let g = good-rule s bytes (accepted-good s e bytes small (no_number s e bytes small free)) in
    (g.registers.filled (λ z. free 7 (slot_empty refl (rw (op, z))))).1

by_cases : {A C : Type 0} → Dec A → (A → C) → ((A → ⊥) → C) → C
by_cases (yes a) f g = f a
by_cases (no n) f g = g n

pub counts : Counts
unfolding Counts
counts s e bytes small op t free =
    by_cases (ℕ_discrete (words s WAITING) 2) (λ z. rw z (clears z)) (λ w. rw (ne_eqb (words s WAITING) 2 w) (counted w))
  where
    p : Accepted s e (step s e)
    p = (step_meets s e bytes small).accepts free

    u : Unsent (unacknowledged_tec (words s)) (words s) p.middle
    u = (p.does.unacknowledged op t).0

    clears : words s WAITING ≡ 2 → words (step s e).image TEC ≡ 0
    clears z =
        let waits = u.rest WAITING refl ∙ z in
        let low : p.middle TEC < 256 = rw u.tec (room s e bytes small (passive (words s)) refl (outcome_below s e bytes small op free)) in
        (p.ending.asleep (rw (waits, u.slot, lt-ltb (p.middle TEC) 256 low)) waits).0

    counted : words s WAITING ≢ 2 → words (step s e).image TEC ≡ unacknowledged_tec (words s)
    counted w = end_stays p.middle (words (step s e).image) p.ending (λ z. w (sym (u.rest WAITING refl) ∙ z)) ∙ u.tec
