-- The seven refusals in their order, and what is left of them once the image is good and the event decoded.
use Prim.Native.Nat.{ℕ, ◌≤◌}
use mathlib.Core.Path.{◌≡◌, refl, sym, ◌∙◌, ap}
use mathlib.Core.Bool.{Bool, true, false, not, ◌&&◌}
use mathlib.Core.List.{List, [], ◌∷◌}
use lib.Dec.{lit≤}
use Rattle.bits.specs.Tests.{first_from}
use Rattle.registers.specs.Block.{block_of}
use Rattle.registers.specs.Status.{ecan, asleep}
use Rattle.events.specs.declared.Event.{Event}
use Rattle.events.specs.declared.Event.TheVariants.{Refused, Register, Mailbox, Heard, Start, Outcome, ReceiveError, Recessive, Tick, Mode, Options, Reset}
use Rattle.events.specs.Decode.{unknown, wakeful, disallowed, event, decoded}
use Rattle.events.proofs.Refusals.{unknown-refused, asleep-refused, disallowed-refused, decoded-event, never_refused}
use Rattle.good.specs.Good.{good_image}
use Rattle.refusals.specs.Refusal.{busy, locked, pointless, refusal, remaining}

-- refusals 5, 6 and 7 of a real event
rest : (s : List ℕ) (v : Event) → ((r : ℕ) → v ≡ Refused r → ⊥)
    → first_from 5 (busy (block_of s) v ∷ locked s v ∷ pointless (block_of s) v ∷ []) ≡ remaining s v
unfolding busy locked pointless remaining
rest s (Refused r) n = absurd (n r refl)
rest s (Register t v) n = refl
rest s (Mailbox k i v) n = refl
rest s (Heard f) n = refl
rest s Start n = refl
rest s (Outcome k) n = refl
rest s (ReceiveError v) n = refl
rest s Recessive n = refl
rest s Tick n = refl
rest s (Mode m) n = refl
rest s (Options v) n = refl
rest s Reset n = refl

module _ (s e : List ℕ) where
  pub refusal-bad : good_image s ≡ false → refusal s e ≡ 1
  unfolding refusal
  refusal-bad g = rw g

  -- of a good image: refusals 2 to 4 are the decoder's, and the others are left
  pub refusal-good : good_image s ≡ true → refusal s e ≡ remaining s (decoded (asleep (block_of s)) (ecan (block_of s)) e)
  unfolding refusal remaining
  refusal-good g = at (unknown e) (wakeful e && asleep (block_of s)) (disallowed (ecan (block_of s)) e) refl refl refl
    where
      at : (u w d : Bool) → unknown e ≡ u → (wakeful e && asleep (block_of s)) ≡ w → disallowed (ecan (block_of s)) e ≡ d
          → refusal s e ≡ remaining s (decoded (asleep (block_of s)) (ecan (block_of s)) e)
      at true w d p q r = rw (g, p) (sym (ap (remaining s) (unknown-refused (asleep (block_of s)) (ecan (block_of s)) e p)))
      at false true d p q r = rw (g, p, q) (sym (ap (remaining s) (asleep-refused (asleep (block_of s)) (ecan (block_of s)) e p q)))
      at false false true p q r = rw (g, p, q, r) (sym (ap (remaining s) (disallowed-refused (asleep (block_of s)) (ecan (block_of s)) e p q r)))
      at false false false p q r =
          rw (g, p, q, r) (rest s (event e) (never_refused e p) ∙ sym (ap (remaining s) (decoded-event (asleep (block_of s)) (ecan (block_of s)) e p q r)))

  -- no other number is ever given
  pub refusal-most : refusal s e ≤ 7
  unfolding refusal
  refusal-most = at (not (good_image s)) (unknown e) (wakeful e && asleep (block_of s)) (disallowed (ecan (block_of s)) e) (busy (block_of s) (event e)) (locked s (event e)) (pointless (block_of s) (event e))
    where
      at : (a b c d f g h : Bool) → first_from 1 (a ∷ b ∷ c ∷ d ∷ f ∷ g ∷ h ∷ []) ≤ 7
      at true b c d f g h = lit≤ tt
      at false true c d f g h = lit≤ tt
      at false false true d f g h = lit≤ tt
      at false false false true f g h = lit≤ tt
      at false false false false true g h = lit≤ tt
      at false false false false false true h = lit≤ tt
      at false false false false false false true = lit≤ tt
      at false false false false false false false = lit≤ tt
