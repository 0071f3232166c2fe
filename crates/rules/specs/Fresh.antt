-- "The image": the register words of a fresh model, which a reset makes again.
use Rattle.std.specs.Prelude.{ℕ, ◌≡◌, cond, [], ◌∷◌}
use Rattle.rules.specs.Words.{◌is◌, Words, Only, MD, MODE, WAITING, SLOT, PROFILE, empty_slot}

-- Zero, but mailbox 31 of a CAN-B receives, the mode is configuration, no mode waits, the slot is empty, and the profile is p: document 02, g).
pub record FreshWords (p : ℕ) (now : Words) : Type 0 where
  pub md : now MD ≡ cond (p is 1) 0 0x80000000
  pub mode : now MODE ≡ 1
  pub waiting : now WAITING ≡ 4
  pub slot : now SLOT ≡ empty_slot
  pub profile : now PROFILE ≡ p
  pub rest : Only (MD ∷ MODE ∷ WAITING ∷ SLOT ∷ PROFILE ∷ []) (λ k. 0) now
