-- What a step knows of its image and of its event.
use Prim.Native.Nat.{ℕ, ◌<◌, ◌≤◌}
use mathlib.Core.Path.{◌≡◌, refl, sym}
use mathlib.Core.Bool.{Bool, true, false, cond, false≢true}
use mathlib.Core.List.{List}
use mathlib.Core.Logic.{◌⊎◌, inl, inr}
use native.Mathlib.Omega.{arith}
use Rattle.words.proofs.Bytes.{Bytes}
use borrow.Author.Tests.{eqb-false}
use Rattle.registers.specs.Block.{block_of, empty_slot}
use Rattle.registers.specs.Status.{vacant}
use Rattle.events.specs.declared.Event.{Event}
use Rattle.events.specs.declared.Event.TheVariants.{Refused, Register, Mailbox, Heard, Start, Outcome, ReceiveError, Recessive, Tick, Mode, Options, Reset}
use Rattle.events.specs.Decode.{event, decoded}
use Rattle.events.proofs.Refusals.{is_refused, refused-number, accepted}
use Rattle.events.proofs.Allowed.{decoded_allowed}
use Rattle.good.specs.Good.{good_image}
use Rattle.good.proofs.Image.{image_facts}
use Rattle.refusals.specs.Refusal.{remaining, Fitting}
use Rattle.model.specs.Parts.{Loaded, Sized}

pub loaded : (s : List ℕ) → Bytes s → good_image s ≡ true → Loaded s
loaded s h g =
    let f = image_facts s h g in
    let r = f.block.core.ranges in
    record { size = f.size; slot = r.slot; tsc = r.tsc; tec = r.tec; rec = r.rec; recovery = r.recovery }

module _ (s : List ℕ) (a p : Bool) (e : List ℕ) (b : Bytes e) (l : Loaded s) where
  pub sized : is_refused (decoded a p e) ≡ false → remaining s (decoded a p e) ≡ 0 → Sized s (decoded a p e)
  unfolding remaining
  sized = at (decoded a p e) refl
    where
      small : (v : ℕ) → ((v ≡ 1) ⊎ (v ≡ 8)) → v ≤ 8
      small v (inl h) = omega arith
      small v (inr h) = omega arith

      filled : (t : Bool) → vacant (block_of s) ≡ t → ◌≡◌ {A = ℕ} (cond t 7 0) 0 → (block_of s).slot < 32
      filled true h z = absurd (omega arith)
      filled false h z = let n = eqb-false (block_of s).slot empty_slot h in omega (arith, l.slot)

      at : (v : Event) → decoded a p e ≡ v → is_refused v ≡ false → remaining s v ≡ 0 → Sized s v
      at (Refused r) h n z = absurd (false≢true (sym n))
      at (Register t v) h n z = tt
      at (Mailbox m k v) h n z = let x = decoded_allowed a p e (Mailbox m k v) b h refl in (x.known, x.word_known)
      at (Heard f) h n z = let x = decoded_allowed a p e (Heard f) b h refl in record { id = x.identifier; dlc = x.dlc }
      at Start h n z = tt
      at (Outcome k) h n z = filled (vacant (block_of s)) refl z
      at (ReceiveError v) h n z = small v (decoded_allowed a p e (ReceiveError v) b h refl)
      at Recessive h n z = tt
      at Tick h n z = tt
      at (Mode m) h n z = tt
      at (Options v) h n z = tt
      at Reset h n z = tt

module _ (a p : Bool) (e : List ℕ) (b : Bytes e) where
  pub fitting : Fitting (decoded a p e)
  fitting = at (decoded a p e) refl
    where
      at : (v : Event) → decoded a p e ≡ v → Fitting v
      at (Refused r) h = tt
      at (Register t v) h = tt
      at (Mailbox n k v) h = (decoded_allowed a p e (Mailbox n k v) b h refl).known
      at (Heard f) h = tt
      at Start h = tt
      at (Outcome k) h = tt
      at (ReceiveError v) h = tt
      at Recessive h = tt
      at Tick h = tt
      at (Mode m) h = tt
      at (Options v) h = tt
      at Reset h = tt

-- a decoded event that gets no refusal is a real one, and that of its bytes
module _ (s : List ℕ) (a p : Bool) (e : List ℕ) where
  pub unrefused : remaining s (decoded a p e) ≡ 0 → is_refused (decoded a p e) ≡ false
  unfolding remaining
  unrefused z = at (decoded a p e) refl z
    where
      none : (r : ℕ) → r ≡ 0 → (r ≡ 2) ⊎ ((r ≡ 3) ⊎ (r ≡ 4)) → ⊥
      none r z (inl h) = omega arith
      none r z (inr (inl h)) = omega arith
      none r z (inr (inr h)) = omega arith

      at : (v : Event) → decoded a p e ≡ v → remaining s v ≡ 0 → is_refused v ≡ false
      at (Refused r) h z = absurd (none r z (refused-number a p e r h))
      at (Register t v) h z = refl
      at (Mailbox n k v) h z = refl
      at (Heard f) h z = refl
      at Start h z = refl
      at (Outcome k) h z = refl
      at (ReceiveError v) h z = refl
      at Recessive h z = refl
      at Tick h z = refl
      at (Mode m) h z = refl
      at (Options v) h z = refl
      at Reset h z = refl

  pub real : remaining s (decoded a p e) ≡ 0 → decoded a p e ≡ event e
  real z = (accepted a p e (decoded a p e) refl (unrefused z)).same
