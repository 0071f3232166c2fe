-- Where a frame goes: the five ways, and what each answer says.
use Prim.Native.Nat.{ℕ}
use mathlib.Core.Path.{◌≡◌, refl, sym, ◌∙◌, ap}
use mathlib.Core.Bool.{Bool, true, false, false≢true}
use mathlib.Core.List.{List}
use native.Mathlib.Omega.{arith}
use Rattle.bits.specs.Bit.{bit}
use Rattle.bits.proofs.Sets.{and_r}
use Rattle.registers.specs.Block.{block_of}
use Rattle.registers.specs.Modes.{on_bus}
use Rattle.mailboxes.specs.Mailbox.{mailbox_word, rfh}
use Rattle.events.specs.declared.Frame.{Frame}
use Rattle.filter.specs.declared.Found.{Found}
use Rattle.filter.specs.declared.Found.TheVariants.{At, Missing}
use Rattle.filter.specs.declared.Delivery.{Delivery}
use Rattle.filter.specs.declared.Delivery.TheVariants.{Into, Reply, Nowhere}
use Rattle.filter.specs.Filter.{found, placed, delivery}
use Rattle.filter.proofs.Search.{candidate-bit, is_compared, Stopped, Passed, found-at, found_missing}

abbrev pub heard : List ℕ → Bool
heard s = on_bus (block_of s)

abbrev pub receives : List ℕ → ℕ → Bool
receives s n = bit (block_of s).md n

abbrev pub replies : List ℕ → ℕ → Bool
replies s n = rfh (mailbox_word s n 0)

-- ---- by the tests

module _ (s : List ℕ) (n c : ℕ) where
  pub stored_at : receives s n ≡ true → placed s (At n c) ≡ Into n c
  unfolding placed
  stored_at h = rw h

  pub replied-at : receives s n ≡ false → replies s n ≡ true → placed s (At n c) ≡ Reply n c
  unfolding placed
  replied-at h r = rw (h, r)

  pub ignored-at : receives s n ≡ false → replies s n ≡ false → placed s (At n c) ≡ Nowhere c
  unfolding placed
  ignored-at h r = rw (h, r)

pub nothing-found : (s : List ℕ) (c : ℕ) → placed s (Missing c) ≡ Nowhere c
unfolding placed
nothing-found s c = refl

module _ (s : List ℕ) (f : Frame) where
  -- off the bus a frame is compared with nothing
  pub unheard : heard s ≡ false → delivery s f ≡ Nowhere 0
  unfolding delivery
  unheard h = rw h

  pub taken : heard s ≡ true → (x : Found) → found s f ≡ x → delivery s f ≡ placed s x
  unfolding delivery
  taken h x e = rw h (ap (placed s) e)

-- ---- Receiving: the five ways of a frame, and the answer of each

pub data Way (s : List ℕ) (f : Frame) (d : Delivery) : Type 0 where
  off_bus : heard s ≡ false → d ≡ Nowhere 0 → Way s f d
  no_match : (c : ℕ) → heard s ≡ true → Passed s f c → d ≡ Nowhere c → Way s f d
  stored : (n c : ℕ) → heard s ≡ true → Stopped s f n c → receives s n ≡ true → d ≡ Into n c → Way s f d
  replied : (n c : ℕ) → heard s ≡ true → Stopped s f n c → receives s n ≡ false → replies s n ≡ true → d ≡ Reply n c → Way s f d
  ignored : (n c : ℕ) → heard s ≡ true → Stopped s f n c → receives s n ≡ false → replies s n ≡ false → d ≡ Nowhere c
      → Way s f d

pub way : (s : List ℕ) (f : Frame) → Way s f (delivery s f)
way s f = at (heard s) refl (found s f) refl
  where
    placing : heard s ≡ true → (n c : ℕ) → found s f ≡ At n c → (t : Bool) → receives s n ≡ t → (u : Bool) → replies s n ≡ u → Way s f (delivery s f)
    placing h n c e true p u q =
        stored n c h (found-at s f n c e) p (taken s f h (At n c) e ∙ stored_at s n c p)
    placing h n c e false p true q =
        replied n c h (found-at s f n c e) p q (taken s f h (At n c) e ∙ replied-at s n c p q)
    placing h n c e false p false q =
        ignored n c h (found-at s f n c e) p q (taken s f h (At n c) e ∙ ignored-at s n c p q)

    at : (t : Bool) → heard s ≡ t → (x : Found) → found s f ≡ x → Way s f (delivery s f)
    at false h x e = off_bus h (unheard s f h)
    at true h (At n c) e = placing h n c e (receives s n) refl (replies s n) refl
    at true h (Missing c) e =
        no_match c h (found_missing s f c e) (taken s f h (Missing c) e ∙ nothing-found s c)

-- a data frame is compared with no transmit mailbox
pub data_received : (s : List ℕ) (f : Frame) (n : ℕ) → f.rtr ≡ false → is_compared s f n ≡ true → receives s n ≡ true
data_received s f n h p =
    and_r (bit (block_of s).mc n) (receives s n) (rw h at (sym (candidate-bit (block_of s) f n) ∙ p))

-- ---- the same, from the answer

pub record Stored (s : List ℕ) (f : Frame) (n c : ℕ) : Type 0 where
  pub on_bus_lem : heard s ≡ true
  pub first : Stopped s f n c
  pub receiver : receives s n ≡ true

pub record Replied (s : List ℕ) (f : Frame) (n c : ℕ) : Type 0 where
  pub on_bus_lem : heard s ≡ true
  pub first : Stopped s f n c
  pub transmitter : receives s n ≡ false
  pub automatic : replies s n ≡ true
  pub remote : f.rtr ≡ true

module _ (s : List ℕ) (f : Frame) (n c : ℕ) where
  pub into : delivery s f ≡ Into n c → Stored s f n c
  into e = at (way s f)
    where
      at : Way s f (delivery s f) → Stored s f n c
      at (off_bus h d) = let z : ◌≡◌ {A = ℕ} 0 1 = cc in absurd (omega arith)
      at (no_match k h p d) = let z : ◌≡◌ {A = ℕ} 0 1 = cc in absurd (omega arith)
      at (stored m k h p r d) =
          let a : n ≡ m = cc in
          let b : c ≡ k = cc in
          rw (a, b) (record { on_bus_lem = h; first = p; receiver = r })
      at (replied m k h p r q d) = let z : ◌≡◌ {A = ℕ} 0 1 = cc in absurd (omega arith)
      at (ignored m k h p r q d) = let z : ◌≡◌ {A = ℕ} 0 1 = cc in absurd (omega arith)

  pub reply : delivery s f ≡ Reply n c → Replied s f n c
  reply e = at (way s f)
    where
      remote : (m : ℕ) (t : Bool) → f.rtr ≡ t → is_compared s f m ≡ true → receives s m ≡ false → f.rtr ≡ true
      remote m true q p r = q
      remote m false q p r = absurd (false≢true (sym r ∙ data_received s f m q p))

      at : Way s f (delivery s f) → Replied s f n c
      at (off_bus h d) = let z : ◌≡◌ {A = ℕ} 0 1 = cc in absurd (omega arith)
      at (no_match k h p d) = let z : ◌≡◌ {A = ℕ} 0 1 = cc in absurd (omega arith)
      at (stored m k h p r d) = let z : ◌≡◌ {A = ℕ} 0 1 = cc in absurd (omega arith)
      at (replied m k h p r q d) =
          let a : n ≡ m = cc in
          let b : c ≡ k = cc in
          rw (a, b)
          (record { on_bus_lem = h; first = p; transmitter = r; automatic = q; remote = remote m f.rtr refl p.compared r })
      at (ignored m k h p r q d) = let z : ◌≡◌ {A = ℕ} 0 1 = cc in absurd (omega arith)
