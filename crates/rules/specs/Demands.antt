-- Demands 1 and 2, in the officer's order, over what a C caller sees: s and e are the bytes of an image and of an event, x the bytes that
-- a call left in what it was lent, a the number that it answered. Demand 3 is in the crate `books`.
use Rattle.std.specs.Prelude.{ℕ, ◌+◌, ◌*◌, ◌%◌, ◌≤◌, ◌≡◌, List, length, take}
use Rattle.words.specs.Bytes.{Bytes}
use Rattle.rules.specs.Words.{BoxesStayBut}
use Rattle.rules.specs.Image.{Good}
use Rattle.rules.specs.Events.{operation, Applies, FirstRefusal}
use Rattle.rules.specs.Receiving.{First}
use Rattle.rules.specs.Listing.{Trace, ascii}
use Rattle.rules.specs.Calls.{FreshCall, StepCall, ListingCall}

-- Demand 1. Whatever the bytes of image and event are, a step answers. Where a refusal is the first that applies, the answer is its number
-- with mailbox 32 and count 0; the image keeps its bytes. Where none applies, the event is not refused. A file that is no trace gets the
-- one line with 8.
pub record Demand1 : Type 0 where
  pub answered : (s e : List ℕ) → Bytes s → Bytes e → (x : List ℕ) × (a : ℕ) × StepCall s e x a
  pub refused : (s e x : List ℕ) (a : ℕ) → StepCall s e x a → (r : ℕ) → FirstRefusal s e r → (x ≡ s) × (a ≡ r + 256 * 32 + 65536 * 0)
  pub accepted : (s e x : List ℕ) (a : ℕ) → StepCall s e x a → ((r : ℕ) → Applies s e r → ⊥) → a % 256 ≡ 0
  pub malformed : (f o x : List ℕ) (a : ℕ) → ListingCall f o x a → 39033 ≤ length o → ((p q r : List (List ℕ)) → Trace f p q r → ⊥)
      → take a x ≡ ascii "trace refused 8\n"

-- Demand 2. What a step leaves and answers is exactly what the rules lay down: no second result keeps them. A fresh image is good, and a
-- good image stays good. Of the mailboxes a frame can change one only, the one that the search stops at.
pub record Demand2 : Type 0 where
  pub exactly : (s e : List ℕ) → Bytes s → Bytes e → (x y : List ℕ) (a b : ℕ) → StepCall s e x a → StepCall s e y b → (x ≡ y) × (a ≡ b)
  pub fresh : (s x : List ℕ) (p a : ℕ) → FreshCall s p x a → length s ≡ 776 → p ≤ 1 → Good x
  pub good : (s e x : List ℕ) (a : ℕ) → Bytes s → Bytes e → StepCall s e x a → Good s → Good x
  pub picked : (s e x : List ℕ) (a : ℕ) → Bytes s → Bytes e → StepCall s e x a → operation e ≡ 2 → (k n : ℕ) → First s e k n → BoxesStayBut n s x
  pub nobody : (s e x : List ℕ) (a : ℕ) → Bytes s → Bytes e → StepCall s e x a → operation e ≡ 2 → ((k n : ℕ) → First s e k n → ⊥) → BoxesStayBut 32 s x
