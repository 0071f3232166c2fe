-- What is known of an event that gets none of refusals 2, 3 and 4, case by case.
use Prim.Native.Nat.{ℕ, ◌*◌, ◌/◌, ◌%◌, ◌^◌, ◌<◌, ◌≤◌}
use mathlib.Core.Path.{◌≡◌, refl, sym, subst}
use mathlib.Core.Bool.{Bool, true, false, not, ◌&&◌, ◌||◌}
use mathlib.Core.List.{List, [], ◌∷◌}
use mathlib.Core.Logic.{◌⊎◌, inl, inr}
use native.Mathlib.Omega.{arith}
use lib.Dec.{eqb, leb}
use borrow.Author.Tests.{leb-true, eqb-true, not-false}
use Rattle.bits.specs.Bit.{bit}
use Rattle.bits.proofs.Sets.{and_l, and_r}
use Rattle.bits.proofs.Tests.{all}
use Rattle.words.proofs.Bytes.{Bytes, word_lt}
use Rattle.mailboxes.specs.Mailbox.{word_layout}
use Rattle.mailboxes.specs.Filing.{highest_dlc, data_bytes}
use Rattle.events.specs.declared.Frame.{Frame}
use Rattle.events.specs.declared.Event.{Event}
use Rattle.events.specs.declared.Event.TheVariants.{Refused, Register, Mailbox, Heard, Start, Outcome, ReceiveError, Recessive, Tick, Mode, Options, Reset}
use Rattle.events.specs.Parts.{operation, target, word, value, frame_of, frame_bytes, frame_allowed}
use Rattle.events.specs.Decode.{writable, last_outcome, known_as, quiet_as, register_allowed, allowed_as, event_as, unknown, disallowed, event, decoded}
use Rattle.events.proofs.Laws.{operations, Each, each}
use Rattle.events.proofs.Unused.{payload_lt, quiet_data}
use Rattle.events.proofs.Refusals.{known-operation, operation_below, is_refused, accepted}

-- ---- the facts

-- register t, one that can be written, and its value, in an eCAN or not
pub record RegisterAllowed (p : Bool) (t v : ℕ) : Type 0 where
  pub known : writable t ≡ true
  pub small : v < 2 ^ 32
  pub valued : register_allowed p t v ≡ true

-- word k of mailbox n
pub record MailboxAllowed (n k v : ℕ) : Type 0 where
  pub known : n < 32
  pub word_known : k < 4
  pub small : v < 2 ^ 32
  pub laid : word_layout k v ≡ true

pub record FrameAllowed (f : Frame) : Type 0 where
  pub dlc : f.dlc ≤ highest_dlc
  pub identifier : f.id.0 < 2 ^ 29
  pub standard : f.ide ≡ false → f.id.0 % 2 ^ 18 ≡ 0
  pub small : f.bytes < 2 ^ 64
  pub unused : f.bytes / 2 ^ (8 * data_bytes f.rtr f.dlc) ≡ 0

abbrev pub Allowed : Bool → Event → Type 0
Allowed p (Refused n) = ⊥
Allowed p (Register t v) = RegisterAllowed p t v
Allowed p (Mailbox n k v) = MailboxAllowed n k v
Allowed p (Heard f) = FrameAllowed f
Allowed p Start = Unit
Allowed p (Outcome k) = k ≤ last_outcome
Allowed p (ReceiveError v) = (v ≡ 1) ⊎ (v ≡ 8)
Allowed p Recessive = Unit
Allowed p Tick = Unit
Allowed p (Mode v) = v ≤ 3
Allowed p (Options v) = v ≤ 3
Allowed p Reset = Unit

-- ---- an operation at a time

either_eqb : (x m n : ℕ) → (eqb x m || eqb x n) ≡ true → (x ≡ m) ⊎ (x ≡ n)
either_eqb x m n h = at (eqb x m) refl
  where
    at : (t : Bool) → eqb x m ≡ t → (x ≡ m) ⊎ (x ≡ n)
    at true p = inl (eqb-true x m p)
    at false p = inr (eqb-true x n (rw p at h))

module _ (p : Bool) (e : List ℕ) (b : Bytes e) where
  abbrev Fits : ℕ → Type 0
  Fits k = known_as k e ≡ true → quiet_as k e ≡ true → allowed_as k p e ≡ true → Allowed p (event_as k e)

  register : Fits 0
  register k q a = record { known = k; small = word_lt e b 4; valued = a }

  mailbox : Fits 1
  mailbox k q a =
      let n = leb-true (target e) 31 (and_l (leb (target e) 31) (leb (word e) 3) k) in
      let w = leb-true (word e) 3 (and_r (leb (target e) 31) (leb (word e) 3) k) in
      record { known = omega arith; word_known = omega arith; small = word_lt e b 4; laid = a }

  heard : Fits 2
  unfolding frame_of frame_allowed
  heard k q a =
      let v = value e in
      let f = all (leb (target e) highest_dlc ∷ not (bit v 29) ∷ (bit v 31 || eqb (v % 2 ^ 18) 0) ∷ []) a in
      record {
        dlc = leb-true (target e) highest_dlc f.0;
        identifier = omega arith;
        standard = λ i. let z = eqb-true (v % 2 ^ 18) 0 (rw i at f.1.1.0) in omega arith;
        small = payload_lt e b;
        unused = quiet_data e true false true (frame_bytes e) q;
      }

  outcome : Fits 4
  outcome k q a = leb-true (target e) last_outcome k

  receive_error : Fits 5
  receive_error k q a = either_eqb (value e) 1 8 a

  mode : Fits 8
  mode k q a = leb-true (value e) 3 a

  options : Fits 9
  options k q a = leb-true (value e) 3 a

  allowed_as_lem : Each Fits operations
  allowed_as_lem =
      let writes : Each Fits 2 = ((tt, register), mailbox) in
      let sends : Each Fits 5 = (((writes, heard), λ k q a. tt), outcome) in
      let counts : Each Fits 8 = (((sends, receive_error), λ k q a. tt), λ k q a. tt) in
      (((counts, mode), options), λ k q a. tt)

pub allowed : (p : Bool) (e : List ℕ) → Bytes e → unknown e ≡ false → disallowed p e ≡ false → Allowed p (event e)
allowed p e b u d =
    let k = known-operation e u in
    let q = quiet_as (operation e) e in
    let a = allowed_as (operation e) p e in
    let both : (q && a) ≡ true = not-false (q && a) d in
    each (Fits p e b) operations (allowed_as_lem p e b) (operation e) (operation_below e u) k (and_l q a both) (and_r q a both)

-- the same of what decoding gives
pub decoded_allowed : (a p : Bool) (e : List ℕ) (v : Event) → Bytes e → decoded a p e ≡ v → is_refused v ≡ false → Allowed p v
decoded_allowed a p e v b h n =
    let x = accepted a p e v h n in
    subst (Allowed p) (sym x.same) (allowed p e b x.known x.fair)
