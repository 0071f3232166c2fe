-- Refusals 2, 3 and 4: which one an event gets, exactly, and that an event that gets none is a real event.
use Rattle.std.proofs.lemmas.Bool.{or_parts}
use Prim.Native.Nat.{ℕ, ◌<◌, ◌≤◌}
use mathlib.Core.Path.{◌≡◌, refl, sym, ◌∙◌, ap, subst}
use mathlib.Core.Bool.{Bool, true, false, not, ◌&&◌, false≢true}
use mathlib.Core.List.{List}
use mathlib.Core.Logic.{◌⊎◌, inl, inr}
use native.Mathlib.Decide.{dec_lt}
use native.Mathlib.Omega.{arith}
use lib.Dec.{eqb}
use lib.ListN.{length, get_or-eq_default}
use borrow.Author.Tests.{eqb-true, ne_eqb, not-false}
use Rattle.bits.specs.Below.{all_below}
use Rattle.bits.proofs.Below.{each_below}
use Rattle.events.specs.declared.Event.{Event}
use Rattle.events.specs.declared.Event.TheVariants.{Refused, Register, Mailbox, Heard, Start, Outcome, ReceiveError, Recessive, Tick, Mode, Options, Reset}
use Rattle.events.specs.Parts.{event_bytes, operation}
use Rattle.events.specs.Decode.{known_as, wakeful_as, event_as, unknown, wakeful, disallowed, event, decoded}
use Rattle.events.proofs.Laws.{operations}

-- ---- the refusal of each test

module _ (a p : Bool) (e : List ℕ) where
  pub unknown-refused : unknown e ≡ true → decoded a p e ≡ Refused 2
  unfolding decoded
  unknown-refused u = rw u

  pub asleep-refused : unknown e ≡ false → (wakeful e && a) ≡ true → decoded a p e ≡ Refused 3
  unfolding decoded
  asleep-refused u w = rw (u, w)

  pub disallowed-refused : unknown e ≡ false → (wakeful e && a) ≡ false → disallowed p e ≡ true → decoded a p e ≡ Refused 4
  unfolding decoded
  disallowed-refused u w d = rw (u, w, d)

  pub decoded-event : unknown e ≡ false → (wakeful e && a) ≡ false → disallowed p e ≡ false → decoded a p e ≡ event e
  unfolding decoded
  decoded-event u w d = rw (u, w, d)

-- ---- what is known of an event that refusal 2 does not meet

-- a known operation is one of the table's
pub known_below : (e : List ℕ) (k : ℕ) → known_as k e ≡ true → k < operations
known_below e k h = at (dec_lt k operations)
  where
    at : Dec (k < operations) → k < operations
    at (yes l) = l
    at (no l) =
        let p : operations ≤ k = omega arith in
        absurd (false≢true (rw (get_or-eq_default _ false p) at h))

module _ (e : List ℕ) (u : unknown e ≡ false) where
  pub known-length : length e ≡ event_bytes
  known-length =
      eqb-true (length e) event_bytes
      (not-false _ (or_parts (not (eqb (length e) event_bytes)) (not (known_as (operation e) e)) u).0)

  pub known-operation : known_as (operation e) e ≡ true
  known-operation =
      not-false _ (or_parts (not (eqb (length e) event_bytes)) (not (known_as (operation e) e)) u).1

-- ---- a real event

-- The events: the operation whose case an event is; a refusal is no operation's.
abbrev pub operation_of : Event → ℕ
operation_of (Refused n) = operations
operation_of (Register t v) = 0
operation_of (Mailbox n k v) = 1
operation_of (Heard f) = 2
operation_of Start = 3
operation_of (Outcome k) = 4
operation_of (ReceiveError v) = 5
operation_of Recessive = 6
operation_of Tick = 7
operation_of (Mode v) = 8
operation_of (Options v) = 9
operation_of Reset = 10

abbrev pub is_refused : Event → Bool
is_refused v = eqb (operation_of v) operations

module _ (e : List ℕ) (u : unknown e ≡ false) where
  pub operation_below : operation e < operations
  operation_below = known_below e (operation e) (known-operation e u)

  -- each operation has its own case
  pub case_of : operation_of (event e) ≡ operation e
  unfolding all_below
  case_of =
      eqb-true (operation_of (event e)) (operation e)
      (each_below (λ k. eqb (operation_of (event_as k e)) k) operations refl (operation e) operation_below)

  -- so no event that is known is a refusal
  pub never_refused : (n : ℕ) → event e ≡ Refused n → ⊥
  never_refused n h = let p = sym case_of ∙ ap operation_of h in let l = operation_below in omega arith

-- ---- exactly these refusals

-- The events: refusals 2, 3 and 4, each where its own test holds and none before it does.
pub data Refusal (a p : Bool) (e : List ℕ) : ℕ → Type 0 where
  not_known : unknown e ≡ true → Refusal a p e 2
  sleeping : unknown e ≡ false → (wakeful e && a) ≡ true → Refusal a p e 3
  not_allowed : unknown e ≡ false → (wakeful e && a) ≡ false → disallowed p e ≡ true → Refusal a p e 4

pub refusal_given : (a p : Bool) (e : List ℕ) {r : ℕ} → Refusal a p e r → decoded a p e ≡ Refused r
refusal_given a p e (not_known u) = unknown-refused a p e u
refusal_given a p e (sleeping u w) = asleep-refused a p e u w
refusal_given a p e (not_allowed u w d) = disallowed-refused a p e u w d

same_number : (m n : ℕ) → Refused m ≡ Refused n → m ≡ n
same_number m n h = cc

pub refusal-reason : (a p : Bool) (e : List ℕ) (r : ℕ) → decoded a p e ≡ Refused r → Refusal a p e r
refusal-reason a p e r h = at (unknown e) (wakeful e && a) (disallowed p e) refl refl refl
  where
    found : (n : ℕ) → Refusal a p e n → Refusal a p e r
    found n x = subst (Refusal a p e) (same_number n r (sym (refusal_given a p e x) ∙ h)) x

    at : (u w d : Bool) → unknown e ≡ u → (wakeful e && a) ≡ w → disallowed p e ≡ d → Refusal a p e r
    at true w d x q s = found 2 (not_known x)
    at false true d x q s = found 3 (sleeping x q)
    at false false true x q s = found 4 (not_allowed x q s)
    at false false false x q s = absurd (never_refused e x r (sym (decoded-event a p e x q s) ∙ h))

number_of : {a p : Bool} {e : List ℕ} {r : ℕ} → Refusal a p e r → (r ≡ 2) ⊎ ((r ≡ 3) ⊎ (r ≡ 4))
number_of (not_known u) = inl refl
number_of (sleeping u w) = inr (inl refl)
number_of (not_allowed u w d) = inr (inr refl)

pub refused-number : (a p : Bool) (e : List ℕ) (r : ℕ) → decoded a p e ≡ Refused r → (r ≡ 2) ⊎ ((r ≡ 3) ⊎ (r ≡ 4))
refused-number a p e r h = number_of (refusal-reason a p e r h)

-- ---- and exactly these events

-- None of the three tests holds, and the event is that of the bytes.
pub record Accepted (a p : Bool) (e : List ℕ) (v : Event) : Type 0 where
  pub known : unknown e ≡ false
  pub awake : (wakeful e && a) ≡ false
  pub fair : disallowed p e ≡ false
  pub same : v ≡ event e

pub accepted : (a p : Bool) (e : List ℕ) (v : Event) → decoded a p e ≡ v → is_refused v ≡ false → Accepted a p e v
accepted a p e v h n = at (unknown e) (wakeful e && a) (disallowed p e) refl refl refl
  where
    refused : (r : ℕ) → Refusal a p e r → Accepted a p e v
    refused r x = absurd (false≢true (sym n ∙ ap is_refused (sym h ∙ refusal_given a p e x)))

    at : (u w d : Bool) → unknown e ≡ u → (wakeful e && a) ≡ w → disallowed p e ≡ d → Accepted a p e v
    at true w d x q s = refused 2 (not_known x)
    at false true d x q s = refused 3 (sleeping x q)
    at false false true x q s = refused 4 (not_allowed x q s)
    at false false false x q s = record { known = x; awake = q; fair = s; same = sym h ∙ decoded-event a p e x q s }

-- The events, refusal 3: no write and no change of the options is accepted asleep.
pub write-awake : (a p : Bool) (e : List ℕ) (v : Event) → decoded a p e ≡ v → wakeful_as (operation_of v) ≡ true → a ≡ false
write-awake a p e v h w =
    let real : is_refused v ≡ false = ne_eqb (operation_of v) operations (λ o. false≢true (sym (ap wakeful_as o) ∙ w)) in
    let x = accepted a p e v h real in
    let k : wakeful e ≡ true = ap wakeful_as (sym (ap operation_of x.same ∙ case_of e x.known)) ∙ w in
    rw k at x.awake
