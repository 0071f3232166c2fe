-- Every frame that is heard is of one class; one that is passed over is stored nowhere.
use Prim.Native.Nat.{ℕ, zero, suc, ◌+◌, ◌<◌}
use mathlib.Core.Path.{◌≡◌, refl, ◌∙◌, ap}
use mathlib.Core.Bool.{Bool, true, false, cond, not, ◌&&◌, false≢true, and-true, and-false}
use mathlib.Core.List.{List, [], ◌∷◌}
use native.Mathlib.Omega.{arith}
use lib.Dec.{eqb, ltb}
use lib.ListN.{get_or}
use borrow.Author.Tests.{ne_eqb, ltb-true, ltb-false, lt-ltb}
use Rattle.bits.specs.Bit.{bit}
use Rattle.bits.specs.Below.{count_below}
use Rattle.bits.proofs.Sets.{and_l, and_r}
use Rattle.registers.specs.Block.{registers_at, block_of}
use Rattle.registers.specs.Status.{asleep}
use Rattle.registers.specs.Modes.{risen, settled}
use Rattle.registers.specs.Frames.{wakened, listened}
use Rattle.registers.proofs.Laws.{byte-stays}
use Rattle.mailboxes.specs.Mailbox.{mailboxes}
use Rattle.events.specs.declared.Event.{Event}
use Rattle.events.specs.declared.Event.TheVariants.{Refused, Register, Mailbox, Heard, Start, Outcome, ReceiveError, Recessive, Tick, Mode, Options, Reset}
use Rattle.events.specs.declared.Frame.{Frame}
use Rattle.events.specs.Decode.{event}
use Rattle.filter.specs.declared.Delivery.{Delivery}
use Rattle.filter.specs.declared.Delivery.TheVariants.{Nowhere}
use Rattle.filter.specs.Filter.{matches, takes, hits, passes, passed_over, compared_before, delivery}
use Rattle.filter.proofs.Search.{hit, not-compared, not_taking, is_compared, is_guarded, Stopped, Passed}
use Rattle.filter.proofs.Ways.{Way, off_bus, no_match, stored, replied, ignored as left_alone, way}
use Rattle.filter.proofs.Passed.{passed_nowhere}
use Rattle.good.specs.Good.{good_block}
use Rattle.answers.specs.Answer.{no_mailbox}
use Rattle.refusals.specs.Refusal.{refusal}
use Rattle.model.specs.Step.{own, goes, delivered, block_after, stowed, beside_after, named_by, named, accepted, step}
use Rattle.books.specs.Ledger.{one}
use Rattle.books.specs.Happen.{when, direct, dozes, happens, happenings}
use Rattle.books.specs.Frames.{is_frame, brings, frames_in, heard, names, storing, asking, some, ignored, fits, unmatched, InOneClass, Classes, Overlooked}
use Rattle.books.proofs.Balance.{one-not}
use Rattle.books.proofs.Step.{no_other, still_asleep, none-ready, good_block_lem}

-- ---- some mailbox, or none

some-there : (p : ℕ → Bool) (k n : ℕ) → n < k → p n ≡ true → 0 < count_below p k
unfolding count_below
some-there p zero n l h = absurd (omega arith)
some-there p (suc k) n l h = at (ltb n k) refl (some-there p k n)
  where
    at : (t : Bool) → ltb n k ≡ t → (n < k → p n ≡ true → 0 < count_below p k) → 0 < count_below p k + cond (p k) 1 0
    at true e f = let c = f (ltb-true n k e) h in omega arith
    at false e f =
        let g = ltb-false n k e in
        let q : k ≡ n = omega arith in
        rw (ap p q ∙ h) (omega arith)

none-there : (p : ℕ → Bool) (k : ℕ) → ((n : ℕ) → n < k → p n ≡ false) → count_below p k ≡ 0
unfolding count_below
none-there p zero h = refl
none-there p (suc k) h = rw (h k (omega arith)) (omega (arith, none-there p k (λ n l. h n (omega arith))))

-- a mailbox fits that takes the frame or passes it over
module _ (s : List ℕ) (f : Frame) where
  fit : (k : ℕ) → count_below (fits s f) k ≡ count_below (hits s f) k + count_below (passes s f) k
  unfolding count_below hits takes passes
  fit zero = refl
  fit (suc k) = at (is_compared s f k) (matches s f k) (is_guarded s k) (fit k)
    where
      at : (c m g : Bool) → count_below (fits s f) k ≡ count_below (hits s f) k + count_below (passes s f) k
          → count_below (fits s f) k + one (c && m) ≡ count_below (hits s f) k + one (c && (m && not g)) + (count_below (passes s f) k + one (c && (m && g)))
      at true true true h = omega arith
      at true true false h = omega arith
      at true false g h = omega arith
      at false m g h = omega arith

  -- ---- the classes of one frame

  taken : (n c : ℕ) → Stopped s f n c → 0 < count_below (hits s f) mailboxes
  unfolding takes
  taken n c p = some-there (hits s f) mailboxes n p.there (hit s f n p.compared (rw (p.matching, p.unguarded)))

  untaken : (c : ℕ) → Passed s f c → count_below (hits s f) mailboxes ≡ 0
  untaken c p = none-there (hits s f) mailboxes (λ n l. at n (is_compared s f n) refl (p.none n l))
    where
      at : (n : ℕ) (t : Bool) → is_compared s f n ≡ t → (is_compared s f n ≡ true → takes s f n ≡ false) → hits s f n ≡ false
      at n true e h = not_taking s f n (h e)
      at n false e h = not-compared s f n e

  -- the tests, one after the other: a frame that is not heard
  module _ (h : heard s f ≡ false) where
    unheard-ignored : ignored s f ≡ false
    unheard-ignored = rw h

    unheard-over : passed_over s f ≡ false
    unfolding passed_over
    unheard-over = rw h

    unheard-unmatched : unmatched s f ≡ false
    unheard-unmatched = rw h

  -- one that names no mailbox, or names one
  names_by : (x : Delivery) → delivery s f ≡ x → names s f ≡ named_by x
  unfolding accepted named
  names_by x d = ap named_by d

  module _ (e : names s f ≡ no_mailbox) where
    not-storing : storing s f ≡ false
    not-storing = rw e

    not-asking : asking s f ≡ false
    not-asking = rw e

  module _ (n : ℕ) (e : names s f ≡ n) (l : n < mailboxes) where
    storing_by : storing s f ≡ bit (block_of s).md n
    storing_by = rw (e, lt-ltb n mailboxes l)

    asking_by : asking s f ≡ not (bit (block_of s).md n)
    asking_by = rw (e, lt-ltb n mailboxes l)

    not-ignored : ignored s f ≡ false
    not-ignored = rw (e, ne_eqb n no_mailbox (λ q. omega arith), and-false (heard s f))

  -- one that a mailbox takes
  module _ (t : 0 < count_below (hits s f) mailboxes) where
    ignored_by : heard s f ≡ true → names s f ≡ no_mailbox → ignored s f ≡ true
    ignored_by h e = rw (h, e, lt-ltb 0 (count_below (hits s f) mailboxes) t)

    not-over : passed_over s f ≡ false
    unfolding passed_over
    not-over =
        rw (ne_eqb (count_below (hits s f) mailboxes) 0 (λ e. omega arith), and-false (some (passes s f)), and-false (heard s f))

    not-unmatched : unmatched s f ≡ false
    not-unmatched =
        rw (lt-ltb 0 (count_below (fits s f) mailboxes) (omega (arith, fit mailboxes)), and-false (heard s f))

  -- one that none takes: it is passed over, or nothing matches
  module _ (h : heard s f ≡ true) (z : count_below (hits s f) mailboxes ≡ 0) where
    none_ignores : ignored s f ≡ false
    none_ignores = rw (z, and-false (eqb (names s f) no_mailbox), and-false (heard s f))

    over : passed_over s f ≡ some (passes s f)
    unfolding passed_over
    over = rw (h, z) (and-true (some (passes s f)))

    only-passed : count_below (fits s f) mailboxes ≡ count_below (passes s f) mailboxes
    only-passed = omega (arith, fit mailboxes)

    unmatched_by : unmatched s f ≡ not (some (passes s f))
    unmatched_by = rw (h, only-passed)

  classed : InOneClass (λ (test : List ℕ → Frame → Bool). one (test s f))
  classed = at (way s f)
    where
      at : Way s f (delivery s f) → InOneClass (λ (test : List ℕ → Frame → Bool). one (test s f))
      at (off_bus h d) =
          let e = names_by _ d in
          omega (arith, ap one h, ap one (not-storing e), ap one (not-asking e), ap one (unheard-ignored h), ap one (unheard-over h), ap one (unheard-unmatched h))
      at (no_match c h p d) =
          let e = names_by _ d in
          let z = untaken c p in
          omega (arith, ap one h, ap one (not-storing e), ap one (not-asking e), ap one (none_ignores h z), ap one (over h z), ap one (unmatched_by h z), one-not (some (passes s f)))
      at (stored n c h p r d) =
          let e = names_by _ d in
          let l = p.there in
          let t = taken n c p in
          omega (arith, ap one h, ap one (storing_by n e l ∙ r), ap one (asking_by n e l ∙ ap not r), ap one (not-ignored n e l), ap one (not-over t), ap one (not-unmatched t))
      at (replied n c h p r q d) =
          let e = names_by _ d in
          let l = p.there in
          let t = taken n c p in
          omega (arith, ap one h, ap one (storing_by n e l ∙ r), ap one (asking_by n e l ∙ ap not r), ap one (not-ignored n e l), ap one (not-over t), ap one (not-unmatched t))
      at (left_alone n c h p r q d) =
          let e = names_by _ d in
          let t = taken n c p in
          omega (arith, ap one h, ap one (not-storing e), ap one (not-asking e), ap one (ignored_by t h e), ap one (not-over t), ap one (not-unmatched t))

-- ---- the frames of a run

-- of each event, the same of its frame
each : (s : List ℕ) (v : Event) → InOneClass (λ (t : List ℕ → Frame → Bool). one (is_frame (t s) v))
each s (Refused r) = refl
each s (Register t v) = refl
each s (Mailbox n k v) = refl
each s (Heard f) = classed s f
each s Start = refl
each s (Outcome k) = refl
each s (ReceiveError v) = refl
each s Recessive = refl
each s Tick = refl
each s (Mode v) = refl
each s (Options v) = refl
each s Reset = refl

brought : (s e : List ℕ) → InOneClass (λ (t : List ℕ → Frame → Bool). one (brings t s e))
unfolding brings
brought s e = at (eqb (refusal s e) 0)
  where
    at : (u : Bool) → InOneClass (λ (t : List ℕ → Frame → Bool). one (u && is_frame (t s) (event e)))
    at true = each s (event e)
    at false = refl

pub classes : Classes
unfolding Classes frames_in
classes s [] = refl
classes s (e ∷ l) = omega (arith, brought s e, classes (step s e).image l)

-- ---- a step that passes a frame over

-- an event that passes a test of frames is a frame
pub record Brought (test : Frame → Bool) (v : Event) : Type 0 where
  pub frame : Frame
  pub event_of : v ≡ Heard frame
  pub passes_test : test frame ≡ true

frame_of_lem : (test : Frame → Bool) (v : Event) → is_frame test v ≡ true → Brought test v
frame_of_lem test (Heard f) h = record { frame = f; event_of = refl; passes_test = h }
frame_of_lem test (Refused r) h = absurd (false≢true h)
frame_of_lem test (Register t v) h = absurd (false≢true h)
frame_of_lem test (Mailbox n k v) h = absurd (false≢true h)
frame_of_lem test Start h = absurd (false≢true h)
frame_of_lem test (Outcome k) h = absurd (false≢true h)
frame_of_lem test (ReceiveError v) h = absurd (false≢true h)
frame_of_lem test Recessive h = absurd (false≢true h)
frame_of_lem test Tick h = absurd (false≢true h)
frame_of_lem test (Mode v) h = absurd (false≢true h)
frame_of_lem test (Options v) h = absurd (false≢true h)
frame_of_lem test Reset h = absurd (false≢true h)

module _ (s : List ℕ) (f : Frame) (c : ℕ) (d : delivery s f ≡ Nowhere c) where
  unnamed : (accepted s (Heard f)).mailbox ≡ no_mailbox
  unnamed = names_by s f (Nowhere c) d

  -- such a frame ends no wait, so nobody falls asleep
  no_sleep : good_block (block_of s) ≡ true → dozes (block_of s) (block_after s (Heard f)) ≡ false
  unfolding block_after own goes delivered settled risen listened
  no_sleep g =
      let b = block_of s in
      rw (d, none-ready b g) (no_other (asleep b) _ (still_asleep (wakened b) b.mode))

  unbooked : good_block (block_of s) ≡ true → (m : ℕ) → m < mailboxes → happens s (Heard f) m ≡ []
  unfolding happens direct when
  unbooked g m l = rw (unnamed, ne_eqb m no_mailbox (λ e. omega arith), no_sleep g)

  unstored : (i : ℕ) → i < registers_at → get_or (accepted s (Heard f)).image i 0 ≡ get_or s i 0
  unfolding accepted beside_after stowed
  unstored i l = rw d (byte-stays s (block_after s (Heard f)) i l)

pub overlooked : Overlooked
unfolding Overlooked brings step happenings
overlooked s e h =
    let z = and_l (eqb (refusal s e) 0) (is_frame (passed_over s) (event e)) h in
    let p = frame_of_lem (passed_over s) (event e) (and_r (eqb (refusal s e) 0) (is_frame (passed_over s) (event e)) h) in
    let d = passed_nowhere s p.frame p.passes_test in
    let c = compared_before s p.frame mailboxes in
    record {
      unnamed = rw (z, p.event_of) (unnamed s p.frame c d);
      unbooked = λ m l. rw (z, p.event_of) (unbooked s p.frame c d (good_block_lem s e z) m l);
      unstored = λ i l. rw (z, p.event_of) (unstored s p.frame c d i l);
    }
