-- The frames of a run, by what became of each: document 02, g) counts apart those that every matching mailbox passed over.
use Rattle.std.specs.Prelude.{ℕ, ◌+◌, ◌<◌, ◌≡◌, Bool, true, false, not, ◌&&◌, List, [], ◌∷◌, eqb, ltb, get_or}
use Rattle.bits.specs.Bit.{bit}
use Rattle.bits.specs.Below.{count_below}
use Rattle.registers.specs.Block.{registers_at, block_of}
use Rattle.registers.specs.Modes.{on_bus}
use Rattle.mailboxes.specs.Mailbox.{mailboxes}
use Rattle.events.specs.declared.Event.{Event}
use Rattle.events.specs.declared.Event.TheVariants.{Refused, Register, Mailbox, Heard, Start, Outcome, ReceiveError, Recessive, Tick, Mode, Options, Reset}
use Rattle.events.specs.declared.Frame.{Frame}
use Rattle.events.specs.Decode.{event}
use Rattle.filter.specs.Filter.{candidates, matches, hits, passed_over}
use Rattle.answers.specs.Answer.{no_mailbox}
use Rattle.refusals.specs.Refusal.{refusal}
use Rattle.fresh.specs.Fresh.{fresh_image}
use Rattle.model.specs.Step.{accepted, step}
use Rattle.books.specs.Ledger.{one}
use Rattle.books.specs.Happen.{happenings}

-- ---- counting

-- Is the event a frame that passes a test?
abbrev pub is_frame : (Frame → Bool) → Event → Bool
is_frame test (Refused r) = false
is_frame test (Register t v) = false
is_frame test (Mailbox n k v) = false
is_frame test (Heard f) = test f
is_frame test Start = false
is_frame test (Outcome k) = false
is_frame test (ReceiveError v) = false
is_frame test Recessive = false
is_frame test Tick = false
is_frame test (Mode v) = false
is_frame test (Options v) = false
is_frame test Reset = false

-- The same of the bytes e that come to the image s, and of a test of both. A refused event brings no frame.
unfoldable pub brings : (List ℕ → Frame → Bool) → List ℕ → List ℕ → Bool
brings test s e = eqb (refusal s e) 0 && is_frame (test s) (event e)

-- How many frames of a run pass a test, each with the image that it came to.
unfoldable pub frames_in : (List ℕ → Frame → Bool) → List ℕ → List (List ℕ) → ℕ
frames_in test s [] = 0
frames_in test s (e ∷ l) = one (brings test s e) + frames_in test (step s e).image l

-- Document 02, g): how many frames were passed over, in a run from a fresh model of a profile.
abbrev pub passed_in : ℕ → List (List ℕ) → ℕ
passed_in profile events = frames_in passed_over (fresh_image profile) events

-- ---- the classes

-- Receiving: a frame is heard in normal mode, unless the unit is bus off.
abbrev pub heard : List ℕ → Frame → Bool
heard s f = on_bus (block_of s)

-- Receiving: the mailbox that the answer names stores the frame where it receives, and is asked for a reply where it transmits.
abbrev pub names : List ℕ → Frame → ℕ
names s f = (accepted s (Heard f)).mailbox

abbrev pub storing : List ℕ → Frame → Bool
storing s f = ltb (names s f) mailboxes && bit (block_of s).md (names s f)

abbrev pub asking : List ℕ → Frame → Bool
asking s f = ltb (names s f) mailboxes && not (bit (block_of s).md (names s f))

-- Is there a mailbox of which the test holds?
abbrev pub some : (ℕ → Bool) → Bool
some test = ltb 0 (count_below test mailboxes)

-- Receiving: a mailbox takes the frame, but none is named: it transmits and has no RFH, so that it does not reply by itself.
abbrev pub ignored : List ℕ → Frame → Bool
ignored s f = heard s f && (eqb (names s f) no_mailbox && some (hits s f))

-- Receiving: mailbox n is compared with the frame and matches it, be it protected or not; no mailbox does, a plain miss.
abbrev pub fits : List ℕ → Frame → ℕ → Bool
fits s f n = bit (candidates (block_of s) f) n && matches s f n

abbrev pub unmatched : List ℕ → Frame → Bool
unmatched s f = heard s f && not (some (fits s f))

-- ---- what is claimed

-- A count of the frames that are heard is the sum of the counts of the classes: they are stored, ask for a reply, are ignored by a
-- mailbox that transmits, are passed over by every mailbox that matches, or are matched by none.
abbrev pub InOneClass : ((List ℕ → Frame → Bool) → ℕ) → Type 0
InOneClass count = count heard ≡ count storing + count asking + count ignored + count passed_over + count unmatched

-- Document 02, g): each heard frame is of exactly one class, in a run from any image; so of one event too, which is a run.
unfoldable pub Classes : Type 0
Classes = (s : List ℕ) (events : List (List ℕ)) → InOneClass (λ (test : List ℕ → Frame → Bool). frames_in test s events)

-- Document 02, g): a frame that is passed over is stored nowhere. The step names no mailbox; nothing is booked at any of them, so that by
-- EachStep their flags stay; and no byte of the mailboxes, which stand before the registers, changes.
pub record PassedBy (s e : List ℕ) : Type 0 where
  pub unnamed : (step s e).mailbox ≡ no_mailbox
  pub unbooked : (m : ℕ) → m < mailboxes → happenings s e m ≡ []
  pub unstored : (i : ℕ) → i < registers_at → get_or (step s e).image i 0 ≡ get_or s i 0

unfoldable pub Overlooked : Type 0
Overlooked = (s e : List ℕ) → brings passed_over s e ≡ true → PassedBy s e
