-- What happens at mailbox m in a step, from the event and its answer; runs of steps, their books, and what is claimed of them.
use Rattle.std.specs.Prelude.{ℕ, ◌<◌, ◌≤◌, ◌≡◌, Bool, cond, not, ◌&&◌, List, [], ◌∷◌, ◌++◌, eqb, get_or}
use Rattle.bits.specs.Bit.{bit}
use Rattle.registers.specs.declared.Block.{Block}
use Rattle.registers.specs.Block.{block_of, e_can}
use Rattle.registers.specs.Status.{filled, asleep}
use Rattle.mailboxes.specs.Mailbox.{mailboxes}
use Rattle.events.specs.declared.Event.{Event}
use Rattle.events.specs.declared.Event.TheVariants.{Refused, Register, Mailbox, Heard, Start, Outcome, ReceiveError, Recessive, Tick, Mode, Options, Reset}
use Rattle.events.specs.Decode.{event}
use Rattle.refusals.specs.Refusal.{refusal}
use Rattle.fresh.specs.Fresh.{fresh_image}
use Rattle.model.specs.Step.{block_after, accepted, step}
use Rattle.books.specs.Ledger.{Happening, store, acknowledge, request, cancel, start, send, fail, sleep, reset, Now, now, afters, Book, books, empty, Balanced}

-- ---- one step

-- A happening where a test holds, none where it does not.
unfoldable pub when : Bool → Happening → List Happening
when t h = cond t (h ∷ []) []

-- Writing: what a write does at a mailbox, register by register, by two tests: has the value its bit, and does it receive? TRS (2) asks
-- at transmit mailboxes, TRR (3) cancels, RMP (6) acknowledges; no other register has a part in the books.
abbrev pub by_write : Bool → Bool → List (List Happening)
by_write set receives =
    [] ∷ [] ∷ when (set && not receives) request ∷ when set cancel ∷ [] ∷ [] ∷ when set acknowledge ∷ []

-- The events: what each operation does at mailbox m, by two tests: does the answer name it, and does it receive? A frame is stored where
-- it does, and asks for a reply elsewhere. Every outcome but sent (0) is one that failed.
unfoldable pub direct : Bool → Bool → Event → ℕ → List Happening
direct named receives (Refused r) m = []
direct named receives (Register t v) m = get_or (by_write (bit v m) receives) t []
direct named receives (Mailbox n k v) m = []
direct named receives (Heard f) m = when named (cond receives store request)
direct named receives Start m = when named start
direct named receives (Outcome k) m = when named (cond (eqb k 0) send fail)
direct named receives (ReceiveError v) m = []
direct named receives Recessive m = []
direct named receives Tick m = []
direct named receives (Mode v) m = []
direct named receives (Options v) m = []
direct named receives Reset m = reset ∷ []

-- Sending, errors, modes: did the unit fall asleep between two blocks?
abbrev pub dozes : Block → Block → Bool
dozes before after = not (asleep before) && asleep after

-- An accepted step: the operation, then a sleep, which comes at its end. Besides event and answer only MD's bit and the mode are read.
unfoldable pub happens : List ℕ → Event → ℕ → List Happening
happens s e m =
    direct (eqb m (accepted s e).mailbox) (bit (block_of s).md m) e m ++ when (dozes (block_of s) (block_after s e)) sleep

-- The books of one mailbox: what happens at m when the bytes e come to the image s; a refused step books nothing.
unfoldable pub happenings : List ℕ → List ℕ → ℕ → List Happening
happenings s e m = cond (eqb (refusal s e) 0) (happens s (event e) m) []

-- ---- a run: each step is given the image that the last one left

unfoldable pub run : List ℕ → List (List ℕ) → List ℕ
run s [] = s
run s (e ∷ l) = run (step s e).image l

-- The books of one mailbox: all that happens at m in a run, in order.
unfoldable pub history : ℕ → List ℕ → List (List ℕ) → List Happening
history m s [] = []
history m s (e ∷ l) = happenings s e m ++ history m (step s e).image l

-- The image that the events leave of a fresh model of a profile, and the book of mailbox m, which began empty.
abbrev pub left : ℕ → List (List ℕ) → List ℕ
left profile events = run (fresh_image profile) events

abbrev pub booked : ℕ → ℕ → List (List ℕ) → Book
booked profile m events = books empty (history m (fresh_image profile) events)

-- ---- what is claimed

-- Demand 3 of mailbox m, an image s and a book k: the book balances; RMP's bit is up exactly where a frame is held, RML's where
-- one was lost, TRS's where a request waits.
pub record Kept (m : ℕ) (s : List ℕ) (k : Book) : Type 0 where
  pub balanced : Balanced k
  pub pending : bit (block_of s).rmp m ≡ k.now.held
  pub lost : bit (block_of s).rml m ≡ k.now.lost
  pub requested : bit (block_of s).trs m ≡ k.now.waiting

-- Demand 3: in either profile, after any events of any bytes from a fresh model, for every mailbox.
unfoldable pub Demand3 : Type 0
Demand3 =
    (profile : ℕ) → profile ≤ e_can → (events : List (List ℕ)) (m : ℕ) → m < mailboxes
    → Kept m (left profile events) (booked profile m events)

-- Is mailbox m in the slot?
abbrev pub in_slot : Block → ℕ → Bool
in_slot b m = filled b && eqb m b.slot

-- What the flag words and the slot of an image say of mailbox m.
abbrev pub flags : ℕ → List ℕ → Now
flags m s = let b = block_of s in now (bit b.rmp m) (bit b.rml m) (bit b.trs m) (in_slot b m) (bit b.trr m)

-- The same step by step, of any image and any event: the flags after it are those before it, changed by what happens, in order.
unfoldable pub EachStep : Type 0
EachStep = (s e : List ℕ) (m : ℕ) → m < mailboxes → flags m (step s e).image ≡ afters (flags m s) (happenings s e m)
