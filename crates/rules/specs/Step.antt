-- The rulebook together: what one event leaves, and what a call answers.
use Rattle.std.specs.Prelude.{ℕ, ◌+◌, ◌*◌, ◌%◌, ◌<◌, ◌≤◌, ◌≡◌, List, [], ◌∷◌, ◌≢◌, length}
use Rattle.answers.specs.Answer.{Outcome}
use Rattle.rules.specs.Words.{Words, words, byte, box, at_most, Only, BoxesStayBut, TSC, TEC, SLOT, OPTIONS, PROFILE}
use Rattle.rules.specs.Events.{operation, target, word, value, Applies, FirstRefusal, Answers}
use Rattle.rules.specs.Writing.{Write, BoxWrite}
use Rattle.rules.specs.Receiving.{Frame}
use Rattle.rules.specs.Sending.{Start, Sent, Unsent, unacknowledged_tec, ReceiveError, Recessive, Tick, Mode, Ending}
use Rattle.rules.specs.Fresh.{FreshWords}

-- The events: an accepted one answers mailbox 32, count 0 where nothing else is said. Here no mailbox byte changes either.
abbrev pub Quiet : List ℕ → Outcome → Type 0
Quiet s o = Answers 32 0 o × BoxesStayBut 32 s o.image

-- Sending: word 1 of a mailbox that was sent, with TSC as its time stamp (bits 31 to 16).
abbrev pub stamped : List ℕ → ℕ → ℕ
stamped s n = words s TSC * 65536 + box s n 1 % 65536

-- Sending, every outcome but sent: no mailbox byte changes, and the answer names what was in the slot. TEC becomes t.
abbrev pub Fails : ℕ → List ℕ → Words → Words → Outcome → Type 0
Fails t s was now o = Unsent t was now × BoxesStayBut 32 s o.image × Answers (was SLOT) 0 o

-- What each operation itself does: `was` are the register words before, `now` those before a waiting mode is taken. Of the outcomes, lost
-- arbitration leaves TEC, and an error adds 8, up to 256; a missing acknowledgement is that of document 02, b).
pub record Does (s e : List ℕ) (was now : Words) (o : Outcome) : Type 0 where
  pub register : operation e ≡ 0 → Write (target e) (value e) was now × Quiet s o
  pub mailbox : operation e ≡ 1 → BoxWrite (target e) (word e) (value e) s o.image × Only [] was now × Answers 32 0 o
  pub frame : operation e ≡ 2 → Frame s e was now o
  pub start : operation e ≡ 3 → Start s was now o.mailbox × (o.count ≡ 0) × BoxesStayBut 32 s o.image
  pub sent : operation e ≡ 4 → target e ≡ 0 → Sent was now × BoxWrite (was SLOT) 1 (stamped s (was SLOT)) s o.image × Answers (was SLOT) 0 o
  pub lost : operation e ≡ 4 → target e ≡ 1 → Fails (was TEC) s was now o
  pub error : operation e ≡ 4 → target e ≡ 2 → Fails (at_most 256 (was TEC + 8)) s was now o
  pub unacknowledged : operation e ≡ 4 → target e ≡ 3 → Fails (unacknowledged_tec was) s was now o
  pub receive_error : operation e ≡ 5 → ReceiveError (value e) was now × Quiet s o
  pub recessive : operation e ≡ 6 → Recessive was now × Quiet s o
  pub tick : operation e ≡ 7 → Tick was now × Quiet s o
  pub mode : operation e ≡ 8 → Mode (value e) was now × Quiet s o
  pub options : operation e ≡ 9 → (now OPTIONS ≡ value e) × Only (OPTIONS ∷ []) was now × Quiet s o
  pub reset : operation e ≡ 10 → FreshWords (was PROFILE) now × Quiet s o

-- An accepted event: what it does itself, then a waiting mode; what is left is 776 bytes again.
pub record Accepted (s e : List ℕ) (o : Outcome) : Type 0 where
  pub middle : Words
  pub does : Does s e (words s) middle o
  pub ending : Ending middle (words o.image)
  pub refusal : o.refusal ≡ 0
  pub size : (length o.image ≡ 776) × ((i : ℕ) → byte o.image i < 256)

-- The refusals: each answers its number with mailbox 32 and count 0; the image is as it came.
abbrev pub Refused : List ℕ → ℕ → Outcome → Type 0
Refused s r o = (o.image ≡ s) × (o.refusal ≡ r) × Answers 32 0 o

-- The step: the first refusal that applies is given; where none does, the event is accepted.
pub record Rules (s e : List ℕ) (o : Outcome) : Type 0 where
  pub refuses : (r : ℕ) → FirstRefusal s e r → Refused s r o
  pub accepts : ((r : ℕ) → Applies s e r → ⊥) → Accepted s e o

-- The image, fresh: 776 bytes become the fresh image of profile p, whatever they were. Another length is refused, then another profile than
-- 0 and 1 (document 02, g).
pub record Fresh (s : List ℕ) (p : ℕ) (o : Outcome) : Type 0 where
  pub other : length s ≢ 776 → Refused s 1 o
  pub unknown : length s ≡ 776 → 1 < p → Refused s 4 o
  pub registers : length s ≡ 776 → p ≤ 1 → FreshWords p (words o.image)
  pub boxes : length s ≡ 776 → p ≤ 1 → (i : ℕ) → i < 512 → byte o.image i ≡ 0
  pub answers : length s ≡ 776 → p ≤ 1 → (o.refusal ≡ 0) × Answers 32 0 o
  pub size : length s ≡ 776 → p ≤ 1 → (length o.image ≡ 776) × ((i : ℕ) → byte o.image i < 256)
