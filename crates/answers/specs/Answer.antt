-- The whole outcome of a call, and the one number that C sees of it.
use Rattle.std.specs.Prelude.{ℕ, ◌+◌, ◌*◌, ◌^◌, ◌<◌, ◌≤◌, ◌≡◌, List, ◌++◌, length, drop}

-- The events, refusals: the mailbox that an answer names where it names none.
abbrev pub no_mailbox : ℕ
no_mailbox = 32

-- What a fresh or a step leaves in the image, and what it answers.
pub record Outcome : Type 0 where
  pub image : List ℕ
  pub refusal : ℕ
  pub mailbox : ℕ
  pub count : ℕ

-- The events, refusals: a refused call names no mailbox, has compared none, and leaves the image as it came.
abbrev pub refused : List ℕ → ℕ → Outcome
refused s r = record { image = s; refusal = r; mailbox = no_mailbox; count = 0 }

-- The events: so does what is accepted, with refusal 0, where nothing else is said.
abbrev pub accepted : List ℕ → Outcome
accepted s = record { image = s; refusal = 0; mailbox = no_mailbox; count = 0 }

-- What is modelled: refusal, mailbox and count in one number.
abbrev pub packed : ℕ → ℕ → ℕ → ℕ
packed refusal mailbox count = refusal + 256 * mailbox + 65536 * count

-- The promise of a fresh or a step: the bytes at exit and the answer are those of the outcome o.
pub record Promise (o : Outcome) (exit : List ℕ) (answer : ℕ) : Type 0 where
  pub image : exit ≡ o.image
  pub answered : answer ≡ packed o.refusal o.mailbox o.count

-- What a register read answers; the image is lent to be read only.
pub record Reading : Type 0 where
  pub refusal : ℕ
  pub value : ℕ

-- Writing: a refused read has the value 0.
abbrev pub unread : ℕ → Reading
unread r = record { refusal = r; value = 0 }

-- What is modelled: value and refusal in one number.
abbrev pub packed_reading : ℕ → ℕ → ℕ
packed_reading refusal value = value + 2 ^ 32 * refusal

-- The promise of a register read.
pub record ReadPromise (o : Reading) (answer : ℕ) : Type 0 where
  pub answered : answer ≡ packed_reading o.refusal o.value

-- Document 02: a refused call of those that write a list names no mailbox, counts nothing, and leaves the lent bytes o as they came.
abbrev pub Refuses : ℕ → List ℕ → List ℕ → ℕ → Type 0
Refuses r o exit answer = (exit ≡ o) × (answer ≡ packed r no_mailbox 0)

-- Document 02: one that is not refused puts the bytes of its list at the front of o, where those past it stay, and counts the entries.
abbrev pub Tells : ℕ → List ℕ → List ℕ → List ℕ → ℕ → Type 0
Tells count text o exit answer = (exit ≡ text ++ drop (length text) o) × (answer ≡ packed 0 no_mailbox count)

-- Document 02: such a call is refused with 9 exactly where its list takes more bytes than were lent.
pub record Fitted (count : ℕ) (text o exit : List ℕ) (answer : ℕ) : Type 0 where
  pub short : length o < length text → Refuses 9 o exit answer
  pub fits : length text ≤ length o → Tells count text o exit answer
