-- The books of one mailbox, kept from what happens there and from nothing else: no flag word is read here.
use Rattle.std.specs.Prelude.{ℕ, ◌+◌, ◌≡◌, Bool, true, false, cond, not, ◌&&◌, ◌||◌, List, [], ◌∷◌}

-- The books of one mailbox: what can happen at a mailbox.
pub data Happening : Type 0 where
  -- a frame is stored here; RMP is written with this mailbox's bit
  store acknowledge : Happening
  -- a TRS write or a remote frame asks this mailbox to send; TRR is written with its bit
  request cancel : Happening
  -- it goes into the slot; from there it is sent; or it is not
  start send fail : Happening
  -- the unit falls asleep; it is reset
  sleep reset : Happening

-- The books of one mailbox: how it stands. Is a frame held: was one stored, and no release or reset came after it? Was one lost:
-- was it overwritten, and neither came after that? Does a request wait: was one raised that has not ended? Is it in the slot? Was it
-- cancelled there?
pub record Now : Type 0 where
  pub held : Bool
  pub lost : Bool
  pub waiting : Bool
  pub sending : Bool
  pub cancelled : Bool

abbrev pub now : Bool → Bool → Bool → Bool → Bool → Now
now h l w s c = record { held = h; lost = l; waiting = w; sending = s; cancelled = c }

-- What each happening makes of it: held, lost, waiting, sending, cancelled. A cancel ends a request at once, but one in the slot is
-- marked and ends when it is not sent. A reset drops the frame and the request, falling asleep the request alone.
unfoldable pub after : Now → Happening → Now
after n store = now true (n.lost || n.held) n.waiting n.sending n.cancelled
after n acknowledge = now false false n.waiting n.sending n.cancelled
after n request = now n.held n.lost true n.sending n.cancelled
after n cancel = now n.held n.lost (n.waiting && n.sending) n.sending (n.cancelled || n.waiting && n.sending)
after n start = now n.held n.lost n.waiting true n.cancelled
after n send = now n.held n.lost false false false
after n fail = now n.held n.lost (n.waiting && not n.cancelled) false false
after n sleep = now n.held n.lost false false false
after n reset = now false false false false false

-- The same of several, in their order.
unfoldable pub afters : Now → List Happening → Now
afters n [] = n
afters n (h ∷ l) = afters (after n h) l

-- The books of one mailbox: what is counted, of frames and of requests.
pub record Counts : Type 0 where
  pub stored : ℕ
  pub released : ℕ
  pub overwritten : ℕ
  pub frame_reset : ℕ
  pub raised : ℕ
  pub sent : ℕ
  pub aborted : ℕ
  pub slept : ℕ
  pub request_reset : ℕ

-- One row of the table below.
abbrev pub row : ℕ → ℕ → ℕ → ℕ → ℕ → ℕ → ℕ → ℕ → ℕ → Counts
row a b c d e f g h i =
    record { stored = a; released = b; overwritten = c; frame_reset = d; raised = e; sent = f; aborted = g; slept = h; request_reset = i }

-- 1 where it holds, 0 where it does not.
abbrev pub one : Bool → ℕ
one t = cond t 1 0

-- The books of one mailbox: what a happening adds to each count, by how the mailbox stood. The first four columns are of frames:
-- stored, released, overwritten, dropped by reset; the others of requests: raised, sent, aborted, dropped by sleep, dropped by reset.
-- A store overwrites what is held; an RMP write releases only what is held; a request is raised only where none waits, and only
-- one that waits is aborted by a TRR write or dropped. A sending and an abort in the slot count whether or not one waits.
unfoldable pub entry : Now → Happening → Counts
entry n store = row 1 0 (one n.held) 0 0 0 0 0 0
entry n acknowledge = row 0 (one n.held) 0 0 0 0 0 0 0
entry n request = row 0 0 0 0 (one (not n.waiting)) 0 0 0 0
entry n cancel = row 0 0 0 0 0 0 (one (n.waiting && not n.sending)) 0 0
entry n start = row 0 0 0 0 0 0 0 0 0
entry n send = row 0 0 0 0 0 1 0 0 0
entry n fail = row 0 0 0 0 0 0 (one n.cancelled) 0 0
entry n sleep = row 0 0 0 0 0 0 0 (one n.waiting) 0
entry n reset = row 0 0 0 (one n.held) 0 0 0 0 (one n.waiting)

unfoldable pub plus : Counts → Counts → Counts
plus x y =
    row (x.stored + y.stored) (x.released + y.released) (x.overwritten + y.overwritten) (x.frame_reset + y.frame_reset)
    (x.raised + y.raised) (x.sent + y.sent) (x.aborted + y.aborted) (x.slept + y.slept) (x.request_reset + y.request_reset)

-- A book: how the mailbox stands, and the counts. It begins empty.
pub record Book : Type 0 where
  pub now : Now
  pub counts : Counts

abbrev pub empty : Book
empty = record { now = now false false false false false; counts = row 0 0 0 0 0 0 0 0 0 }

-- One happening is booked, or several in their order.
unfoldable pub book : Book → Happening → Book
book k h = record { now = after k.now h; counts = plus k.counts (entry k.now h) }

unfoldable pub books : Book → List Happening → Book
books k [] = k
books k (h ∷ l) = books (book k h) l

-- Demand 3, balance: every frame that was stored, and every request that was raised, is found again in exactly one place.
pub record Balanced (k : Book) : Type 0 where
  pub frames : k.counts.stored ≡ k.counts.released + k.counts.overwritten + k.counts.frame_reset + one k.now.held
  pub requests : k.counts.raised ≡ k.counts.sent + k.counts.aborted + k.counts.slept + k.counts.request_reset + one k.now.waiting
