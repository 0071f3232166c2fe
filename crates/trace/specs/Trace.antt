-- The trace program: what a trace file means, and the listing that it gets. A file and a listing are lists of bytes.
use Rattle.std.specs.Prelude.{ℕ, zero, suc, ◌+◌, ◌*◌, ◌≡◌, Bool, true, cond, ◌&&◌, ◌||◌, List, [], ◌∷◌, ◌++◌, eqb, ltb, leb, get_or, length, take, drop}
use Rattle.events.specs.Parts.{event_bytes}
use Rattle.answers.specs.Answer.{Outcome}
use Rattle.texts.specs.Text.{field}
use Rattle.model.specs.Step.{step}
use Rattle.registers.specs.Block.{can_b}
use Rattle.fresh.specs.Fresh.{fresh_image}

-- ---- the file: three sections, one behind the other

-- The trace program: a section has at most 1,000 events.
abbrev pub most_events : ℕ
most_events = 1000

-- The trace program: a section that begins at `at` begins with its count, in two bytes, the low one first. Past the end of the
-- file a byte counts as 0: such a file is refused for its length.
unfoldable pub count_at : List ℕ → ℕ → ℕ
count_at f at = get_or f at 0 + 256 * get_or f (at + 1) 0

-- Where the events of that section end, and the next section begins.
unfoldable pub end_of : List ℕ → ℕ → ℕ
end_of f at = at + 2 + event_bytes * count_at f at

abbrev pub second : List ℕ → ℕ
second f = end_of f 0

abbrev pub third : List ℕ → ℕ
third f = end_of f (second f)

-- The trace program: which operations a section takes, by the operation byte alone: the first mailbox writes, the second
-- register writes and options, the third any.
abbrev pub takes : ℕ → ℕ → Bool
takes k op = eqb k 3 || ((eqb k 1 && eqb op 1) || (eqb k 2 && (eqb op 0 || eqb op 9)))

unfoldable pub placed : ℕ → List ℕ → ℕ → ℕ → Bool
placed k f at zero = true
placed k f at (suc n) = takes k (get_or f at 0) && placed k f (at + event_bytes) n

-- Is the section that begins at `at` a k-th one? Not with too many events or a misplaced one.
unfoldable pub sound : ℕ → List ℕ → ℕ → Bool
sound k f at = leb (count_at f at) most_events && placed k f (at + 2) (count_at f at)

-- The trace program: three such sections, and the file ends where the third one does, neither before nor behind.
unfoldable pub well_formed : List ℕ → Bool
well_formed f = ((sound 1 f 0 && sound 2 f (second f)) && sound 3 f (third f)) && eqb (end_of f (third f)) (length f)

-- ---- the events, in order

unfoldable pub events_from : List ℕ → ℕ → ℕ → List (List ℕ)
events_from f at zero = []
events_from f at (suc n) = take event_bytes (drop at f) ∷ events_from f (at + event_bytes) n

abbrev pub section : List ℕ → ℕ → List (List ℕ)
section f at = events_from f (at + 2) (count_at f at)

unfoldable pub events : List ℕ → List (List ℕ)
events f = section f 0 ++ (section f (second f) ++ section f (third f))

-- ---- the text

abbrev pub space : ℕ
space = 32

abbrev pub feed : ℕ
feed = 10

-- The trace program: the line of an event: its number, and the code, the mailbox and the count of its step.
unfoldable pub line_of : ℕ → ℕ → ℕ → ℕ → List ℕ
line_of n code mailbox count = field n space ++ (field code space ++ (field mailbox space ++ field count feed))

abbrev pub line : ℕ → Outcome → List ℕ
line n o = line_of n o.refusal o.mailbox o.count

-- "step code mailbox count", "trace refused 8" and "end ", and the line feeds of the first two.
abbrev pub header : List ℕ
header = 115 ∷ 116 ∷ 101 ∷ 112 ∷ 32 ∷ 99 ∷ 111 ∷ 100 ∷ 101 ∷ 32 ∷ 109 ∷ 97 ∷ 105 ∷ 108 ∷ 98 ∷ 111 ∷ 120 ∷ 32 ∷ 99 ∷ 111 ∷ 117 ∷ 110 ∷ 116 ∷ 10 ∷ []

abbrev pub refused_line : List ℕ
refused_line = 116 ∷ 114 ∷ 97 ∷ 99 ∷ 101 ∷ 32 ∷ 114 ∷ 101 ∷ 102 ∷ 117 ∷ 115 ∷ 101 ∷ 100 ∷ 32 ∷ 56 ∷ 10 ∷ []

abbrev pub end_word : List ℕ
end_word = 101 ∷ 110 ∷ 100 ∷ 32 ∷ []

-- ---- the listing

-- The trace program: a line for each event, refused or not, numbered on from n; each step goes on from the image that the one
-- before it left.
unfoldable pub lines : ℕ → List ℕ → List (List ℕ) → List ℕ
lines n s [] = []
lines n s (e ∷ es) = line n (step s e) ++ lines (n + 1) (step s e).image es

unfoldable pub image_after : List ℕ → List (List ℕ) → List ℕ
image_after s [] = s
image_after s (e ∷ es) = image_after (step s e).image es

unfoldable pub ending : ℕ → List ℕ
ending n = end_word ++ field n feed

-- The trace program: the listing of a file that is well formed: it starts fresh.
unfoldable pub run : List ℕ → List ℕ
run f = header ++ (lines 1 (fresh_image can_b) (events f) ++ ending (length (events f)))

-- The trace program: the whole listing of any file.
unfoldable pub listing : List ℕ → List ℕ
listing f = cond (well_formed f) (run f) refused_line

-- ---- a listing in lent bytes

-- Room for any listing: the header, 3,000 lines of at most 13 bytes, and the line that ends them. None needs all of it, since lines
-- with small numbers are shorter.
abbrev pub longest : ℕ
longest = 39033

-- The promise of the listing: it stands at the front of the lent bytes, the others stay, and the answer is how many it has.
-- Fewer bytes than that room all stay as they are, and the answer is 0.
pub record Listed (f o exit : List ℕ) (answer : ℕ) : Type 0 where
  pub bytes : exit ≡ cond (ltb (length o) longest) o (listing f ++ drop (length (listing f)) o)
  pub answered : answer ≡ cond (ltb (length o) longest) 0 (length (listing f))
