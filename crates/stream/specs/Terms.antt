-- What the code of the stream relies on, and what its parts leave. No promise to C is said in these words.
use Rattle.std.specs.Prelude.{ℕ, ◌+◌, ◌-◌, ◌*◌, ◌<◌, ◌≤◌, ◌≡◌, Bool, true, cond, List, [], ◌++◌, eqb, ltb, length, take, drop, get_or, replicate}
use Rattle.words.specs.Word.{word_at}
use Rattle.words.specs.Bytes.{Bytes}
use Rattle.events.specs.Parts.{event_bytes}
use Rattle.texts.specs.Text.{written, Put, word_bytes}
use Rattle.trace.specs.Trace.{takes}
use Rattle.stream.specs.declared.Reader.{Reader}
use Rattle.stream.specs.declared.Taken.{Taken}
use Rattle.stream.specs.Stream.{Standing, at, behind, over, counts, fed, printed}
use Rattle.stream.specs.Calls.{state_of, whole, ready}

-- The reader by value, the 16 bytes e in which it gathers, and the image s.
abbrev pub standing_by : Reader → List ℕ → List ℕ → Standing
standing_by r e s = at r.section r.left r.steps (take r.seen e) s

-- The reader that the state bytes keep.
abbrev pub reader_of : List ℕ → Reader
reader_of t = record { section = word_at t 0; left = word_at t 4; steps = word_at t 8; seen = word_at t 12 }

-- Document 02, request e, over a slow cable: what stands against a feeding or a closing where image and state are of their length, as `against` has it: 8
-- where the stream is over, 1 where no call leaves such a state; 0 is nothing.
abbrev pub state_against : List ℕ → ℕ
state_against t = cond (eqb (word_at t 0) over) 8 (cond (ready t) 0 1)

-- Where a stream can stand.
pub record Ready (σ : Standing) : Type 0 where
  pub first : 1 ≤ σ.section
  pub last : σ.section ≤ over
  pub few : σ.left ≤ 1000
  pub counting : σ.left ≡ 0 → σ.section ≤ behind → σ.steps ≤ 1000 * (σ.section - 1)
  pub running : 0 < σ.left → (σ.section ≤ 3) × (σ.steps + σ.left ≤ 1000 * σ.section)
  pub done : σ.section ≡ over → σ.steps ≡ 0
  pub short : length σ.gathered < whole σ.section σ.left
  pub placed : 0 < σ.left → 0 < length σ.gathered → takes σ.section (get_or σ.gathered 0 0) ≡ true
  pub bytes : Bytes σ.gathered

-- Only zeros stand behind the first n of the 16 bytes e.
abbrev pub Clean : ℕ → List ℕ → Type 0
Clean n e = drop n e ≡ replicate (event_bytes - n) 0

-- What bytes leave: the reader, the bytes in which it gathers, the image, and their text from `place` on.
pub record Took (next : Standing) (text o : List ℕ) (place : ℕ) (event image exit : List ℕ) (p : Taken) : Type 0 where
  pub stands : standing_by p.reader event image ≡ next
  pub few : p.reader.seen ≤ 15
  pub clean : Clean p.reader.seen event
  pub put : Put o place text exit p.length

abbrev pub TookSome : Standing → List ℕ → List ℕ → ℕ → List ℕ → List ℕ → List ℕ → Taken → Type 0
TookSome σ bytes o place event image exit p = Took (fed σ bytes) (printed σ bytes) o place event image exit p

-- What the bytes of a count leave, whatever the image is: they came in the bytes e.
abbrev pub Counts : Reader → List ℕ → List ℕ → List ℕ → ℕ → List ℕ → Taken → Type 0
Counts r e event o place exit p =
    (s : List ℕ)
    → let t = counts (at r.section r.left r.steps [] s) (take (r.seen + 1) e) in Took t.next t.text o place event s exit p

-- How many bytes are taken at once, of those that are there: as many as the event lacks; while no event is read, one.
abbrev pub at_once : ℕ → ℕ → ℕ → ℕ
at_once left seen there = cond (eqb left 0) 1 (cond (ltb there (event_bytes - seen)) there (event_bytes - seen))

-- The room for a text of n bytes: where it is not kept, what bytes that are taken at once print.
abbrev pub room_for : Bool → ℕ → ℕ
room_for keeps n = cond keeps n 47

-- What a part leaves. Its text stands at the front of o where it is kept; it is counted in any case.
pub record Fed (keeps : Bool) (σ : Standing) (part o event image exit : List ℕ) (p : Taken) : Type 0 where
  pub next : standing_by p.reader event image ≡ fed σ part
  pub few : p.reader.seen ≤ 15
  pub clean : Clean p.reader.seen event
  pub counted : p.length ≡ length (printed σ part)
  pub text : keeps ≡ true → exit ≡ written o 0 (printed σ part)

-- The same, with the state bytes.
pub record Taking (keeps : Bool) (σ : Standing) (part o image state exit : List ℕ) (p : Taken) : Type 0 where
  pub image_is : image ≡ (fed σ part).image
  pub state_is : state ≡ state_of (fed σ part)
  pub section_is : p.reader.section ≡ (fed σ part).section
  pub counted : p.length ≡ length (printed σ part)
  pub text : keeps ≡ true → exit ≡ written o 0 (printed σ part)

-- The first four words of a state, and what stands behind them.
abbrev pub numbers : Reader → List ℕ → List ℕ
numbers r rest = word_bytes r.section ++ (word_bytes r.left ++ (word_bytes r.steps ++ (word_bytes r.seen ++ rest)))
