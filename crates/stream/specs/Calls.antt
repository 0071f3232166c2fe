-- Document 02, request e: the 32 bytes in which a stream stands between two calls, and what each call leaves and answers. The image s, the state
-- t and the text o are the bytes that were lent, p is the part.
use Rattle.std.specs.Prelude.{ℕ, ◌+◌, ◌-◌, ◌*◌, ◌≡◌, Bool, true, cond, ◌&&◌, ◌||◌, List, [], ◌∷◌, ◌++◌, eqb, ltb, leb, length, take, drop, get_or, replicate}
use Rattle.bits.specs.Tests.{every}
use Rattle.words.specs.Word.{word_at}
use Rattle.registers.specs.Block.{image_bytes}
use Rattle.answers.specs.Answer.{no_mailbox, packed}
use Rattle.events.specs.Parts.{event_bytes}
use Rattle.texts.specs.Text.{word_bytes}
use Rattle.trace.specs.Trace.{most_events, takes, header}
use Rattle.stream.specs.Stream.{Standing, at, behind, over, is_over, opened, ended, fed, printed, last_line}

-- ---- the state bytes

-- The state has 32 bytes (D133): section, left and steps in a word each, how many bytes are gathered in a fourth, then these, and
-- zeros behind them.
abbrev pub state_bytes : ℕ
state_bytes = 32

unfoldable pub state_of : Standing → List ℕ
state_of σ =
    let n = length σ.gathered in
    word_bytes σ.section
    ++ (word_bytes σ.left
    ++ (word_bytes σ.steps ++ (word_bytes n ++ (σ.gathered ++ replicate (event_bytes - n) 0))))

-- And back: how many are gathered, and the whole.
abbrev pub seen : List ℕ → ℕ
seen t = word_at t 12

unfoldable pub standing : List ℕ → List ℕ → Standing
standing s t = at (word_at t 0) (word_at t 4) (word_at t 8) (take (seen t) (drop 16 t)) s

-- How many sections have a count that is known.
abbrev pub known : ℕ → ℕ → ℕ
known section left = cond (eqb left 0) (section - 1) section

-- How many bytes complete what is being read: a count, an event; behind the third section the first is one too many.
abbrev pub whole : ℕ → ℕ → ℕ
whole section left = cond (eqb section behind) 1 (cond (eqb left 0) 2 event_bytes)

unfoldable pub all_zero : List ℕ → Bool
all_zero [] = true
all_zero (x ∷ l) = eqb x 0 && all_zero l

-- Over a slow cable: does a call leave such a state, in a stream that is not over (D133)? In a section, or behind the third; no more than 1,000 events
-- left, and none behind the third; no more in all than 1,000 for each section whose count is known; fewer bytes gathered than complete the count or the event; an
-- event's first byte in its place; zeros behind what is gathered. That these are exactly the states that some bytes lead to is proved (`States`).
abbrev pub ranges : List ℕ → List Bool
ranges t =
    let k = word_at t 0 in
    let l = word_at t 4 in
    leb 1 k
    ∷ leb k behind
    ∷ leb l (cond (eqb k behind) 0 most_events)
    ∷ leb (word_at t 8 + l) (most_events * known k l)
    ∷ ltb (seen t) (whole k l)
    ∷ (eqb l 0 || (eqb (seen t) 0 || takes k (get_or t 16 0)))
    ∷ all_zero (drop (16 + seen t) t)
    ∷ []

unfoldable pub ready : List ℕ → Bool
ready t = every (ranges t)

-- ---- what a call leaves and answers

pub record Call : Type 0 where
  pub image : List ℕ
  pub state : List ℕ
  pub text : List ℕ
  pub refusal : ℕ
  pub bytes : ℕ

-- Refused, and nothing changes.
abbrev pub refused : List ℕ → List ℕ → List ℕ → ℕ → Call
refused s t o r = record { image = s; state = t; text = o; refusal = r; bytes = 0 }

-- Over a slow cable: a text that does not fit gets 9, and nothing changes; else it stands at the front of o, where the bytes past it stay, the
-- stream stands in σ, and the refusal is r.
unfoldable pub prints : List ℕ → List ℕ → List ℕ → Standing → List ℕ → ℕ → Call
prints s t o σ text r =
    cond (ltb (length o) (length text)) (refused s t o 9)
    (record { image = σ.image; state = state_of σ; text = text ++ drop (length text) o; refusal = r; bytes = length text })

-- Over a slow cable: image and state are of their length.
abbrev pub lengths : List ℕ → List ℕ → Bool
lengths s t = eqb (length s) image_bytes && eqb (length t) state_bytes

-- Over a slow cable: what stands against a feeding or a closing: 1 for a length, then 8 where the stream is over, by its first word
-- alone, then 1 where no call leaves such a state; 0 is nothing.
unfoldable pub against : List ℕ → List ℕ → ℕ
against s t = cond (lengths s t) (cond (eqb (word_at t 0) over) 8 (cond (ready t) 0 1)) 1

-- The call, unless r stands against it.
unfoldable pub unless : ℕ → List ℕ → List ℕ → List ℕ → Call → Call
unless r s t o c = cond (eqb r 0) c (refused s t o r)

-- Over a slow cable, the opening: a fresh image, a new state, and the header, whatever the bytes were.
unfoldable pub opening : List ℕ → List ℕ → List ℕ → Call
opening s t o = unless (cond (lengths s t) 0 1) s t o (prints s t o opened header 0)

-- Over a slow cable: what a part prints, and 8 where it has the fault.
unfoldable pub fed_call : List ℕ → List ℕ → List ℕ → List ℕ → Call
fed_call s t p o =
    let σ = standing s t in
    prints s t o (fed σ p) (printed σ p) (cond (is_over (fed σ p)) 8 0)

unfoldable pub feeding : List ℕ → List ℕ → List ℕ → List ℕ → Call
feeding s t p o = unless (against s t) s t o (fed_call s t p o)

-- Over a slow cable: the closing prints its line, and 8 where the trace is too short; then the stream is over.
unfoldable pub last_call : List ℕ → List ℕ → List ℕ → Call
last_call s t o = prints s t o (ended s) (last_line (standing s t)) (cond (eqb (word_at t 0) behind) 0 8)

unfoldable pub closing : List ℕ → List ℕ → List ℕ → Call
closing s t o = unless (against s t) s t o (last_call s t o)

-- ---- what C is promised: the image x, the state y and the text z are what the call leaves, and its refusal and how many bytes it wrote are
-- packed into the answer, which names no mailbox

pub record Leaves (c : Call) (x y z : List ℕ) (answer : ℕ) : Type 0 where
  pub image : x ≡ c.image
  pub state : y ≡ c.state
  pub text : z ≡ c.text
  pub answered : answer ≡ packed c.refusal no_mailbox c.bytes

abbrev pub OpenCall : List ℕ → List ℕ → List ℕ → List ℕ → List ℕ → List ℕ → ℕ → Type 0
OpenCall s t o x y z answer = Leaves (opening s t o) x y z answer

abbrev pub FeedCall : List ℕ → List ℕ → List ℕ → List ℕ → List ℕ → List ℕ → List ℕ → ℕ → Type 0
FeedCall s t p o x y z answer = Leaves (feeding s t p o) x y z answer

abbrev pub CloseCall : List ℕ → List ℕ → List ℕ → List ℕ → List ℕ → List ℕ → ℕ → Type 0
CloseCall s t o x y z answer = Leaves (closing s t o) x y z answer
