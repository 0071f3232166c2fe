-- Document 02, request e, traces that arrive over a slow cable, byte by byte: where a stream stands, what one more byte makes of it, of the image and
-- of the text, and what any bytes do. What a trace may have and how its lines read is said in the crate `trace`, what a
-- step does in `model`; the crate `rules` shows both to be the rulebook's.
use Rattle.std.specs.Prelude.{ℕ, ◌+◌, ◌-◌, Bool, cond, List, [], ◌∷◌, ◌++◌, eqb, ltb, length, get_or}
use Rattle.events.specs.Parts.{event_bytes}
use Rattle.registers.specs.Block.{can_b}
use Rattle.fresh.specs.Fresh.{fresh_image}
use Rattle.model.specs.Step.{step}
use Rattle.trace.specs.Trace.{most_events, count_at, takes, line, header, refused_line, ending}

-- ---- where a stream stands between two bytes

-- Over a slow cable: it is in section 1, 2 or 3, behind the third (4), or over (5). So many events of the section are `left`: 0 while its count is
-- being read. So many events are complete: `steps`. `gathered` are the bytes that came of a count or an event that is not complete.
pub record Standing : Type 0 where
  pub section : ℕ
  pub left : ℕ
  pub steps : ℕ
  pub gathered : List ℕ
  pub image : List ℕ

abbrev pub at : ℕ → ℕ → ℕ → List ℕ → List ℕ → Standing
at k l n g s = record { section = k; left = l; steps = n; gathered = g; image = s }

abbrev pub behind : ℕ
behind = 4

abbrev pub over : ℕ
over = 5

abbrev pub is_over : Standing → Bool
is_over σ = eqb σ.section over

-- Over a slow cable: at the opening the first section's count comes, and the image is fresh.
abbrev pub opened : Standing
opened = at 1 0 0 [] (fresh_image can_b)

-- Over a slow cable: after a fault or the closing nothing of the reading is kept; the image is.
abbrev pub ended : List ℕ → Standing
ended s = at over 0 0 [] s

-- ---- one byte more

-- What it leaves, what it prints, and the event that it completes, if it does.
pub record Turn : Type 0 where
  pub next : Standing
  pub text : List ℕ
  pub ran : List (List ℕ)

abbrev pub quietly : Standing → Turn
quietly σ = record { next = σ; text = []; ran = [] }

-- Over a slow cable: the fault prints the refusal line, and the stream is over.
abbrev pub fault : Standing → Turn
fault σ = record { next = ended σ.image; text = refused_line; ran = [] }

-- The bytes g do not complete anything.
abbrev pub waits : Standing → List ℕ → Turn
waits σ g = quietly (at σ.section σ.left σ.steps g σ.image)

-- A count or an event is complete, and l events of section k are left: where none is, the next section's count comes.
abbrev pub onward : ℕ → ℕ → ℕ → List ℕ → Standing
onward k l n s = at (cond (eqb l 0) (k + 1) k) l n [] s

-- Over a slow cable: the two bytes of a count; the high one is the fault where they say more than 1,000.
unfoldable pub counts : Standing → List ℕ → Turn
counts σ g =
    cond (ltb (length g) 2) (waits σ g)
    (cond (ltb most_events (count_at g 0)) (fault σ) (quietly (onward σ.section (count_at g 0) σ.steps σ.image)))

-- Over a slow cable: the event e is complete: its step, and its line.
unfoldable pub runs : Standing → List ℕ → Turn
runs σ e =
    record {
      next = onward σ.section (σ.left - 1) (σ.steps + 1) (step σ.image e).image;
      text = line (σ.steps + 1) (step σ.image e);
      ran = e ∷ [];
    }

-- Over a slow cable: the bytes of an event; the first is the fault where its operation may not stand in the section.
unfoldable pub gathers : Standing → List ℕ → Turn
gathers σ g = cond (takes σ.section (get_or g 0 0)) (cond (ltb (length g) event_bytes) (waits σ g) (runs σ g)) (fault σ)

-- Over a slow cable: behind the third section any byte is the fault; once it is over none does anything.
unfoldable pub turn : Standing → ℕ → Turn
turn σ x =
    let g = σ.gathered ++ (x ∷ []) in
    cond (is_over σ) (quietly σ) (cond (eqb σ.section behind) (fault σ) (cond (eqb σ.left 0) (counts σ g) (gathers σ g)))

-- ---- any bytes, one after the other

unfoldable pub fed : Standing → List ℕ → Standing
fed σ [] = σ
fed σ (x ∷ l) = fed (turn σ x).next l

unfoldable pub printed : Standing → List ℕ → List ℕ
printed σ [] = []
printed σ (x ∷ l) = (turn σ x).text ++ printed (turn σ x).next l

-- The events that they complete.
unfoldable pub complete : Standing → List ℕ → List (List ℕ)
complete σ [] = []
complete σ (x ∷ l) = (turn σ x).ran ++ complete (turn σ x).next l

-- ---- the closing

-- Over a slow cable: the end line where the third section is complete; else the trace is too short, and the refusal line comes.
unfoldable pub last_line : Standing → List ℕ
last_line σ = cond (eqb σ.section behind) (ending σ.steps) refused_line

-- ---- a file from its opening to its closing

-- The text of it all: where a fault was printed, the closing prints nothing.
unfoldable pub transcript : List ℕ → List ℕ
transcript f = header ++ (printed opened f ++ cond (is_over (fed opened f)) [] (last_line (fed opened f)))
