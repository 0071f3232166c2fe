-- Document 02, request d: why did it land there? The reasons, the lines of a frame, their bytes, and what a C caller has after the call; of
-- request g the last reason, protected. The image s and the event e are said in the words of the rulebook.
use Rattle.std.specs.Prelude.{ℕ, zero, suc, ◌≡◌, Bool, cond, not, ◌&&◌, ◌||◌, ◌≢◌, length}
use Rattle.std.specs.Bool.{xor}
use mathlib.Core.List.{List, [], ◌∷◌, ◌++◌, flat_map}
use Rattle.bits.specs.Below.{first_below}
use Rattle.answers.specs.Answer.{Refuses, Fitted}
use Rattle.rules.specs.Words.{◌has◌, ◌is◌, words, box, at_most, MC, MD, MODE}
use Rattle.rules.specs.Image.{Good, bus_off, on_bus}
use Rattle.rules.specs.Events.{operation, value, rtr, unused, bad}
use Rattle.rules.specs.Receiving.{matters, freed, seat, guarded}
use Rattle.explain.specs.declared.Reason.{Reason}
use Rattle.explain.specs.declared.Reason.TheVariants.{Disabled, Transmits, IdeDiffers, BitDiffers, Matched, NotHeard, Protected}
use Rattle.explain.specs.declared.Line.{Line}

-- Why did it land there: the reasons by their numbers; and the bit number of a line, which in a line of reason 6 is the mode, or 4 in bus off.
abbrev pub number : Reason → ℕ
number Disabled = 1
number Transmits = 2
number IdeDiffers = 3
number (BitDiffers i) = 4
number Matched = 5
number (NotHeard m) = 6
number Protected = 7

abbrev pub bit_number : Reason → ℕ
bit_number Disabled = 0
bit_number Transmits = 0
bit_number IdeDiffers = 0
bit_number (BitDiffers i) = i
bit_number Matched = 0
bit_number (NotHeard m) = m
bit_number Protected = 0

-- Why did it land there: does mailbox n differ from the frame in bit i of word 0? The bit is compared, the mailbox's mask does not free it,
-- and it is not the same in both.
abbrev pub differs : List ℕ → List ℕ → ℕ → ℕ → Bool
differs s e n i = matters e i && not (freed s n i) && xor (box s n 0 has i) (value e has i)

-- Document 02, g), overwrite protection: of a mailbox that matches, the last reason before matched: it is protected, and passes the frame
-- over.
abbrev pub match_reason : Bool → Reason
match_reason passes = cond passes Protected Matched

-- Why did it land there: of a compared mailbox, IDE (bit 31) differs; else a bit of the identifier (28 to 0) does, and the highest is named;
-- else it matches.
unfoldable pub bit_reason : Bool → (ℕ → Bool) → ℕ → Reason
bit_reason passes different zero = match_reason passes
bit_reason passes different (suc i) = cond (different i) (BitDiffers i) (bit_reason passes different i)

abbrev pub compared_reason : Bool → (ℕ → Bool) → Reason
compared_reason passes different = cond (different 31) IdeDiffers (bit_reason passes different 29)

-- Why did it land there: the first reason that holds of a mailbox: it is disabled; it transmits, and the frame is no remote one; else as
-- compared, where `passes` says that it would pass a match over.
abbrev pub first_reason : Bool → Bool → Bool → (ℕ → Bool) → Reason
first_reason disabled transmits passes different = cond disabled Disabled (cond transmits Transmits (compared_reason passes different))

abbrev pub reason : List ℕ → List ℕ → ℕ → Reason
reason s e n = first_reason (not (words s MC has n)) (not (rtr e || words s MD has n)) (guarded (words s) n) (differs s e n)

-- Why did it land there: a line for each mailbox before place k, in the order of the search: `order` says which mailbox is at a place, r says
-- its reason.
unfoldable pub lines_below : (ℕ → ℕ) → (ℕ → Reason) → ℕ → List Line
lines_below order r zero = []
lines_below order r (suc k) = lines_below order r k ++ (record { mailbox = order k; reason = r (order k) } ∷ [])

-- Why did it land there: the lines go up to the first mailbox that matched, and it has one too; where none did, up to the last. Behind a
-- protected one they go on.
abbrev pub is_matched : Reason → Bool
is_matched why = number why is 5

abbrev pub line_count : ℕ → ℕ
line_count k = at_most 32 (suc k)

unfoldable pub lines : (ℕ → ℕ) → (ℕ → Reason) → List Line
lines order r = lines_below order r (line_count (first_below (λ k. is_matched (r (order k))) 32))

-- Why did it land there: a frame that is not heard has one line, which says the mode, or 4 in bus off.
abbrev pub unheard : ℕ → Bool → List Line
unheard mode off = record { mailbox = 32; reason = NotHeard (cond off 4 mode) } ∷ []

unfoldable pub explained : List ℕ → List ℕ → List Line
explained s e = cond (on_bus (words s)) (lines (seat (words s)) (reason s e)) (unheard (words s MODE) (bus_off (words s)))

-- Why did it land there: a line is eight bytes: the mailbox, the reason, the bit number, five zeros.
abbrev pub line_bytes : Line → List ℕ
line_bytes l = l.mailbox ∷ number l.reason ∷ bit_number l.reason ∷ 0 ∷ 0 ∷ 0 ∷ 0 ∷ 0 ∷ []

unfoldable pub list_bytes : List Line → List ℕ
list_bytes ls = flat_map line_bytes ls

-- Why did it land there, refusals of the event: 2 where it is not 16 bytes or no frame, then 4 as a step would give it; 0 is none. What is in
-- the slot does not matter, and there is no 5.
abbrev pub refusal : List ℕ → List ℕ → ℕ
refusal s e = cond (not (length e is 16 && operation e is 2)) 2 (cond (unused 2 e || bad 2 (words s) e) 4 0)

-- Why did it land there, the call: refused with 1 unless the image is good, then by the event; else the lines are written, where they fit the
-- lent bytes o.
pub record ExplainCall (s e o exit : List ℕ) (answer : ℕ) : Type 0 where
  pub bad_image : (Good s → ⊥) → Refuses 1 o exit answer
  pub bad_event : Good s → refusal s e ≢ 0 → Refuses (refusal s e) o exit answer
  pub told : Good s → refusal s e ≡ 0 → Fitted (length (explained s e)) (list_bytes (explained s e)) o exit answer
