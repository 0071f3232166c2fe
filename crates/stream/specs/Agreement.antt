-- What is proved of a stream (document 02, request e): it hangs on the bytes of the trace alone, not on how they are cut; of a trace it tells what the
-- trace program tells; where the fault lies; and which states are taken.
use Rattle.std.specs.Prelude.{ℕ, ◌+◌, ◌*◌, ◌<◌, ◌≤◌, ◌≡◌, Bool, true, false, cond, not, ◌&&◌, ◌≢◌, ◌↔◌, eqb, length, take}
use mathlib.Core.List.{List, [], ◌∷◌, ◌++◌, flat_map}
use Rattle.words.specs.Bytes.{Bytes}
use Rattle.registers.specs.Block.{can_b}
use Rattle.fresh.specs.Fresh.{fresh_image}
use Rattle.trace.specs.Trace.{well_formed, events, lines, image_after, header, refused_line, listing}
use Rattle.rules.specs.Listing.{Listing}
use Rattle.stream.specs.Stream.{Standing, is_over, opened, fed, printed, complete, last_line, transcript}
use Rattle.stream.specs.Calls.{state_of, standing, known, ready, Call, refused, against, opening, feeding, closing}

-- ---- a file, byte by byte

-- Over a slow cable: of a well-formed file the text is the listing of the whole-file program, the one that the rulebook asks for, and the image is
-- what its events leave.
pub record Agrees (f : List ℕ) : Type 0 where
  pub text : transcript f ≡ listing f
  pub rule : Listing f (transcript f)
  pub image : (fed opened f).image ≡ image_after (fresh_image can_b) (events f)

abbrev pub Agreement : Type 0
Agreement = (f : List ℕ) → Bytes f → well_formed f ≡ true → Agrees f

-- Over a slow cable: of any other the text is the header, the lines of the events that are complete before the fault, and the refusal line; the
-- image is what those events leave.
pub record Breaks (f : List ℕ) : Type 0 where
  pub text : transcript f ≡ header ++ (lines 1 (fresh_image can_b) (complete opened f) ++ refused_line)
  pub image : (fed opened f).image ≡ image_after (fresh_image can_b) (complete opened f)

abbrev pub Refusal : Type 0
Refusal = (f : List ℕ) → Bytes f → well_formed f ≡ false → Breaks f

-- Which those are: the bytes p complete the first events of every well-formed file that begins with p.
abbrev pub Completes : Type 0
Completes = (p g : List ℕ) → Bytes p → Bytes g → well_formed (p ++ g) ≡ true → events (p ++ g) ≡ complete opened p ++ complete (fed opened p) g

-- Over a slow cable: nothing that is complete is kept back. Of bytes without the fault two are those of each count that is known, 16 those of each
-- event that is complete, and fewer than 16 wait.
pub record Accounts (p : List ℕ) (σ : Standing) : Type 0 where
  pub bytes : length p ≡ 2 * known σ.section σ.left + 16 * length (complete opened p) + length σ.gathered
  pub waiting : length σ.gathered < 16

abbrev pub Accounted : Type 0
Accounted = (p : List ℕ) → Bytes p → is_over (fed opened p) ≡ false → Accounts p (fed opened p)

-- The byte that is the fault completes nothing, and nothing behind it does.
abbrev pub FaultLast : Type 0
FaultLast =
    (p : List ℕ) (x : ℕ) (r : List ℕ) → Bytes p → is_over (fed opened p) ≡ false → is_over (fed opened (p ++ (x ∷ []))) ≡ true
    → complete opened (p ++ (x ∷ r)) ≡ complete opened p

-- Over a slow cable: with the fault the last well-formed file that could have gone on so is gone: bytes have it exactly where no well-formed file
-- begins with them.
abbrev pub Fault : Type 0
Fault = (p : List ℕ) → Bytes p → (is_over (fed opened p) ≡ true) ↔ ((g : List ℕ) → Bytes g → well_formed (p ++ g) ≡ false)

-- ---- the states

-- Over a slow cable: the states that a call takes are exactly those that some bytes lead to.
pub record Reached (t : List ℕ) : Type 0 where
  pub file : List ℕ
  pub small : Bytes file
  pub going : is_over (fed opened file) ≡ false
  pub state : t ≡ state_of (fed opened file)

abbrev pub States : Type 0
States = (t : List ℕ) → Bytes t → length t ≡ 32 → (ready t ≡ true) ↔ Reached t

-- ---- a stream: an opening, feedings, a closing

-- What a caller has after some calls: image, state, the texts that were written, one behind the other, and the last refusal.
pub record Held : Type 0 where
  pub image : List ℕ
  pub state : List ℕ
  pub text : List ℕ
  pub refusal : ℕ

abbrev pub after : Held → Call → Held
after h c = record { image = c.image; state = c.state; text = h.text ++ take c.bytes c.text; refusal = c.refusal }

-- A part, and the bytes that are lent for its text.
pub record Part : Type 0 where
  pub part : List ℕ
  pub lent : List ℕ

abbrev pub fed_to : Held → Part → Call
fed_to h q = feeding h.image h.state q.part q.lent

unfoldable pub after_parts : Held → List Part → Held
after_parts h [] = h
after_parts h (q ∷ l) = after_parts (after h (fed_to h q)) l

-- Does no part get a 9?
unfoldable pub roomy : Held → List Part → Bool
roomy h [] = true
roomy h (q ∷ l) = not (eqb (fed_to h q).refusal 9) && roomy (after h (fed_to h q)) l

-- Opened on any bytes s and t of their lengths, and closed.
abbrev pub begun : List ℕ → List ℕ → List ℕ → Held
begun s t o = after (record { image = s; state = t; text = []; refusal = 0 }) (opening s t o)

abbrev pub last_of : Held → List ℕ → Call
last_of h e = closing h.image h.state e

-- The bytes of all parts.
abbrev pub file : List Part → List ℕ
file l = flat_map (λ q. q.part) l

-- Over a slow cable: after any parts with enough room, image, state and the texts together are those of their bytes, and the last call answered 8
-- exactly where these have the fault.
pub record Stands (f : List ℕ) (h : Held) : Type 0 where
  pub image : h.image ≡ (fed opened f).image
  pub state : h.state ≡ state_of (fed opened f)
  pub text : h.text ≡ header ++ printed opened f
  pub refusal : h.refusal ≡ cond (is_over (fed opened f)) 8 0

abbrev pub Feeding : Type 0
Feeding =
    (s t o : List ℕ) (l : List Part) → length s ≡ 776 → length t ≡ 32 → Bytes (file l) → (opening s t o).refusal ≢ 9
    → roomy (begun s t o) l ≡ true → Stands (file l) (after_parts (begun s t o) l)

-- Over a slow cable: however a file is cut, and whatever bytes are lent, as long as they are enough: the texts together, the last image and the last
-- refusal hang on the file alone.
pub record Ends (f : List ℕ) (h : Held) : Type 0 where
  pub text : h.text ≡ transcript f
  pub image : h.image ≡ (fed opened f).image
  pub refusal : h.refusal ≡ cond (well_formed f) 0 8

abbrev pub Cutting : Type 0
Cutting =
    (s t o : List ℕ) (l : List Part) (e : List ℕ) → length s ≡ 776 → length t ≡ 32 → Bytes (file l) → (opening s t o).refusal ≢ 9
    → roomy (begun s t o) l ≡ true → (last_of (after_parts (begun s t o) l) e).refusal ≢ 9
    → Ends (file l) (after (after_parts (begun s t o) l) (last_of (after_parts (begun s t o) l) e))

-- Over a slow cable: 9 exactly where what the call would print does not fit, and then nothing changes.
pub record Nine (s t o text : List ℕ) (c : Call) : Type 0 where
  pub exactly : (c.refusal ≡ 9) ↔ (length o < length text)
  pub unchanged : c.refusal ≡ 9 → c ≡ refused s t o 9

-- Over a slow cable: so with each call that nothing else stands against. Enough for any text are 31 bytes more than the part has, 39,016 for a part of
-- any length, and 16 for a closing. A part without bytes changes nothing.
pub record Rooms : Type 0 where
  pub opens : (s t o : List ℕ) → length s ≡ 776 → length t ≡ 32 → Nine s t o header (opening s t o)
  pub feeds : (s t p o : List ℕ) → against s t ≡ 0 → Nine s t o (printed (standing s t) p) (feeding s t p o)
  pub closes : (s t o : List ℕ) → against s t ≡ 0 → Nine s t o (last_line (standing s t)) (closing s t o)
  pub enough : (s t p o : List ℕ) → Bytes t → Bytes p → length p + 31 ≤ length o → (feeding s t p o).refusal ≢ 9
  pub most : (s t p o : List ℕ) → Bytes t → Bytes p → 39016 ≤ length o → (feeding s t p o).refusal ≢ 9
  pub closes_enough : (s t o : List ℕ) → Bytes t → 16 ≤ length o → (closing s t o).refusal ≢ 9
  pub nothing : (s t o : List ℕ) → Bytes t → against s t ≡ 0 → feeding s t [] o ≡ refused s t o 0

-- Over a slow cable: it is over: whatever is called, the answer is 8, and nothing changes.
pub record Over (s t : List ℕ) : Type 0 where
  pub feeds : (p o : List ℕ) → feeding s t p o ≡ refused s t o 8
  pub closes : (o : List ℕ) → closing s t o ≡ refused s t o 8

-- Over a slow cable: so after every 8, and after every closing that was neither 1 nor 9.
pub record Finished : Type 0 where
  pub fed : (s t p o : List ℕ) → Bytes t → Bytes p → (feeding s t p o).refusal ≡ 8 → Over (feeding s t p o).image (feeding s t p o).state
  pub closed : (s t o : List ℕ) → (closing s t o).refusal ≢ 1 → (closing s t o).refusal ≢ 9 → Over (closing s t o).image (closing s t o).state
