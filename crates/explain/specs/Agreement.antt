-- Document 02, request d, why did it land there: what is proved of the lines.
use Rattle.std.specs.Prelude.{ℕ, ◌+◌, ◌/◌, ◌%◌, ◌<◌, ◌≡◌, Bool, true, false, cond, ◌||◌, List, [], ◌∷◌, ◌⊎◌, ◌↔◌, length}
use Rattle.words.specs.Bytes.{Bytes}
use Rattle.rules.specs.Words.{◌has◌, Words, words, box, among, BoxesStayBut, MD}
use Rattle.rules.specs.Image.{on_bus}
use Rattle.rules.specs.Events.{operation, Applies}
use Rattle.rules.specs.Receiving.{compared, Matches, seat, guarded, First}
use Rattle.rules.specs.Calls.{StepCall}
use Rattle.explain.specs.declared.Reason.{Reason}
use Rattle.explain.specs.declared.Reason.TheVariants.{BitDiffers, Matched, Protected}
use Rattle.explain.specs.declared.Line.{Line}
use Rattle.explain.specs.Explain.{number, differs, reason, explained}

-- Mailbox n has a line with this reason.
abbrev pub IsTold : ℕ → Reason → List Line → Type 0
IsTold n why [] = ⊥
IsTold n why (l ∷ ls) = ((l.mailbox ≡ n) × (l.reason ≡ why)) ⊎ IsTold n why ls

-- The lines are those of the mailboxes at place k of the search and at the places behind it, one each.
abbrev pub InOrder : Words → ℕ → List Line → Type 0
InOrder w k [] = Unit
InOrder w k (l ∷ ls) = (l.mailbox ≡ seat w k) × InOrder w (k + 1) ls

-- Was the mailbox compared? Reasons 3, 4, 5 and 7 say so.
abbrev pub was_compared : Reason → Bool
was_compared why = among (number why) (3 ∷ 4 ∷ 5 ∷ 7 ∷ [])

-- How many lines are of compared mailboxes.
unfoldable pub comparisons : List Line → ℕ
comparisons [] = 0
comparisons (l ∷ ls) = cond (was_compared l.reason) 1 0 + comparisons ls

-- A step on the image s takes the frame e, heard or not; x is what it left of the image, a what it answered.
pub record Takes (s e x : List ℕ) (a : ℕ) : Type 0 where
  pub bytes : Bytes s × Bytes e
  pub step : StepCall s e x a
  pub frame : operation e ≡ 2
  pub taken : (r : ℕ) → Applies s e r → ⊥

pub record Agreement : Type 0 where
  -- a bit that is named is one of the identifier and differs, and none above it does
  pub bit : (s e : List ℕ) (n i : ℕ) → reason s e n ≡ BitDiffers i
      → (i < 29) × (differs s e n i ≡ true) × ((j : ℕ) → i < j → j < 29 → differs s e n j ≡ false)
  -- a mailbox is protected exactly where it is compared, matches, and passes the frame over
  pub passed : (s e : List ℕ) (n : ℕ) → (reason s e n ≡ Protected) ↔ ((compared s e n ≡ true) × Matches s e n × (guarded (words s) n ≡ true))
  -- a heard frame: the mailboxes in the order of the search have one line each, which tells their reason, up to and with the one where the
  -- search of a step stops; where it does not stop, all 32 have one
  pub order : (s e : List ℕ) → on_bus (words s) ≡ true → InOrder (words s) 0 (explained s e)
  pub told : (s e : List ℕ) → on_bus (words s) ≡ true → (n : ℕ) (why : Reason) → IsTold n why (explained s e) → reason s e n ≡ why
  pub last : (s e : List ℕ) → on_bus (words s) ≡ true → (k n : ℕ) → First s e k n → length (explained s e) ≡ k + 1
  pub all : (s e : List ℕ) → on_bus (words s) ≡ true → ((k n : ℕ) → First s e k n → ⊥) → length (explained s e) ≡ 32
  -- the line that says matched is that of the mailbox where the search stops, and there is one exactly where it stops
  pub matched : (s e : List ℕ) → on_bus (words s) ≡ true → (n : ℕ) → IsTold n Matched (explained s e) ↔ ((k : ℕ) × First s e k n)
  -- a step that takes the frame: its count is that of the lines of compared mailboxes; its answer names a mailbox exactly where that is the
  -- matched one, and receives or has RFH (bit 29 of word 0); of the mailboxes' bytes only those of the matched one change, and where none
  -- matched, none do
  pub count : (s e x : List ℕ) (a : ℕ) → Takes s e x a → a / 65536 ≡ comparisons (explained s e)
  pub named : (s e x : List ℕ) (a : ℕ) → Takes s e x a → (n : ℕ) → n < 32
      → (a / 256 % 256 ≡ n) ↔ (IsTold n Matched (explained s e) × ((words s MD has n || box s n 0 has 29) ≡ true))
  pub changed : (s e x : List ℕ) (a : ℕ) → Takes s e x a → (n : ℕ) → IsTold n Matched (explained s e) → BoxesStayBut n s x
  pub unchanged : (s e x : List ℕ) (a : ℕ) → Takes s e x a → ((n : ℕ) → IsTold n Matched (explained s e) → ⊥) → BoxesStayBut 32 s x
