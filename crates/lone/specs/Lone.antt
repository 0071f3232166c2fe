-- Document 02, b): a tool alone on the bench. Nobody acknowledges what it sends, and it tries again and again.
use Rattle.std.specs.Prelude.{ℕ, zero, suc, ◌+◌, ◌*◌, ◌<◌, ◌≤◌, ◌≡◌, true, false, cond, List, [], ◌∷◌, ◌⊎◌}
use Rattle.words.specs.Bytes.{Bytes}
use Rattle.events.specs.Parts.{plain_event}
use Rattle.model.specs.Step.{step}
use Rattle.books.specs.Happen.{run}
use Rattle.rules.specs.Words.{words, ◌is◌, at_most, TEC, REC, MODE, WAITING, SLOT, empty_slot}
use Rattle.rules.specs.Image.{Good, bus_off, passive}
use Rattle.rules.specs.Events.{operation, target, Applies}
use Rattle.rules.specs.Sending.{candidate}

-- n starts (operation 3), each followed by outcome k (operation 4).
abbrev pub tries : ℕ → ℕ → List (List ℕ)
tries k zero = []
tries k (suc n) = plain_event 3 0 0 ∷ plain_event 4 k 0 ∷ tries k n

-- An event that is a start or says that nobody acknowledged (outcome 3), whatever its other bytes are; a list of such events.
abbrev pub Alone : List ℕ → Type 0
Alone e = Bytes e × ((operation e ≡ 3) ⊎ ((operation e ≡ 4) × (target e ≡ 3)))

abbrev pub AllAlone : List (List ℕ) → Type 0
AllAlone [] = Unit
AllAlone (e ∷ l) = Alone e × AllAlone l

-- A tool that has mailbox n to send: a good image, normal mode, nothing in the slot.
pub record Ready (s : List ℕ) (n : ℕ) : Type 0 where
  pub bytes : Bytes s
  pub good : Good s
  pub normal : words s MODE ≡ 0
  pub vacant : words s SLOT ≡ empty_slot
  pub asks : (n < 32) × (candidate (words s) n ≡ true)

-- Outcome 3, where it is accepted: TEC stays if the unit was passive before it, and rises by 8 if it was not; a sleep that waits is taken at
-- the end of the step and clears it.
unfoldable pub Counts : Type 0
Counts =
    (s e : List ℕ) → Bytes s → Bytes e → operation e ≡ 4 → target e ≡ 3 → ((r : ℕ) → Applies s e r → ⊥)
    → words (step s e).image TEC ≡ cond (words s WAITING is 2) 0 (cond (passive (words s)) (words s TEC) (words s TEC + 8))

-- Whatever the image is, starts and outcomes 3, in whatever order they come, do not take TEC to 256 if it was below.
unfoldable pub Stays : Type 0
Stays = (s : List ℕ) → Bytes s → words s TEC < 256 → (l : List (List ℕ)) → AllAlone l → words (run s l) TEC < 256

-- So no number of tries that nobody acknowledges leads to bus off.
unfoldable pub Never : Type 0
Never = (s : List ℕ) → Bytes s → words s TEC < 256 → (n : ℕ) → bus_off (words (run s (tries 3 n))) ≡ false

-- From TEC 0, with REC not above 127, the first 16 of them add 8 each, and then TEC stays at 128: the unit is passive, and is so for good.
unfoldable pub Settles : Type 0
Settles = (s : List ℕ) (m : ℕ) → Ready s m → words s TEC ≡ 0 → words s REC ≤ 127 → (n : ℕ) → words (run s (tries 3 n)) TEC ≡ at_most 128 (8 * n)

-- With outcome 2, an error, each try adds 8, as long as there is room.
unfoldable pub Rises : Type 0
Rises = (s : List ℕ) (m : ℕ) → Ready s m → (n : ℕ) → words s TEC + 8 * n ≤ 256 → words (run s (tries 2 n)) TEC ≡ words s TEC + 8 * n

-- So from TEC 0 the 32nd try leads to bus off, and none before it does.
unfoldable pub Off : Type 0
Off = (s : List ℕ) (m : ℕ) → Ready s m → words s TEC ≡ 0 → (n : ℕ) → n ≤ 32 → bus_off (words (run s (tries 2 n))) ≡ n is 32

-- There is such a tool: the last three statements are not about nothing.
unfoldable pub Possible : Type 0
Possible = (s : List ℕ) × Ready s 0 × (words s TEC ≡ 0) × (words s REC ≡ 0)
