-- "What is modelled": what a C caller has after a call: the bytes it lent, as the call left them, and one number.
use Rattle.std.specs.Prelude.{ℕ, ◌+◌, ◌*◌, ◌^◌, ◌<◌, ◌≤◌, ◌≡◌, List, length, take}
use Rattle.answers.specs.Answer.{Outcome, Reading}
use Rattle.compare.specs.Compare.{Compares}
use Rattle.rules.specs.Words.{byte}
use Rattle.rules.specs.Image.{Good}
use Rattle.rules.specs.Reading.{Reads}
use Rattle.rules.specs.Step.{Rules, Fresh}
use Rattle.rules.specs.Listing.{Listing}

-- The image is that of an outcome that keeps the rules P, and refusal, mailbox and count of it are packed into the answer.
pub record Call (P : Outcome → Type 0) (exit : List ℕ) (answer : ℕ) : Type 0 where
  pub outcome : Outcome
  pub keeps : P outcome
  pub image : exit ≡ outcome.image
  pub packs : answer ≡ outcome.refusal + 256 * outcome.mailbox + 65536 * outcome.count

abbrev pub FreshCall : List ℕ → ℕ → List ℕ → ℕ → Type 0
FreshCall s p exit answer = Call (Fresh s p) exit answer

abbrev pub StepCall : List ℕ → List ℕ → List ℕ → ℕ → Type 0
StepCall s e exit answer = Call (Rules s e) exit answer

-- A read is lent its image to be read only; value and refusal are packed into its answer.
pub record ReadCall (s : List ℕ) (k answer : ℕ) : Type 0 where
  pub reading : Reading
  pub keeps : Reads s k reading
  pub packs : answer ≡ reading.value + 2 ^ 32 * reading.refusal

-- The listing of the file f stands at the front of the lent bytes o, and the answer is its length; the bytes behind it stay. No listing needs
-- more than 39,033 bytes: where fewer are lent, all stay and the answer is 0.
pub record ListingCall (f o exit : List ℕ) (answer : ℕ) : Type 0 where
  pub short : length o < 39033 → (exit ≡ o) × (answer ≡ 0)
  pub listing : 39033 ≤ length o → (answer ≤ length o) × Listing f (take answer exit)
  pub behind : (i : ℕ) → answer ≤ i → byte exit i ≡ byte o i
  pub size : length exit ≡ length o

-- Document 02, request a, comparing two images: the rule is in the crate `compare`, over images that are good by this book.
abbrev pub CompareCall : List ℕ → List ℕ → List ℕ → List ℕ → ℕ → Type 0
CompareCall a b o exit answer = Compares (Good a × Good b) a b o exit answer
