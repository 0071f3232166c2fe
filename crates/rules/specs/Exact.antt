-- What is proved of the rulebook: each call meets it, and nothing else does.
use Rattle.std.specs.Prelude.{ℕ, ◌≡◌, List, ◌↔◌}
use Rattle.words.specs.Bytes.{Bytes}
use Rattle.answers.specs.Answer.{Outcome, Reading}
use Rattle.fresh.specs.Fresh.{fresh}
use Rattle.model.specs.Step.{step}
use Rattle.reading.specs.Read.{read}
use Rattle.trace.specs.Trace.{listing}
use Rattle.rules.specs.Reading.{Reads}
use Rattle.rules.specs.Step.{Rules, Fresh}
use Rattle.rules.specs.Listing.{Listing}

-- fresh, step, read and listing are the definitions that the code is proved to keep; Bytes says that a list holds bytes, as lent bytes do.
pub record Exact : Type 0 where
  pub fresh_exact : (s : List ℕ) (p : ℕ) (o : Outcome) → Fresh s p o ↔ (o ≡ fresh s p)
  pub step_exact : (s e : List ℕ) → Bytes s → Bytes e → (o : Outcome) → Rules s e o ↔ (o ≡ step s e)
  pub read_exact : (s : List ℕ) → Bytes s → (k : ℕ) (r : Reading) → Reads s k r ↔ (r ≡ read s k)
  pub listing_exact : (f : List ℕ) → Bytes f → (text : List ℕ) → Listing f text ↔ (text ≡ listing f)
