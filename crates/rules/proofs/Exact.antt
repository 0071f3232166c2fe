-- An outcome, a reading or a text keeps the rulebook exactly where it is the one that the product's definitions give.
use mathlib.Core.Path.{sym, subst}
use Rattle.fresh.specs.Fresh.{fresh}
use Rattle.reading.specs.Read.{read}
use Rattle.model.specs.Step.{step}
use Rattle.rules.specs.Reading.{Reads}
use Rattle.rules.specs.Step.{Fresh, Rules}
use Rattle.rules.specs.Exact.{Exact}
use Rattle.rules.proofs.Reading.{reads, read_one}
use Rattle.rules.proofs.Fresh.{fresh_meets, fresh-one}
use Rattle.rules.proofs.Step.{step_meets, rules_one}
use Rattle.rules.proofs.Listing.{listing_exact}

pub exact : Exact
exact =
    record {
      fresh_exact =
          λ s n o. (λ p. fresh-one s n o (fresh s n) p (fresh_meets s n), λ q. subst (Fresh s n) (sym q) (fresh_meets s n));
      step_exact =
          λ s e b y o.
          (λ p. rules_one s e b y o (step s e) p (step_meets s e b y), λ q. subst (Rules s e) (sym q) (step_meets s e b y));
      read_exact =
          λ s b k r.
          (λ p. read_one s b k r (read s k) p (reads s b k), λ q. subst (Reads s k) (sym q) (reads s b k));
      listing_exact = listing_exact;
    }
