use Rattle.stream.proofs.Kept.{state_anew}
use mathlib.Core.Path.{◌∙◌, ap}
use lib.ListN.{replicate}
use Rattle.stream.specs.declared.Reader.{Reader}
use Rattle.stream.specs.Terms.{numbers}
use Rattle.stream.proofs.restart.Goals as goal

pub returns : goal.returns
returns c =
    c.store.ensures ∙ ap (λ (r : Reader). numbers r (replicate 16 0)) c.start.ensures ∙ state_anew c.args.section
