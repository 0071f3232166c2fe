use mathlib.Core.Path.{sym, ◌∙◌, ap}
use Rattle.bits.proofs.Zeros.{lowest_zeros}
use Rattle.sending.specs.Choice.{named}
use Rattle.sending.proofs.lowest.Goals as goal

pub returns : goal.returns
returns c = c.named.ensures ∙ ap named (sym (lowest_zeros 32 c.args.w))
