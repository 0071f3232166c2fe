use mathlib.Core.Path.{◌≡◌}
use Rattle.filter.specs.Filter.{last_mailbox}
use Rattle.filter.proofs.Rest.{rest_from}
use Rattle.filter.proofs.Walk.{Walked}
use Rattle.filter.proofs.find.Given as goal

abbrev pub invariant-loop-rest : goal.invariant-loop-rest
invariant-loop-rest l = (l.rest ≡ rest_from last_mailbox l.pool l.k) × Walked l.m.image.now l.f l.pool l.k l.count

abbrev pub decreases-loop-rest : goal.decreases-loop-rest
decreases-loop-rest l = l.rest
