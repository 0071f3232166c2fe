use mathlib.Core.Path.{sym, ◌∙◌}
use Rattle.filter.proofs.Search.{found-at}
use Rattle.filter.proofs.deliver.Goals as goal

pub place_at-requires : goal.place_at-requires
place_at-requires c =
    let a = c.args in
    let m = c.in-At in
    (found-at a.m.image.now a.f m.mailbox m.count (sym c.find.ensures ∙ m.is)).there
