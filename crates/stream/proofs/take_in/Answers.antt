use Rattle.stream.proofs.Judging.{fit}
use Rattle.stream.proofs.Leaving.{can_stand}
use Rattle.words.specs.Bytes.{Bytes}
use native.Mathlib.Omega.{arith}
use Rattle.stream.proofs.Ready.{printed-fits}
use Rattle.stream.specs.Calls.{standing}
use mathlib.Core.Path.{sym, ◌∙◌}
use borrow.Author.Tests.{leb-true}
use Rattle.stream.proofs.take_in.Goals as goal

pub take_here-requires : goal.take_here-requires
take_here-requires c =
    let a = c.args in
    let k = fit a.image.now a.state.now (omega arith) (omega arith) c.requires in
    let b : Bytes a.state.now = record { small = c.fits-state } in
    let d : Bytes a.part.now = record { small = λ i. omega (arith, c.type_inv.part i) } in
    let f = printed-fits (standing a.image.now a.state.now) (can_stand k b) a.part.now d in
    (c.requires, omega (arith, f, leb-true _ _ (sym c.is_roomy.ensures ∙ c.if-is_roomy.true)))
