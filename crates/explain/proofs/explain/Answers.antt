use Prim.Native.Nat.{ℕ, ◌^◌, ◌<◌, ◌≤◌}
use mathlib.Core.Path.{refl, sym, ◌∙◌, ap, subst}
use mathlib.Core.List.{List}
use native.Mathlib.Omega.{arith}
use Rattle.words.specs.Bytes.{Bytes}
use Rattle.registers.specs.Block.{block_of}
use Rattle.answers.specs.Answer.{no_mailbox, packed}
use Rattle.answers.proofs.Refusals.{never_none}
use Rattle.good.proofs.Image.{image_facts}
use Rattle.events.specs.declared.Frame.{Frame}
use Rattle.explain.specs.Terms.{explained_by}
use Rattle.explain.proofs.Lines.{same-fitted}
use Rattle.explain.proofs.Call.{identifier-fits, image-refused, event-refused, lines-told}
use Rattle.explain.proofs.explain.Goals as goal

pub returns-in_default : goal.returns-in_default
returns-in_default c =
    let bytes : Bytes c.args.image.now = record { small = λ i. omega (arith, c.type_inv.image i) } in
    image-refused _ _ _ _ _ bytes c.in_default.ensures (refl, c.refuse.ensures)

pub returns-in-Err : goal.returns-in-Err
returns-in-Err c =
    let bytes : Bytes c.args.image.now = record { small = λ i. omega (arith, c.type_inv.image i) } in
    let small : Bytes c.args.event.now = record { small = λ i. omega (arith, c.type_inv.event i) } in
    event-refused _ _ _ _ _ bytes small c.in-Some.ensures.0
    (λ z. never_none c.in-Err.why (c.in-Err.ensures ∙ z))
    (refl, c.refuse-in-Err.ensures ∙ ap (λ (k : ℕ). packed k no_mailbox 0) c.in-Err.ensures)

pub tell-requires : goal.tell-requires
tell-requires c =
    let bytes : Bytes c.args.image.now = record { small = λ i. omega (arith, c.type_inv.image i) } in (
      subst (λ (s : List ℕ). (block_of s).mode ≤ 3) (sym c.in-Some.ensures.1) (image_facts _ bytes c.in-Some.ensures.0).block.core.ranges.mode,
      subst (λ (f : Frame). f.id.0 < 2 ^ 29) (sym c.in-Ok.ensures.1) (identifier-fits _),
    )

pub returns-in-Ok : goal.returns-in-Ok
returns-in-Ok c =
    let bytes : Bytes c.args.image.now = record { small = λ i. omega (arith, c.type_inv.image i) } in
    let small : Bytes c.args.event.now = record { small = λ i. omega (arith, c.type_inv.event i) } in
    lines-told _ _ _ _ _ bytes small c.in-Some.ensures.0 c.in-Ok.ensures.0
    (same-fitted (λ i. explained_by (c.in-Some.ensures.1 i) (c.in-Ok.ensures.1 i)) c.tell.ensures)
