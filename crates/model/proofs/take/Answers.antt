use mathlib.Core.Path.{◌≡◌, refl, sym, ◌∙◌, ap, ap₂}
use mathlib.Core.Bool.{Bool}
use native.Mathlib.Omega.{arith}
use borrow.Author.Tests.{ne_eqb}
use Rattle.words.proofs.Bytes.{Bytes}
use Rattle.registers.specs.Block.{block_of}
use Rattle.registers.specs.Status.{ecan, asleep}
use Rattle.events.specs.Decode.{decoded, event}
use Rattle.refusals.specs.Refusal.{refusal, remaining}
use Rattle.refusals.proofs.Order.{refusal-good}
use Rattle.model.specs.Step.{step}
use Rattle.model.proofs.Meets.{as_case}
use Rattle.model.proofs.Whole.{loaded, sized, fitting, unrefused, real}
use Rattle.model.proofs.Ends.{ends}
use Rattle.model.proofs.take.Goals.{After-remaining_refusal-refusal}
use Rattle.model.proofs.take.Goals as goal

pub remaining_refusal-refusal-requires : goal.remaining_refusal-refusal-requires
remaining_refusal-refusal-requires c =
    let e = c.args.event.now in
    let bytes : Bytes e = record { small = λ i. omega (arith, c.type_inv.event i) } in
    rw c.decode-e.ensures (fitting c.is_asleep.result c.is_ecan.result e bytes)

-- what was asked is the refusal of the decoded event
asked : (c : After-remaining_refusal-refusal) → c.remaining_refusal-refusal.result ≡ remaining c.args.image.now (decoded c.is_asleep.result c.is_ecan.result c.args.event.now)
asked c = c.remaining_refusal-refusal.ensures ∙ ap₂ remaining c.load-m.ensures c.decode-e.ensures

-- and of the step
refused_by : (c : After-remaining_refusal-refusal) → refusal c.args.image.now c.args.event.now ≡ c.remaining_refusal-refusal.result
refused_by c =
    let s = c.args.image.now in
    let e = c.args.event.now in
    let b = c.load-m.result.of_image ∙ ap block_of c.load-m.ensures in
    let a = c.is_asleep.ensures ∙ ap asleep b in
    let p = c.is_ecan.ensures ∙ ap ecan b in
    refusal-good s e c.requires ∙ ap₂ (λ (t u : Bool). remaining s (decoded t u e)) (sym a) (sym p) ∙ sym (asked c)

pub returns-then-refusal-ne0 : goal.returns-then-refusal-ne0
unfolding step
returns-then-refusal-ne0 c =
    rw (refused_by (goal.at.returns-then-refusal-ne0 c).After-remaining_refusal-refusal, ne_eqb _ 0 c.if-refusal-ne0.true)
    (record { image = refl; answered = c.pack.ensures })

pub act-answer-requires : goal.act-answer-requires
act-answer-requires c =
    let s = c.args.image.now in
    let e = c.args.event.now in
    let bytes : Bytes e = record { small = λ i. omega (arith, c.type_inv.event i) } in
    let own = loaded s (record { small = c.fits-image }) c.requires in
    let a = c.is_asleep.result in
    let p = c.is_ecan.result in
    let z : remaining s (decoded a p e) ≡ 0 = sym (asked (goal.at.act-answer-requires c).After-remaining_refusal-refusal) ∙ c.if-refusal-ne0.false in
    (own, rw c.decode-e.ensures (sized s a p e bytes own (unrefused s a p e z) z))

pub returns : goal.returns
unfolding step
returns c =
    let s = c.args.image.now in
    let e = c.args.event.now in
    let at = (goal.at.returns c).After-remaining_refusal-refusal in
    let bytes : Bytes e = record { small = λ i. omega (arith, c.type_inv.event i) } in
    let a = c.is_asleep.result in
    let p = c.is_ecan.result in
    let z : remaining s (decoded a p e) ≡ 0 = sym (asked at) ∙ c.if-refusal-ne0.false in
    let r : refusal s e ≡ 0 = refused_by at ∙ c.if-refusal-ne0.false in
    rw r
    (ends s e (record { small = c.fits-image }) bytes c.requires r
    (as_case s (event e) c.decode-e.result (sym (c.decode-e.ensures ∙ real s a p e z)) c.act-answer.ensures)
    c.settle.ensures)
