use Prim.Native.Nat.{ℕ}
use mathlib.Core.Path.{◌≡◌, ◌∙◌, ap}
use Rattle.bits.specs.Bit.{bit}
use Rattle.registers.specs.declared.Block.{Block}
use Rattle.mailboxes.specs.Mailbox.{mailbox_word}
use Rattle.filter.specs.Filter.{mask_for, differing}
use Rattle.explain.proofs.Reasons.{differing_at, gap_30, gap_29}
use Rattle.explain.proofs.reason_at.Goals.{After-differing-differing}
use Rattle.explain.proofs.reason_at.Goals as goal

-- the bits that differ
differed : (c : After-differing-differing) → c.differing-differing.result ≡ differing_at c.args.m.image.now c.args.f c.args.n
differed c =
    let m = c.args.m in
    c.differing-differing.ensures
    ∙ (λ i. differing (c.mask_of.ensures i) c.args.f (c.word.ensures i))
    ∙ ap (λ (b : Block). differing (mask_for m.image.now b c.args.n) c.args.f (mailbox_word m.image.now c.args.n 0)) m.of_image

pub judge-requires : goal.judge-requires
judge-requires c =
    let a = c.args in
    let e = differed (goal.at.judge-requires c).After-differing-differing in
    (ap (λ (x : ℕ). bit x 30) e ∙ gap_30 a.m.image.now a.f a.n, ap (λ (x : ℕ). bit x 29) e ∙ gap_29 a.m.image.now a.f a.n)
