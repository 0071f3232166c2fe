use Prim.Native.Nat.{◌*◌, ◌/◌}
use mathlib.Core.Path.{◌≡◌, ◌∙◌, ap}
use native.Mathlib.Omega.{arith}
use lib.ListN.{length}
use Rattle.answers.specs.Answer.{no_mailbox, packed}
use Rattle.texts.proofs.Writing.{put_down}
use Rattle.explain.specs.Terms.{explained_by}
use Rattle.explain.proofs.Lines.{text-length, explained-most}
use Rattle.explain.proofs.tell.Goals.{After-put_explanation-end}
use Rattle.explain.proofs.tell.Goals as goal

-- where the lines end
ends : (c : After-put_explanation-end) → c.put_explanation-end.result ≡ 8 * length (explained_by c.args.s.now c.args.f)
ends c =
    let a = c.args in
    omega (arith, c.put_explanation-end.ensures.behind, text-length (explained_by a.s.now a.f))

pub overflow_cast-end : goal.overflow_cast-end
overflow_cast-end c =
    let a = c.args in
    omega (arith, ends (goal.at.overflow_cast-end c).After-put_explanation-end, explained-most a.s.now a.f)

pub returns : goal.returns
returns c =
    let a = c.args in
    let l = explained_by a.s.now a.f in
    let n : c.put_explanation-end.result / 8 ≡ length l = omega (arith, ends (goal.at.returns c).After-put_explanation-end) in
    put_down (omega (arith, c.if-list-lt-LONGEST.false, text-length l, explained-most a.s.now a.f)) c.put_explanation-end.ensures
    (c.pack.ensures ∙ ap (packed 0 no_mailbox) n)
