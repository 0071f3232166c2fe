use Prim.Native.Nat.{◌*◌, ◌/◌, ◌≤◌}
use mathlib.Core.Path.{◌≡◌, sym, ◌∙◌, ap}
use native.Mathlib.Omega.{arith}
use lib.ListN.{length, take}
use Rattle.answers.proofs.Lists.{fitted_as}
use Rattle.texts.proofs.Writing.{front_of, kept}
use Rattle.explain.specs.Explain.{list_bytes}
use Rattle.explain.specs.Terms.{explained_by}
use Rattle.explain.proofs.Lines.{text-length, explained-most}
use Rattle.explain.proofs.tell_if_they_fit.Goals.{After-put_explanation-end}
use Rattle.explain.proofs.tell_if_they_fit.Goals as goal

-- the lines that were made apart, and where they end
ends : (c : After-put_explanation-end) → c.put_explanation-end.result ≡ 8 * length (explained_by c.args.s.now c.args.f)
ends c =
    let a = c.args in
    omega (arith, c.put_explanation-end.ensures.behind, text-length (explained_by a.s.now a.f))

most : (c : After-put_explanation-end) → length (explained_by c.args.s.now c.args.f) ≤ 32
most c = explained-most c.args.s.now c.args.f

apart : (c : After-put_explanation-end) → take c.put_explanation-end.result c.put_explanation-end.new.list ≡ list_bytes (explained_by c.args.s.now c.args.f)
apart c =
    let a = c.args in
    front_of (omega (arith, text-length (explained_by a.s.now a.f), most c)) c.put_explanation-end.ensures

pub slice_bounds-apart-end : goal.slice_bounds-apart-end
slice_bounds-apart-end c =
    omega (arith, ends (goal.at.slice_bounds-apart-end c).After-put_explanation-end, most (goal.at.slice_bounds-apart-end c).After-put_explanation-end, kept c.put_explanation-end.ensures)

pub slice_bounds-tell-end : goal.slice_bounds-tell-end
slice_bounds-tell-end c =
    sym (ap length (apart (goal.at.slice_bounds-tell-end c).After-put_explanation-end) ∙ text-length _ ∙ sym (ends (goal.at.slice_bounds-tell-end c).After-put_explanation-end))

pub overflow_cast-end : goal.overflow_cast-end
overflow_cast-end c =
    omega (arith, ends (goal.at.overflow_cast-end c).After-put_explanation-end, most (goal.at.overflow_cast-end c).After-put_explanation-end)

pub returns : goal.returns
returns c =
    let n : c.put_explanation-end.result / 8 ≡ length (explained_by c.args.s.now c.args.f) = omega (arith, ends (goal.at.returns c).After-put_explanation-end) in
    fitted_as n (apart (goal.at.returns c).After-put_explanation-end) c.tell.ensures
