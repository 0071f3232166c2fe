use Prim.Native.Nat.{ℕ, ◌*◌, ◌/◌}
use mathlib.Core.Path.{◌≡◌, sym, ◌∙◌, ap}
use mathlib.Core.List.{List}
use native.Mathlib.Omega.{arith}
use lib.ListN.{length, take}
use Rattle.answers.proofs.Lists.{fitted_as}
use Rattle.texts.proofs.Writing.{front_of, kept}
use Rattle.compare.specs.Compare.{differences, list_bytes}
use Rattle.compare.proofs.Below.{list_most}
use Rattle.compare.proofs.Call.{list_long}
use Rattle.compare.proofs.tell_if_it_fits.Goals.{After-put_list-end}
use Rattle.compare.proofs.tell_if_it_fits.Goals as goal

-- the list that was made apart, and where it ends
abbrev first : (c : After-put_list-end) → List ℕ
first c = c.args.first.now

abbrev second : (c : After-put_list-end) → List ℕ
second c = c.args.second.now

ends : (c : After-put_list-end) → c.put_list-end.result ≡ 12 * length (differences (first c) (second c))
ends c = omega (arith, c.put_list-end.ensures.behind, list_long (first c) (second c))

apart : (c : After-put_list-end) → take c.put_list-end.result c.put_list-end.new.list ≡ list_bytes (differences (first c) (second c))
apart c = front_of (omega (arith, list_long (first c) (second c), list_most (first c) (second c))) c.put_list-end.ensures

pub put_list-end-requires : goal.put_list-end-requires
put_list-end-requires c =
    omega (arith, list_most c.args.first.now c.args.second.now)

pub slice_bounds-apart-end : goal.slice_bounds-apart-end
slice_bounds-apart-end c =
    omega (arith, ends (goal.at.slice_bounds-apart-end c).After-put_list-end, list_most (first (goal.at.slice_bounds-apart-end c).After-put_list-end) (second (goal.at.slice_bounds-apart-end c).After-put_list-end), kept c.put_list-end.ensures)

pub slice_bounds-tell-end : goal.slice_bounds-tell-end
slice_bounds-tell-end c =
    sym (ap length (apart (goal.at.slice_bounds-tell-end c).After-put_list-end) ∙ list_long (first (goal.at.slice_bounds-tell-end c).After-put_list-end) (second (goal.at.slice_bounds-tell-end c).After-put_list-end) ∙ sym (ends (goal.at.slice_bounds-tell-end c).After-put_list-end))

pub overflow_cast-end : goal.overflow_cast-end
overflow_cast-end c =
    omega (arith, ends (goal.at.overflow_cast-end c).After-put_list-end, list_most (first (goal.at.overflow_cast-end c).After-put_list-end) (second (goal.at.overflow_cast-end c).After-put_list-end))

pub returns : goal.returns
returns c =
    let n : c.put_list-end.result / 12 ≡ length (differences (first (goal.at.returns c).After-put_list-end) (second (goal.at.returns c).After-put_list-end)) = omega (arith, ends (goal.at.returns c).After-put_list-end) in
    fitted_as n (apart (goal.at.returns c).After-put_list-end) c.tell.ensures
