use Rattle.std.proofs.Common.{◌≡◌, ◌+◌, ◌*◌, ◌-◌, ◌/◌, ℕ, arith, length, take, drop, ap, ◌∙◌}
use Rattle.std.specs.Simd.{first_chunks}
use Rattle.std.proofs.lemmas.List.{length-take-le, length-drop}
use Rattle.trace.specs.Trace.{count_at, end_of}
use Rattle.trace.proofs.Runs.{events-cut}
use Rattle.trace.proofs.section.Goals as goal

pub slice_bounds-as_chunks-count : goal.slice_bounds-as_chunks-count
unfolding end_of
slice_bounds-as_chunks-count c = omega arith

pub slice_bounds-as_chunks-start : goal.slice_bounds-as_chunks-start
unfolding end_of
slice_bounds-as_chunks-start c = omega arith

pub returns : goal.returns
unfolding end_of
returns c =
    let f = c.args.file.now in
    let at = c.args.start + 2 in
    let n = count_at f c.args.start in
    let m = c.end_of.result - at in
    let e : m ≡ 16 * n = omega arith in
    let l : length (take m (drop at f)) ≡ m = length-take-le m (drop at f) (omega (arith, length-drop at f)) in
    let k : length (take m (drop at f)) / 16 ≡ n = omega arith in (
      c.as_chunks.ensures.front ∙ ap (λ (j : ℕ). first_chunks 16 j (take m (drop at f))) k ∙ events-cut f at n m e,
      c.as_chunks.ensures.front_len ∙ k,
    )
