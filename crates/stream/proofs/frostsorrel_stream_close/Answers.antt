use Rattle.stream.proofs.Judging.{fit, other-image, other-state, of_state, nothing-against}
use Rattle.answers.proofs.Refusals.{never_none}
use Rattle.stream.proofs.Leaving.{stopped, goes_on}
use mathlib.Core.Path.{sym, ◌∙◌}
use Rattle.stream.specs.Calls.{against, last_call, closing}
use native.Mathlib.Omega.{arith}
use Rattle.stream.proofs.frostsorrel_stream_close.Goals as goal

pub returns-in_default : goal.returns-in_default
unfolding closing
returns-in_default c =
    let a = c.args in
    stopped a.image.now a.state.now a.text.now (last_call a.image.now a.state.now a.text.now) (against a.image.now a.state.now) (other-image a.image.now a.state.now c.in_default.ensures.cases) (λ z. omega arith) c.refuse.ensures

pub returns-in_default-as_mut_array : goal.returns-in_default-as_mut_array
unfolding closing
returns-in_default-as_mut_array c =
    let a = c.args in
    let s = c.in-Some.ensures.cases in
    rw s.same (stopped a.image.now a.state.now a.text.now (last_call a.image.now a.state.now a.text.now) (against a.image.now a.state.now) (other-state a.image.now a.state.now s.long c.in_default-as_mut_array.ensures.cases) (λ z. omega arith) c.refuse-in_default-as_mut_array.ensures)

pub returns-in-Err : goal.returns-in-Err
unfolding closing
returns-in-Err c =
    let a = c.args in
    let s = c.in-Some.ensures.cases in
    let t = c.in-Some-as_mut_array.ensures.cases in
    let n = rw t.same at c.in-Err.ensures in
    rw (s.same, t.same) (stopped a.image.now a.state.now a.text.now (last_call a.image.now a.state.now a.text.now) (against a.image.now a.state.now) (n ∙ of_state a.image.now a.state.now s.long t.long) (never_none c.in-Err.why) c.refuse-in-Err.ensures)

pub returns-in-Ok : goal.returns-in-Ok
unfolding closing
returns-in-Ok c =
    let a = c.args in
    let s = c.in-Some.ensures.cases in
    let t = c.in-Some-as_mut_array.ensures.cases in
    let r = rw t.same at c.in-Ok.ensures in
    let k = fit a.image.now a.state.now s.long t.long r in
    let l = rw (s.same, t.same) at c.finish.ensures in
    rw s.same (goes_on a.image.now a.state.now a.text.now (last_call a.image.now a.state.now a.text.now) (against a.image.now a.state.now) (sym (nothing-against a.image.now a.state.now s.long t.long k.going r)) l)
