use Rattle.stream.proofs.Leaving.{other_length, opens}
use Rattle.stream.proofs.frostsorrel_stream_open.Goals as goal

pub returns-in_default : goal.returns-in_default
returns-in_default c =
    let a = c.args in
    other_length a.image.now a.state.now a.text.now (λ y z. c.in_default.ensures.cases y) c.refuse.ensures

pub returns-in_default-as_mut_array : goal.returns-in_default-as_mut_array
returns-in_default-as_mut_array c =
    let a = c.args in
    rw c.in-Some.ensures.cases.same (other_length a.image.now a.state.now a.text.now (λ y z. c.in_default-as_mut_array.ensures.cases z) c.refuse-in_default-as_mut_array.ensures)

pub returns : goal.returns
returns c =
    let a = c.args in
    let s = c.in-Some.ensures.cases in
    let t = c.in-Some-as_mut_array.ensures.cases in
    opens a.image.now a.state.now a.text.now s.long t.long (rw (s.same, t.same) at c.begin.ensures)
