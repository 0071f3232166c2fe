use Rattle.stream.proofs.Judging.{no_section, past_sections, too_many_left, too_many_steps, too_much_seen, rest_decides}
use native.Mathlib.Omega.{arith}
use Rattle.stream.proofs.is_ready.Goals as goal

pub returns-then-r-eq0 : goal.returns-then-r-eq0
returns-then-r-eq0 c =
    let t = c.args.state.now in
    let r = c.load-r.result in
    let h = c.load-r.ensures in
    no_section t r h (omega arith)

pub returns-then-r-gt-BEHIND : goal.returns-then-r-gt-BEHIND
returns-then-r-gt-BEHIND c =
    let t = c.args.state.now in
    let r = c.load-r.result in
    let h = c.load-r.ensures in
    past_sections t r h (omega arith)

pub returns-then-r-choose : goal.returns-then-r-choose
returns-then-r-choose c =
    let t = c.args.state.now in
    let r = c.load-r.result in
    let h = c.load-r.ensures in
    too_many_left t r h c.choose.ensures (omega arith)

pub returns-then-r-gt3000 : goal.returns-then-r-gt3000
returns-then-r-gt3000 c =
    let t = c.args.state.now in
    let r = c.load-r.result in
    let h = c.load-r.ensures in
    too_many_steps t r h (record { small = c.fits-state }) (omega arith) (omega arith)

pub returns-then-r-whole : goal.returns-then-r-whole
returns-then-r-whole c =
    let t = c.args.state.now in
    let r = c.load-r.result in
    let h = c.load-r.ensures in
    too_much_seen t r h c.choose-2.ensures c.choose-whole.ensures (omega arith)

pub returns : goal.returns
returns c =
    let t = c.args.state.now in
    let r = c.load-r.result in
    rest_decides t r c.load-r.ensures c.choose-2.ensures c.choose-whole.ensures c.choose.ensures c.choose-known.ensures (rw c.from.ensures at c.takes.ensures) c.is_zero_from.ensures (omega (arith, c.if-r-eq0.false)) (omega (arith, c.if-r-gt-BEHIND.false)) (omega (arith, c.if-r-choose.false)) (omega (arith, c.if-r-whole.false))
