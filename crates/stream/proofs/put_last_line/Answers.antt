use Rattle.stream.proofs.Kept.{end_line, short-line}
use Rattle.texts.proofs.Writing.{as_text}
use Rattle.trace.proofs.Bound.{ending-most}
use native.Mathlib.Omega.{arith}
use borrow.Author.Rules.{rules}
use Rattle.stream.proofs.put_last_line.Goals as goal

pub put_ending-requires : goal.put_ending-requires
put_ending-requires c =
    rw c.from.ensures (omega (arith, ending-most c.args.r.steps (omega (arith, c.requires))))

pub returns-then-r-eq-BEHIND : goal.returns-then-r-eq-BEHIND
returns-then-r-eq-BEHIND c =
    let r = c.args.r in
    as_text (end_line r.section r.left r.steps (omega arith)) (rw c.from.ensures at c.put_ending.ensures)

pub put_refused-requires : goal.put_refused-requires
put_refused-requires c = search rules

pub returns : goal.returns
returns c =
    let r = c.args.r in
    as_text (short-line r.section r.left r.steps (λ z. omega arith)) c.put_refused.ensures
