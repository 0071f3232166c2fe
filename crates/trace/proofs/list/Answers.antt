use mathlib.Core.Path.{sym, ◌∙◌}
use Rattle.trace.specs.Trace.{listing}
use Rattle.trace.proofs.Unique.{listed}
use Rattle.trace.proofs.list.Goals as goal

pub returns-then-not-is_trace : goal.returns-then-not-is_trace
unfolding listing
returns-then-not-is_trace c =
    let w = sym c.is_trace.ensures ∙ c.if-not-is_trace.true in
    listed c.args.file.now c.args.out.now c.if-out-lt-LONGEST.false (rw w c.put_refused.ensures)

pub returns : goal.returns
unfolding listing
returns c =
    let w = sym c.is_trace.ensures ∙ c.if-not-is_trace.false in
    listed c.args.file.now c.args.out.now c.if-out-lt-LONGEST.false (rw w c.list_trace.ensures)
