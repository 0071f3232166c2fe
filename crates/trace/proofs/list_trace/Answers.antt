use mathlib.Core.Path.{◌∙◌, ap}
use mathlib.Core.List.{◌++◌}
use native.Mathlib.Omega.{arith}
use lib.ListN.{length}
use Rattle.registers.specs.Block.{can_b}
use Rattle.fresh.specs.Fresh.{fresh_image}
use Rattle.trace.specs.Trace.{events, lines, ending, run}
use Rattle.texts.proofs.Writing.{as_text, both_put, room, front}
use Rattle.trace.proofs.Bound.{run-most}
use Rattle.trace.proofs.list_trace.Goals as goal

pub run_all-b-requires : goal.run_all-b-requires
unfolding run
run_all-b-requires c =
    let f = c.args.file.now in
    let l = lines 1 (fresh_image can_b) (events f) in
    let e = ending (length (events f)) in
    let m = run-most f c.requires.0 in
    rw c.of-trace.ensures (front l e _ _ (room c.put_header-a.ensures (l ++ e) (omega (arith, c.requires.1))))

pub put_ending-requires : goal.put_ending-requires
unfolding run
put_ending-requires c =
    let f = c.args.file.now in
    let l = lines 1 (fresh_image can_b) (events f) in
    let e = ending (length (events f)) in
    let m = run-most f c.requires.0 in
    let n = c.count.ensures ∙ ap length c.of-trace.ensures in
    rw n (room (as_text (ap (lines 1 (fresh_image can_b)) c.of-trace.ensures) c.run_all-b.ensures) e (room c.put_header-a.ensures (l ++ e) (omega (arith, c.requires.1))))

pub returns : goal.returns
unfolding run
returns c =
    let n = c.count.ensures ∙ ap length c.of-trace.ensures in
    both_put c.put_header-a.ensures (both_put (as_text (ap (lines 1 (fresh_image can_b)) c.of-trace.ensures) c.run_all-b.ensures) (as_text (ap ending n) c.put_ending.ensures))
