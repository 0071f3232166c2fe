use Rattle.std.proofs.Common.{arith, ap, ◌∙◌}
use Rattle.trace.specs.Trace.{count_at, end_of, section, events}
use Rattle.trace.proofs.Runs.{formed, first_in, second_in, third_in}
use Rattle.trace.proofs.Sections.of.Goals as goal

pub section-requires : goal.section-requires
section-requires c = (first_in c.args.file.now c.requires, omega arith)

pub section-requires-2 : goal.section-requires-2
section-requires-2 c =
    let s = c.end_of-second.ensures.0 in
    (rw s (second_in c.args.file.now c.requires), omega arith)

pub section-requires-3 : goal.section-requires-3
section-requires-3 c =
    let f = c.args.file.now in
    let t = c.end_of-third.ensures.0 ∙ ap (end_of f) c.end_of-second.ensures.0 in
    (rw t (third_in f c.requires), omega arith)

pub invariant_of-result : goal.invariant_of-result
invariant_of-result c =
    let f = c.args.file.now in
    let s = c.end_of-second.ensures.0 in
    let t = c.end_of-third.ensures.0 ∙ ap (end_of f) s in
    let w = formed f c.requires in
    record { few = omega (arith, c.section.ensures.1, c.section-2.ensures.1 ∙ ap (count_at f) s, c.section-3.ensures.1 ∙ ap (count_at f) t, w.first-most, w.second-most, w.third-most) }

pub returns : goal.returns
unfolding events
returns c =
    let f = c.args.file.now in
    let s = c.end_of-second.ensures.0 in
    let t = c.end_of-third.ensures.0 ∙ ap (end_of f) s in
    let one = c.section.ensures.0 in
    let two = c.section-2.ensures.0 ∙ ap (section f) s in
    let three = c.section-3.ensures.0 ∙ ap (section f) t in
    rw (one, two, three)
