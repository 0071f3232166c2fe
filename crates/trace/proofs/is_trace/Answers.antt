use mathlib.Core.Path.{◌∙◌, ap}
use Rattle.trace.specs.Trace.{end_of, sound}
use Rattle.trace.specs.Trace.{well_formed}
use Rattle.trace.proofs.is_trace.Goals as goal

pub returns : goal.returns
unfolding well_formed
returns c =
    let f = c.args.file.now in
    let s = c.end_of-second.ensures.0 in
    let t = c.end_of-third.ensures.0 ∙ ap (end_of f) s in
    let e = c.end_of-end.ensures.0 ∙ ap (end_of f) t in
    let one = c.is_sound.ensures in
    let two = c.is_sound-2.ensures ∙ ap (sound 2 f) s in
    let three = c.is_sound-3.ensures ∙ ap (sound 3 f) t in
    rw (one, two, three, e)
