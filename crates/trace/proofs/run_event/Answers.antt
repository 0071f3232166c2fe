use Rattle.model.specs.Step.{step}
use Rattle.texts.proofs.Writing.{as_text}
use Rattle.trace.proofs.Answers.{step_small, line_of_lem}
use Rattle.trace.proofs.run_event.Goals as goal

pub put_line-requires : goal.put_line-requires
put_line-requires c =
    let s = c.args.image.now in
    let e = c.args.event.now in
    let l = line_of_lem (step s e) (step_small s e) c.step-answer.result c.step-answer.ensures.answered c.args.number in
    rw l c.requires

pub returns : goal.returns
returns c =
    let s = c.args.image.now in
    let e = c.args.event.now in
    let l = line_of_lem (step s e) (step_small s e) c.step-answer.result c.step-answer.ensures.answered c.args.number in
    (as_text l c.put_line.ensures, c.step-answer.ensures.image)
