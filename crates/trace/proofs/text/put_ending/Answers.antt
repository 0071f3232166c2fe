use Rattle.texts.specs.Text.{field}
use Rattle.trace.specs.Trace.{end_word, feed}
use Rattle.texts.proofs.Writing.{both_put, room, front}
use Rattle.trace.specs.Trace.{ending}
use Rattle.trace.proofs.text.put_ending.Goals as goal

pub put_text-a-requires : goal.put_text-a-requires
unfolding ending
put_text-a-requires c = front end_word (field c.args.n feed) c.args.at _ c.requires

pub put_field-requires : goal.put_field-requires
unfolding ending
put_field-requires c = room c.put_text-a.ensures (field c.args.n feed) c.requires

pub returns : goal.returns
unfolding ending
returns c = both_put c.put_text-a.ensures c.put_field.ensures
