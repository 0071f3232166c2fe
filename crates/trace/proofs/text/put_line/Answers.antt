use Rattle.texts.specs.Text.{field}
use Rattle.trace.specs.Trace.{space, feed}
use mathlib.Core.List.{◌++◌}
use Rattle.texts.proofs.Writing.{both_put, room, front}
use Rattle.trace.specs.Trace.{line_of}
use Rattle.trace.proofs.text.put_line.Goals as goal

pub put_field-a-requires : goal.put_field-a-requires
unfolding line_of
put_field-a-requires c = front (field c.args.number space) (field c.args.code space ++ (field c.args.mailbox space ++ field c.args.count feed)) c.args.at _ c.requires

pub put_field-b-requires : goal.put_field-b-requires
unfolding line_of
put_field-b-requires c = front (field c.args.code space) (field c.args.mailbox space ++ field c.args.count feed) _ _ (room c.put_field-a.ensures _ c.requires)

pub put_field-c-requires : goal.put_field-c-requires
unfolding line_of
put_field-c-requires c = front (field c.args.mailbox space) (field c.args.count feed) _ _ (room c.put_field-b.ensures _ (room c.put_field-a.ensures _ c.requires))

pub put_field-requires : goal.put_field-requires
unfolding line_of
put_field-requires c = room c.put_field-c.ensures _ (room c.put_field-b.ensures _ (room c.put_field-a.ensures _ c.requires))

pub returns : goal.returns
unfolding line_of
returns c = both_put c.put_field-a.ensures (both_put c.put_field-b.ensures (both_put c.put_field-c.ensures c.put_field.ensures))
