use Rattle.texts.proofs.Writing.{put_down}
use Rattle.texts.proofs.tell.Goals as goal

pub returns : goal.returns
returns c = put_down c.if-out-list.false c.put_text.ensures c.pack.ensures
