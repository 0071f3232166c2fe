use Rattle.texts.proofs.Writing.{both_put}
use Rattle.compare.proofs.put_entry.Goals as goal

pub returns : goal.returns
returns c =
    both_put c.put_word-a.ensures (both_put c.put_word-b.ensures c.put_word.ensures)
