use Rattle.texts.proofs.Writing.{both_put}
use Rattle.texts.proofs.put_field.Goals as goal

pub returns : goal.returns
returns c = both_put c.put_number-last.ensures c.put.ensures
