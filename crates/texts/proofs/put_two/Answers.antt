use Rattle.texts.proofs.Writing.{both_put}
use Rattle.texts.proofs.put_two.Goals as goal

pub returns : goal.returns
returns c = both_put c.put_digit-last.ensures c.put_digit.ensures
