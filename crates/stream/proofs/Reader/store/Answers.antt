use Rattle.stream.proofs.Kept.{numbers-put}
use native.Mathlib.Omega.{arith}
use Rattle.stream.proofs.Reader.store.Goals as goal

pub returns : goal.returns
returns c =
    numbers-put c.args.self (omega arith) c.put_word-a.ensures c.put_word-b.ensures c.put_word-c.ensures c.put_word.ensures
