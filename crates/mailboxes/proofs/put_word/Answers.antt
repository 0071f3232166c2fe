use Prim.Native.Nat.{◌*◌}
use Rattle.words.specs.Word.{put_word}
use Rattle.mailboxes.proofs.Laws.{lent}
use Rattle.mailboxes.proofs.put_word.Goals as goal

pub returns : goal.returns
returns c =
    let a = c.args in
    lent a.s.now a.n (λ m. put_word m (4 * a.k) a.v) _ c.write_word.ensures
