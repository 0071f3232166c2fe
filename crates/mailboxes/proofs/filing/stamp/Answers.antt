use Prim.Native.Nat.{ℕ}
use mathlib.Core.Path.{◌∙◌, ap}
use Rattle.words.specs.Word.{put_word}
use Rattle.mailboxes.specs.Filing.{stamped_control, stamped}
use Rattle.mailboxes.proofs.filing.stamp.Goals as goal

pub returns : goal.returns
unfolding stamped
returns c =
    let a = c.args in
    c.put_word.ensures
    ∙ ap (λ (w : ℕ). put_word a.m.now 4 (stamped_control w a.tsc)) c.word_at-w.ensures
