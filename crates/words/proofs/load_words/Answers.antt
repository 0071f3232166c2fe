use mathlib.Core.Path.{sym, ◌∙◌}
use native.Mathlib.Omega.{arith}
use lib.Seq.{ext_get_or}
use Rattle.words.proofs.Rows.{length-words, word_of}
use Rattle.words.proofs.load_words.Goals as goal

pub returns : goal.returns
returns g c =
    let l = c.loop-i in
    let a = c.args in
    ext_get_or 0 _ _ (omega arith ∙ sym (length-words a.s.now a.at _))
    (λ k hk. l.invariant.1 k (omega arith) ∙ sym (word_of a.s.now a.at _ k (omega arith)))
