use Prim.Native.Nat.{ℕ, ◌+◌, ◌*◌}
use mathlib.Core.Path.{refl, sym, ◌∙◌, ap}
use native.Mathlib.Omega.{arith}
use native.Mathlib.Numerals.{add-one}
use mathlib.Core.List.{List}
use lib.ListN.{get_or, take}
use Rattle.words.specs.Word.{put_word, put_words}
use Rattle.words.proofs.Rows.{put_more}
use Rattle.words.proofs.put_words.Goals as goal

pub loop-i-init : goal.loop-i-init
unfolding put_words
loop-i-init g c = refl

pub loop-i-preserved : goal.loop-i-preserved
loop-i-preserved g c =
    let l = c.loop-i in
    let a = c.args in
    c.put_word.ensures
    ∙ ap (λ (x : List ℕ). put_word x (a.at + 4 * l.i) (get_or a.row l.i 0)) l.invariant
    ∙ sym (put_more a.s.now a.at a.row l.i (omega arith))
    ∙ ap (λ (n : ℕ). put_words a.s.now a.at (take n a.row)) (sym (add-one l.i))
