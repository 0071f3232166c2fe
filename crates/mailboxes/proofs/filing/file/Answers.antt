use Prim.Native.Nat.{ℕ}
use mathlib.Core.Path.{◌∙◌, ap, ap₂}
use mathlib.Core.List.{List}
use Rattle.words.specs.Word.{put_word}
use Rattle.mailboxes.specs.Filing.{filed_identifier, spliced, with_data, filed}
use Rattle.mailboxes.proofs.filing.file.Goals as goal

pub returns : goal.returns
unfolding filed
returns c =
    let a = c.args in
    let d = c.spliced-d.ensures ∙ ap₂ (λ (x n : ℕ). spliced x a.bytes n) c.data_of.ensures c.data_bytes.ensures in
    let w = c.filed_identifier-w.ensures ∙ ap (λ (x : ℕ). filed_identifier x a.ide a.i) c.word_at.ensures in
    let m1 = c.put_word.ensures ∙ ap (put_word a.m.now 0) w in
    let m2 = c.put_word-2.ensures ∙ ap₂ (λ (m : List ℕ) (v : ℕ). put_word m 4 v) m1 c.filed_control.ensures in
    c.put_data.ensures ∙ ap₂ with_data m2 d
