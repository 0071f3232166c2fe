use Prim.Native.Nat.{ℕ}
use mathlib.Core.Path.{◌∙◌, ap}
use mathlib.Core.List.{List}
use Rattle.words.specs.Word.{put_word, put_words}
use Rattle.registers.specs.Block.{put_block, registers_at, protection_at, profile_at}
use Rattle.registers.proofs.Block.store.Goals as goal

pub returns : goal.returns
unfolding put_block put_words
returns c =
    let b = c.args.self in
    let first = c.put_words.ensures ∙ ap (put_words _ registers_at) c.to_words.ensures in
    let guarded = c.put_word.ensures ∙ ap (λ (l : List ℕ). put_word l protection_at b.protection) first in
    c.put_word-2.ensures ∙ ap (λ (l : List ℕ). put_word l profile_at b.profile) guarded
