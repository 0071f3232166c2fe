use mathlib.Core.Path.{◌∙◌}
use Rattle.registers.specs.Block.{block_of, of_parts}
use Rattle.registers.proofs.Block.load.Goals as goal

pub returns : goal.returns
unfolding block_of
returns c =
    let row = c.load_words-row.ensures in
    let guard = c.word_at.ensures in
    let kind = c.word_at-2.ensures in
    c.from_words.ensures ∙ (λ i. of_parts (row i) (guard i) (kind i))
