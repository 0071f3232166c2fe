use native.Mathlib.Omega.{arith}
use Rattle.words.specs.Word.{word_at}
use Rattle.words.proofs.word_at.Goals as goal

pub returns : goal.returns
unfolding word_at
returns c = omega (arith, c.from_le_bytes.ensures)
