use Prim.Native.Nat.{ℕ, ◌+◌, ◌*◌, ◌<◌}
use mathlib.Core.Path.{◌≡◌}
use lib.ListN.{length, get_or}
use Rattle.words.specs.Word.{word_at}
use Rattle.words.proofs.load_words.Given as goal

abbrev pub invariant-loop-i : goal.invariant-loop-i
invariant-loop-i g l = (length l.word-items ≡ l.i-end) × ((k : ℕ) → k < l.i → get_or l.word-items k 0 ≡ word_at l.s (l.at + 4 * k))
