use Prim.Native.Nat.{ℕ, ◌+◌, ◌*◌}
use mathlib.Core.Path.{◌≡◌, ◌∙◌, ap, ap₂}
use native.Mathlib.Omega.{arith}
use lib.Dec.{eqb}
use Rattle.words.specs.Word.{word_at}
use Rattle.words.proofs.Bytes.{word_lt}
use Rattle.compare.specs.Compare.{image_word}
use Rattle.compare.proofs.Below.{same_double}
use Rattle.compare.proofs.same_two.Goals as goal

pub returns : goal.returns
returns c =
    let a = c.args in
    let n : 4 * a.k + 4 ≡ 4 * (a.k + 1) = omega arith in
    ap₂ eqb c.long_at.ensures c.long_at-2.ensures
    ∙ ap (λ (m : ℕ). eqb (word_at a.first.now (4 * a.k) + 4294967296 * word_at a.first.now m) (word_at a.second.now (4 * a.k) + 4294967296 * word_at a.second.now m)) n
    ∙ same_double _ (image_word a.first.now (a.k + 1)) _ (image_word a.second.now (a.k + 1))
    (word_lt a.first.now (record { small = c.fits-first }) (4 * a.k))
    (word_lt a.second.now (record { small = c.fits-second }) (4 * a.k))
