use Prim.Native.Nat.{ℕ, ◌+◌, ◌*◌, ◌/◌, ◌%◌, ◌^◌, ◌<◌}
use mathlib.Core.Path.{◌≡◌, ◌∙◌, ap, ap₂}
use mathlib.Core.Bool.{◌&&◌}
use native.Mathlib.Omega.{arith}
use Rattle.bits.specs.Tests.{gap_down}
use Rattle.words.specs.Word.{word_at}
use Rattle.words.proofs.Bytes.{word_lt}
use Rattle.registers.specs.Block.{masks_at}
use Rattle.good.specs.Gathered.{bare}
use Rattle.good.proofs.Masks.{bare_pair}
use Rattle.good.proofs.PairGather.one.Goals as goal

pub returns : goal.returns
returns c =
    let s = c.args.s.now in
    let k = c.args.k in
    let j = k % 8 * 2 + k / 8 in
    let h : word_at s (masks_at + 8 * j) < 2 ^ 32 = word_lt s (record { small = c.fits-s }) (masks_at + 8 * j) in
    let first : masks_at + 8 * j ≡ masks_at + 4 * (2 * j) = omega arith in
    let second : masks_at + 8 * j + 4 ≡ masks_at + 4 * (2 * j + 1) = omega arith in
    ap bare c.long_at.ensures
    ∙ bare_pair (word_at s (masks_at + 8 * j)) (word_at s (masks_at + 8 * j + 4)) h
    ∙ ap₂ (λ (a b : ℕ). gap_down (word_at s a) && gap_down (word_at s b)) first second
