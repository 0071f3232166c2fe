use Prim.Native.Nat.{ℕ}
use mathlib.Core.Path.{◌≡◌, sym, ◌∙◌}
use mathlib.Core.Bool.{false}
use mathlib.Core.List.{List}
use Rattle.std.proofs.lemmas.Grind.{common_steps}
use native.Mathlib.Omega.{arith}
use Rattle.good.specs.Good.{good_image}
use Rattle.answers.specs.Answer.{unread}
use Rattle.reading.specs.Read.{read}
use Rattle.reading.proofs.value_or_why.Goals as goal

not_good : (s : List ℕ) (n : ℕ) → good_image s ≡ false → read s n ≡ unread 1
unfolding read
not_good s n h = rw h

pub returns-in_err-image : goal.returns-in_err-image
returns-in_err-image c =
    let none = rw c.in_err-image.ensures.ok_part at c.as_good_image.ensures in
    let e = not_good c.args.image.now c.args.number none in
    let w = c.in_err-image.ensures.value in
    grind (arith, common_steps)

pub returns-then-not-is_readable : goal.returns-then-not-is_readable
unfolding read
returns-then-not-is_readable c =
    let good = rw c.in_ok-image.ensures.ok_part at c.as_good_image.ensures in
    let m = c.load-m in
    rw (good.0, sym good.1, sym m.ensures, sym m.result.of_image, sym c.is_ecan.ensures, sym c.is_readable.ensures ∙ c.if-not-is_readable.true)

pub returns : goal.returns
unfolding read
returns c =
    let good = rw c.in_ok-image.ensures.ok_part at c.as_good_image.ensures in
    let m = c.load-m in
    rw (good.0, sym good.1, sym m.ensures, sym m.result.of_image, sym c.is_ecan.ensures, sym c.is_readable.ensures ∙ c.if-not-is_readable.false, c.value.ensures)
