use Prim.Native.Nat.{ℕ}
use mathlib.Core.Path.{◌≡◌}
use mathlib.Core.Bool.{false}
use mathlib.Core.List.{List}
use mathlib.Core.Logic.{◌≢◌}
use borrow.Author.Tests.{ne_eqb}
use borrow.Author.Rules.{rules}
use lib.ListN.{length}
use Rattle.registers.specs.Block.{image_bytes}
use Rattle.good.specs.Good.{good_image}
use Rattle.good.proofs.as_good_image.Goals as goal

other_length : (s : List ℕ) → length s ≢ image_bytes → good_image s ≡ false
unfolding good_image
other_length s h = rw (ne_eqb (length s) image_bytes h)

pub returns-in_err-image : goal.returns-in_err-image
returns-in_err-image c = let e = other_length c.args.s.now c.in_err-image.ensures.cases in search rules
