use mathlib.Core.Path.{◌≡◌, sym, ◌∙◌}
use mathlib.Core.Bool.{Bool, true, false, ◌&&◌}
use Rattle.good.specs.Good.{good_spare}
use Rattle.good.proofs.good_spare.Goals as goal

-- the first two words decide, or leave it to the others
ends : (x y z : Bool) → x ≡ false → ((x && y) && z) ≡ false
ends x y z h = rw h

goes_on : (x y z : Bool) → x ≡ true → ((x && y) && z) ≡ (y && z)
goes_on x y z h = rw h

pub returns-then-not-are_zero : goal.returns-then-not-are_zero
unfolding good_spare
returns-then-not-are_zero c = sym (ends _ _ _ (sym c.are_zero.ensures ∙ c.if-not-are_zero.true))

pub returns : goal.returns
unfolding good_spare
returns c = c.are_zero-2.ensures ∙ sym (goes_on _ _ _ (sym c.are_zero.ensures ∙ c.if-not-are_zero.false))
