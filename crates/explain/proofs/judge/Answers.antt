use Prim.Native.Nat.{◌<◌}
use mathlib.Core.Path.{◌≡◌, sym, ◌∙◌}
use mathlib.Core.Bool.{false}
use native.Mathlib.Omega.{arith}
use Rattle.bits.specs.Bit.{bit}
use Rattle.explain.specs.declared.Reason.TheVariants.{BitDiffers}
use Rattle.explain.specs.Explain.{bit_reason}
use Rattle.explain.proofs.Reasons.{by_highest, by_bits, by_none}
use Rattle.explain.proofs.judge.Goals.{After-highest, After-if}
use Rattle.explain.proofs.judge.Goals as goal

-- what the tests before have told
same_format : (c : After-if) → bit c.args.differing 31 ≡ false
same_format c = sym c.test.ensures ∙ c.if-test.false

named : (c : After-highest) → (c.highest.result < 29) × (bit_reason c.args.passes (bit c.args.differing) 29 ≡ BitDiffers c.highest.result)
named c =
    by_highest c.args.passes c.args.differing c.highest.result c.ranges.differing.fits (same_format (goal.at.After-highest c).After-if) c.requires.0 c.requires.1 c.highest.ensures

pub returns-then-differing-eq0 : goal.returns-then-differing-eq0
returns-then-differing-eq0 c = let a = c.args in c.matched.ensures ∙ sym (by_none a.passes a.differing c.if-differing-eq0.true)

pub overflow_cast-result : goal.overflow_cast-result
overflow_cast-result c = let l = (named (goal.at.overflow_cast-result c).After-highest).0 in omega arith

pub returns : goal.returns
returns c = sym (by_bits c.args.passes (bit c.args.differing) (same_format (goal.at.returns c).After-if) ∙ (named (goal.at.returns c).After-highest).1)
