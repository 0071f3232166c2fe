use Rattle.stream.proofs.Loops.{zero_end, zero_broken, zero-onward, word-onward, word_broken}
use mathlib.Core.Path.{◌∙◌}
use native.Mathlib.Omega.{arith}
use Rattle.stream.proofs.is_zero_from.Goals as goal

pub returns-then-word_at-ne0 : goal.returns-then-word_at-ne0
returns-then-word_at-ne0 c =
    word_broken c.args.state.now c.loop-i.i (omega (arith, c.if-i-eq0.true)) (λ z. omega (arith, c.word_at.ensures)) ∙ c.loop-i.invariant

pub loop-i-preserved-then-i-eq0 : goal.loop-i-preserved-then-i-eq0
loop-i-preserved-then-i-eq0 c =
    word-onward c.args.state.now c.loop-i.i (omega (arith, c.if-i-eq0.true)) (omega (arith, c.word_at.ensures)) ∙ c.loop-i.invariant

pub returns-then-state-i-ne0 : goal.returns-then-state-i-ne0
returns-then-state-i-ne0 c =
    zero_broken c.args.state.now c.loop-i.i (omega arith) (λ z. omega arith) ∙ c.loop-i.invariant

pub loop-i-preserved : goal.loop-i-preserved
loop-i-preserved c =
    zero-onward c.args.state.now c.loop-i.i (omega arith) (omega arith) ∙ c.loop-i.invariant

pub returns : goal.returns
returns c =
    zero_end c.args.state.now c.loop-i.i (omega arith) ∙ c.loop-i.invariant
