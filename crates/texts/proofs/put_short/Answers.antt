use mathlib.Core.Path.{sym, ap}
use native.Mathlib.Omega.{arith}
use lib.ListN.{length}
use Rattle.texts.proofs.Decimal.{decimal-short, decimal_two}
use Rattle.texts.proofs.Writing.{as_text}
use Rattle.texts.proofs.put_short.Goals as goal

pub put_digit-requires : goal.put_digit-requires
put_digit-requires c =
    omega (arith, ap length (decimal-short c.args.n c.if-n-lt10.true), c.requires.1)

pub returns-then-n-lt10 : goal.returns-then-n-lt10
returns-then-n-lt10 c = as_text (sym (decimal-short c.args.n c.if-n-lt10.true)) c.put_digit.ensures

pub put_two-requires : goal.put_two-requires
put_two-requires c =
    omega (arith, ap length (decimal_two c.args.n c.if-n-lt10.false c.requires.0), c.requires.1)

pub returns : goal.returns
returns c =
    as_text (sym (decimal_two c.args.n c.if-n-lt10.false c.requires.0)) c.put_two.ensures
