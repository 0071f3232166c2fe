use mathlib.Core.Path.{sym, ap}
use mathlib.Core.List.{[], ◌∷◌}
use native.Mathlib.Omega.{arith}
use lib.ListN.{length}
use Prim.Native.Nat.{◌+◌, ◌%◌, ◌/◌}
use Rattle.texts.specs.Text.{decimal}
use Rattle.texts.proofs.Decimal.{decimal-short, decimal_long}
use Rattle.texts.proofs.Writing.{as_text, both_put, room, front}
use Rattle.texts.proofs.+put_long.Goals as goal

pub put_digit-requires : goal.put_digit-requires
put_digit-requires t c =
    let e = ap length (decimal-short c.args.n c.if-n-lt10.true) in
    omega (arith, c.requires)

pub returns-then-n-lt10 : goal.returns-then-n-lt10
returns-then-n-lt10 t c = as_text (sym (decimal-short c.args.n c.if-n-lt10.true)) c.put_digit.ensures

pub put_long-last-requires : goal.put_long-last-requires
put_long-last-requires t c =
    let n = c.args.n in
    let l = c.if-n-lt10.false in
    (omega arith, front (decimal (n / 10)) ((48 + n % 10) ∷ []) c.args.at _ (rw (decimal_long n l) at c.requires))

pub put_digit-requires-2 : goal.put_digit-requires-2
put_digit-requires-2 t c =
    let n = c.args.n in
    let l = c.if-n-lt10.false in
    let r = room c.put_long-last.ensures ((48 + n % 10) ∷ []) (rw (decimal_long n l) at c.requires) in
    omega arith

pub returns : goal.returns
returns t c =
    let n = c.args.n in
    let l = c.if-n-lt10.false in
    as_text (sym (decimal_long n l)) (both_put c.put_long-last.ensures c.put_digit-2.ensures)
