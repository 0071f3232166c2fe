use Prim.Native.Nat.{ℕ, ◌+◌, ◌/◌, ◌%◌}
use mathlib.Core.Path.{sym}
use mathlib.Core.List.{List, [], ◌∷◌}
use native.Mathlib.Omega.{arith}
use Rattle.texts.specs.Text.{decimal}
use Rattle.texts.proofs.Decimal.{decimal_more}
use Rattle.texts.proofs.Writing.{as_text, both_put, room, front}
use Rattle.texts.proofs.put_number.Goals as goal

abbrev two : ℕ → List ℕ
two n = (48 + n / 10 % 10) ∷ (48 + n % 10) ∷ []

pub put_short-first-requires : goal.put_short-first-requires
put_short-first-requires c =
    let n = c.args.n in
    (omega arith, front (decimal (n / 100)) (two n) c.args.at _ (rw (decimal_more n c.if-n-lt100.false) at c.requires))

pub put_two-requires : goal.put_two-requires
put_two-requires c =
    let n = c.args.n in
    let r = room c.put_short-first.ensures (two n) (rw (decimal_more n c.if-n-lt100.false) at c.requires) in
    omega arith

pub returns-then-n-lt10000 : goal.returns-then-n-lt10000
returns-then-n-lt10000 c =
    let n = c.args.n in
    as_text (sym (decimal_more n c.if-n-lt100.false)) (both_put c.put_short-first.ensures c.put_two.ensures)
