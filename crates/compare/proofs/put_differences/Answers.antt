use Prim.Native.Nat.{◌+◌}
use mathlib.Core.Path.{refl, sym, ap}
use native.Mathlib.Omega.{arith}
use native.Mathlib.Nat.{add-zero}
use lib.ListN.{length}
use Rattle.texts.specs.Text.{written}
use Rattle.texts.proofs.Writing.{as_text, both_put, room}
use Rattle.compare.specs.Terms.{one_bytes, bytes_from}
use Rattle.compare.proofs.Below.{from_next, from_most}
use Rattle.compare.proofs.put_differences.Goals as goal

pub loop-i-init : goal.loop-i-init
unfolding written bytes_from
loop-i-init c = record { bytes = refl; behind = sym (add-zero c.args.at) }

pub put_difference-end-requires : goal.put_difference-end-requires
put_difference-end-requires c =
    let a = c.args in
    let i = c.loop-i.i in
    let l = from_most a.first.now a.second.now a.k (i + 1) a.n (omega arith) in
    let e = ap length (from_next a.first.now a.second.now a.k i) in
    (omega arith, room c.loop-i.invariant (one_bytes a.first.now a.second.now (a.k + i)) (omega (arith, l, e, c.requires.1)))

pub loop-i-preserved : goal.loop-i-preserved
loop-i-preserved c =
    let a = c.args in
    as_text (sym (from_next a.first.now a.second.now a.k c.loop-i.i)) (both_put c.loop-i.invariant c.put_difference-end.ensures)
