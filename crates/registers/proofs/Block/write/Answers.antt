use Prim.Native.Nat.{◌≤◌}
use mathlib.Core.Path.{sym, ◌∙◌, ap}
use native.Mathlib.Omega.{arith}
use lib.Dec.{lit<}
use Rattle.bits.proofs.Below.{past}
use Rattle.registers.specs.Block.{with_md, with_ta, with_aa, with_mbtif, with_mbrif}
use Rattle.registers.proofs.Table.{written_at, written_protection, written_none}
use Rattle.registers.proofs.Block.write.Goals as goal

pub returns-in-2 : goal.returns-in-2
returns-in-2 c = c.request.ensures ∙ sym (written_at c.args.self c.args.t 2 c.args.v c.in-2.is (lit< tt))

pub returns-in-3 : goal.returns-in-3
returns-in-3 c = c.cancel.ensures ∙ sym (written_at c.args.self c.args.t 3 c.args.v c.in-3.is (lit< tt))

pub returns-in-6 : goal.returns-in-6
returns-in-6 c = c.release.ensures ∙ sym (written_at c.args.self c.args.t 6 c.args.v c.in-6.is (lit< tt))

pub returns-in-15 : goal.returns-in-15
returns-in-15 c = c.note.ensures ∙ sym (written_at c.args.self c.args.t 15 c.args.v c.in-15.is (lit< tt))

pub returns-in-0 : goal.returns-in-0
returns-in-0 c = sym (written_at c.args.self c.args.t 0 c.args.v c.in-0.is (lit< tt))

pub returns-in-1 : goal.returns-in-1
returns-in-1 c = ap (with_md c.args.self) c.direction-md.ensures ∙ sym (written_at c.args.self c.args.t 1 c.args.v c.in-1.is (lit< tt))

pub returns-in-4 : goal.returns-in-4
returns-in-4 c = ap (with_ta c.args.self) c.without.ensures ∙ sym (written_at c.args.self c.args.t 4 c.args.v c.in-4.is (lit< tt))

pub returns-in-5 : goal.returns-in-5
returns-in-5 c = ap (with_aa c.args.self) c.without-in-5.ensures ∙ sym (written_at c.args.self c.args.t 5 c.args.v c.in-5.is (lit< tt))

pub returns-in-7 : goal.returns-in-7
returns-in-7 c = sym (written_at c.args.self c.args.t 7 c.args.v c.in-7.is (lit< tt))

pub returns-in-8 : goal.returns-in-8
returns-in-8 c = sym (written_at c.args.self c.args.t 8 c.args.v c.in-8.is (lit< tt))

pub returns-in-9 : goal.returns-in-9
returns-in-9 c = sym (written_at c.args.self c.args.t 9 c.args.v c.in-9.is (lit< tt))

pub returns-in-10 : goal.returns-in-10
returns-in-10 c = sym (written_at c.args.self c.args.t 10 c.args.v c.in-10.is (lit< tt))

pub returns-in-11 : goal.returns-in-11
returns-in-11 c = sym (written_at c.args.self c.args.t 11 c.args.v c.in-11.is (lit< tt))

pub returns-in-12 : goal.returns-in-12
returns-in-12 c = ap (with_mbtif c.args.self) c.without-in-12.ensures ∙ sym (written_at c.args.self c.args.t 12 c.args.v c.in-12.is (lit< tt))

pub returns-in-13 : goal.returns-in-13
returns-in-13 c = ap (with_mbrif c.args.self) c.without-in-13.ensures ∙ sym (written_at c.args.self c.args.t 13 c.args.v c.in-13.is (lit< tt))

pub returns-in-14 : goal.returns-in-14
returns-in-14 c = sym (written_at c.args.self c.args.t 14 c.args.v c.in-14.is (lit< tt))

pub returns-in-16 : goal.returns-in-16
returns-in-16 c = sym (written_at c.args.self c.args.t 16 c.args.v c.in-16.is (lit< tt))

pub returns-in-17 : goal.returns-in-17
returns-in-17 c = sym (written_at c.args.self c.args.t 17 c.args.v c.in-17.is (lit< tt))

pub returns-in-18 : goal.returns-in-18
returns-in-18 c = sym (written_at c.args.self c.args.t 18 c.args.v c.in-18.is (lit< tt))

pub returns-in-19 : goal.returns-in-19
returns-in-19 c = sym (written_at c.args.self c.args.t 19 c.args.v c.in-19.is (lit< tt))

pub returns-in-96 : goal.returns-in-96
returns-in-96 c = sym (written_protection c.args.self c.args.t c.args.v c.in-96.is)

pub returns-in_default : goal.returns-in_default
returns-in_default c =
    let r = c.in_default.in_default-own.rest in
    let h : 20 ≤ c.args.t = past 19 (past 18 (past 17 (past 16 (past 15 (past 14 (past 13 (past 12 (past 11 (past 10 (past 9 (past 8 (past 7 (past 6 (past 5 (past 4 (past 3 (past 2 (past 1 (past 0 (omega arith) r.0.0.0.0.0.0.0.0.0.0.0.0.0.0.0.0.0.0.0.0.1) r.0.0.0.0.0.0.0.0.0.0.0.0.0.0.0.0.0.0.0.1) r.0.0.0.0.0.0.0.0.0.0.0.0.0.0.0.0.0.0.1) r.0.0.0.0.0.0.0.0.0.0.0.0.0.0.0.0.0.1) r.0.0.0.0.0.0.0.0.0.0.0.0.0.0.0.0.1) r.0.0.0.0.0.0.0.0.0.0.0.0.0.0.0.1) r.0.0.0.0.0.0.0.0.0.0.0.0.0.0.1) r.0.0.0.0.0.0.0.0.0.0.0.0.0.1) r.0.0.0.0.0.0.0.0.0.0.0.0.1) r.0.0.0.0.0.0.0.0.0.0.0.1) r.0.0.0.0.0.0.0.0.0.0.1) r.0.0.0.0.0.0.0.0.0.1) r.0.0.0.0.0.0.0.0.1) r.0.0.0.0.0.0.0.1) r.0.0.0.0.0.0.1) r.0.0.0.0.0.1) r.0.0.0.0.1) r.0.0.0.1) r.0.0.1) r.0.1 in
    sym (written_none c.args.self c.args.t c.args.v h r.1)
